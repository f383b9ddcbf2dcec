-- What an expression is: levels of operators without an operator are none.
use Rattle.std.specs.Prelude.{◌≡◌, ◌≢◌, ⊤, ℕ, length, map}
use Rattle.sim_tree.specs.declared.expr.Expr.{Expr}
use Rattle.sim_tree.specs.Syntax.{Dot, Expression, Named, New, Parentheses, Qua, expressions}
use Rattle.sim_tree.specs.SyntaxOf.{selected, selector_syntax, syntax_of}
use Rattle.codegen_expr.specs.declared.forms.Form.{Form}
use Rattle.codegen_expr.specs.declared.forms.Form.TheVariants as form

-- an expression that is no identifier and no generation, is not taken of another one, and stands in no parentheses
abbrev pub IsOther : Expression → Type 0
IsOther (Named name es) = ⊥
IsOther (Dot token a name es) = ⊥
IsOther (Qua token a class) = ⊥
IsOther (Parentheses token a) = ⊥
IsOther (New token class es) = ⊥
IsOther _ = ⊤

abbrev pub IsNew : Expression → Type 0
IsNew (New token class es) = ⊤
IsNew _ = ⊥

abbrev pub FormIs : Form → Expression → Type 0
FormIs (form.Named name arguments) x = x ≡ Named name.now (expressions (map syntax_of arguments.now))
FormIs (form.Taken primary rest) x = (x ≡ selected (syntax_of primary.now) (map selector_syntax rest.now)) × (length rest.now ≢ 0)
FormIs (form.Closed inner) x = (token : ℕ) × (x ≡ Parentheses token (syntax_of inner.now))
FormIs form.New x = IsNew x
FormIs form.Other x = IsOther x

unfoldable pub FindsForm : Form → Expr → Type 0
FindsForm c x = FormIs c (syntax_of x)
