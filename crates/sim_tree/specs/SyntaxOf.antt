-- The abstract syntax that the tree of an expression stands for.
use Rattle.std.specs.Prelude.{◌≡◌, ℕ, true, false, List, [], ◌∷◌, map, Option, Some, None}
use Rattle.sim_base.specs.declared.numbering.TokenNo.{TokenNo}
use Rattle.sim_tree.specs.declared.expr.Identifier.{Identifier}
use Rattle.sim_tree.specs.declared.expr.LeadingSign.{LeadingSign}
use Rattle.sim_tree.specs.declared.expr.Expr.{Expr}
use Rattle.sim_tree.specs.declared.expr.Expr.TheOpen.{Expr-F, Operand-F, Term-F, Factor-F, Selector-F}
use Rattle.sim_tree.specs.declared.expr.Operand.{Operand}
use Rattle.sim_tree.specs.declared.expr.Term.{Term}
use Rattle.sim_tree.specs.declared.expr.Factor.{Factor}
use Rattle.sim_tree.specs.declared.expr.Selector.{Selector}
use Rattle.sim_tree.specs.declared.expr.Expr.TheFolds.{fold-Expr, fold-Operand, fold-Term, fold-Factor, fold-Selector}
use Rattle.sim_tree.specs.declared.operator.Operator.{Operator}
use Rattle.sim_tree.specs.declared.operator.Operator.TheVariants as o
use Rattle.sim_tree.specs.Syntax.{Expression, If, Binary, Not, Signed, Member, Dot, Qua, Constant, Named, This, New, Parentheses, IntegerValue, CharacterValue, TextValue, BooleanValue, NoObject, NoText, Expressions, expressions, first_of, naming}

-- an operator and its right operand
pub record Tail : Type 0 where
  pub operator : Operator
  pub token : ℕ
  pub operand : Expression

-- operators of one level, from left to right
abbrev pub chain : Expression → List Tail → Expression
chain left [] = left
chain left (t ∷ ts) = chain (Binary t.operator t.token left t.operand) ts

-- the same with one operator
abbrev pub Operands : Type 0
Operands = Operator → Tail

abbrev pub with_operator : Operator → Operands → Tail
with_operator operator t = t operator

abbrev pub negated : List TokenNo → Expression → Expression
negated [] e = e
negated (i ∷ is) e = Not i.0 (negated is e)

abbrev pub signed : Option LeadingSign → Expression → Expression
signed None e = e
signed (Some s) e = Signed s.sign s.token.0 e

-- what is taken of an object
pub data Selection : Type 0 where
  Take : (token : ℕ) → (name : Identifier) → Expressions → Selection
  Cast : (token : ℕ) → (class : Identifier) → Selection

abbrev pub selected : Expression → List Selection → Expression
selected e [] = e
selected e (Take i name args ∷ ss) = selected (Dot i e name args) ss
selected e (Cast i class ∷ ss) = selected (Qua i e class) ss

abbrev pub operand_layer : Operand-F Expression Selection Tail Operands Tail → Operands
operand_layer x operator = record { operator = operator; token = x.token.0; operand = x.operand }

abbrev pub term_layer : Term-F Expression Selection Tail Operands Tail → Tail
term_layer x = record { operator = o.Add x.sign; token = x.token.0; operand = x.term }

abbrev pub factor_layer : Factor-F Expression Selection Tail Operands Tail → Tail
factor_layer x = record { operator = o.Multiply x.operator; token = x.token.0; operand = x.factor }

abbrev pub selector_layer : Selector-F Expression Selection Tail Operands Tail → Selection
selector_layer (Selector-F.Dot i name args) = Take i.0 name (expressions args.items)
selector_layer (Selector-F.Qua i class) = Cast i.0 class

abbrev pub expr_layer : Expr-F Expression Selection Tail Operands Tail → Expression
expr_layer (Expr-F.If i condition first second) = If i.0 condition.value first.value second.value
expr_layer (Expr-F.OrElse first rest) = chain first.value (map (with_operator o.OrElse) rest.items)
expr_layer (Expr-F.AndThen first rest) = chain first.value (map (with_operator o.AndThen) rest.items)
expr_layer (Expr-F.Eqv first rest) = chain first.value (map (with_operator o.Equivalent) rest.items)
expr_layer (Expr-F.Imp first rest) = chain first.value (map (with_operator o.Implies) rest.items)
expr_layer (Expr-F.Or first rest) = chain first.value (map (with_operator o.Or) rest.items)
expr_layer (Expr-F.And first rest) = chain first.value (map (with_operator o.And) rest.items)
expr_layer (Expr-F.Not tokens operand) = negated tokens.items operand.value
expr_layer (Expr-F.Related left i relation right) = Binary (o.Relate relation) i.0 left.value right.value
expr_layer (Expr-F.Member object i membership class) = Member membership i.0 object.value class
expr_layer (Expr-F.Concatenation first rest) = chain first.value (map (with_operator o.Concatenate) rest.items)
expr_layer (Expr-F.Sum sign first rest) = chain (signed sign first.value) rest.items
expr_layer (Expr-F.Product first rest) = chain first.value rest.items
expr_layer (Expr-F.Power first rest) = chain first.value (map (with_operator o.Power) rest.items)
expr_layer (Expr-F.Postfix primary rest) = selected primary.value rest.items
expr_layer (Expr-F.Integer i value) = Constant (IntegerValue value) i.0
expr_layer (Expr-F.Character i value) = Constant (CharacterValue value) i.0
expr_layer (Expr-F.Text i value) = Constant (TextValue value) i.0
expr_layer (Expr-F.True i) = Constant (BooleanValue true) i.0
expr_layer (Expr-F.False i) = Constant (BooleanValue false) i.0
expr_layer (Expr-F.NoObject i) = Constant NoObject i.0
expr_layer (Expr-F.Notext i) = Constant NoText i.0
expr_layer (Expr-F.Named name args) = Named name (expressions args.items)
expr_layer (Expr-F.This i class) = This i.0 class
expr_layer (Expr-F.New i class args) = New i.0 class (expressions args.items)
expr_layer (Expr-F.Parentheses i inner) = Parentheses i.0 inner.value

unfoldable pub syntax_of : Expr → Expression
syntax_of = fold-Expr Expression Selection Tail Operands Tail expr_layer selector_layer factor_layer operand_layer term_layer

unfoldable pub operand_syntax : Operand → Operands
operand_syntax = fold-Operand Expression Selection Tail Operands Tail expr_layer selector_layer factor_layer operand_layer term_layer

unfoldable pub term_syntax : Term → Tail
term_syntax = fold-Term Expression Selection Tail Operands Tail expr_layer selector_layer factor_layer operand_layer term_layer

unfoldable pub factor_syntax : Factor → Tail
factor_syntax = fold-Factor Expression Selection Tail Operands Tail expr_layer selector_layer factor_layer operand_layer term_layer

unfoldable pub selector_syntax : Selector → Selection
selector_syntax = fold-Selector Expression Selection Tail Operands Tail expr_layer selector_layer factor_layer operand_layer term_layer

-- a token is the first one of an expression
unfoldable pub FirstIs : TokenNo → Expr → Type 0
FirstIs i e = i.0 ≡ first_of (syntax_of e)

-- a token is the one that names an expression
unfoldable pub NamingIs : TokenNo → Expr → Type 0
NamingIs i e = i.0 ≡ naming (syntax_of e)

-- the token of what is taken of an object
abbrev pub selecting : Selection → ℕ
selecting (Take i name args) = i
selecting (Cast i class) = i

unfoldable pub SelectorIs : TokenNo → Selector → Type 0
SelectorIs i x = i.0 ≡ selecting (selector_syntax x)
