-- What the parser of expressions does: the expression that the grammar gives from a token on, or the first bad token, or the first that
-- nests too deeply.
use Rattle.std.specs.Prelude.{ℕ, List, Result, Ok, Err}
use Rattle.sim_base.specs.declared.token.Token.{Token}
use Rattle.sim_base.specs.declared.rule.Rule.TheVariants as rule
use Rattle.sim_tree.specs.declared.expr.Expr.{Expr}
use Rattle.sim_tree.specs.Grammar as g
use Rattle.sim_tree.specs.Reading.{Fails, Unexpected, TooDeep}
use Rattle.sim_tree.specs.Claim.{Begins, IsFirstBad, one}
use Rattle.sim_tree.specs.Tree.{limit, IsExpr}
use Rattle.sim_expr_parser.specs.declared.refusal.SyntaxRefusal.{SyntaxRefusal}
use Rattle.sim_expr_parser.specs.declared.refusal.SyntaxRefusal.TheVariants as refusal

-- What `parse_expr` answers: the expression that the grammar gives, with the index after it; or the first bad token; or the first that
-- would begin an expression nested too deeply, before which none is bad.
abbrev pub Answers : (tokens : List Token) (depth start : ℕ) → Result (Expr × ℕ) SyntaxRefusal → Type 0
Answers tokens depth start (Ok read) = IsExpr tokens depth start read.0 read.1
Answers tokens depth start (Err (refusal.Broken rule.UnexpectedToken bad)) =
    Fails limit tokens depth (one g.Expression) start (Unexpected bad.0) × IsFirstBad tokens (one g.Expression) start bad.0
Answers tokens depth start (Err (refusal.Broken rule.NestedTooDeeply deep)) =
    Fails limit tokens depth (one g.Expression) start (TooDeep deep.0) × Begins tokens (one g.Expression) start deep.0
Answers tokens depth start (Err (refusal.Broken _ token)) = ⊥
Answers tokens depth start (Err refusal.Memory) = Unit {0}
