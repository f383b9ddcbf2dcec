-- What an expression is, and what it contributes: what its identifiers denote, the types of its parts, and the rules that it breaks.
use Rattle.std.specs.Prelude.{Option}
use Rattle.sim_tree.specs.Syntax.{Expression, Expressions, NoMore, Then, If, Binary, Not, Signed, Member, Dot, Qua, Constant, Named, This, New, Parentheses, first_of}
use Rattle.sim_scope.specs.declared.outcome.Actuals.{Actuals}
use Rattle.sim_scope.specs.declared.outcome.Extent.{Extent}
use Rattle.sim_scope.specs.declared.outcome.Outcome.{Outcome}
use Rattle.sim_scope.specs.declared.outcome.Side.{Side}
use Rattle.sim_scope.specs.declared.scopes.Denotation.{Denotation}
use Rattle.sim_scope.specs.declared.types.SimType.TheVariants as t
use Rattle.sim_scope.specs.Actuals.{more, no_actuals}
use Rattle.sim_scope.specs.Calls.{attribute, bound, used}
use Rattle.sim_scope.specs.Judged.{Judged, gives, next}
use Rattle.sim_scope.specs.Operators.{literal_type}
use Rattle.sim_scope.specs.Outcomes.{has, in_parentheses, one, side, three, two}
use Rattle.sim_scope.specs.References.{class_named, member, new_object, qualified, this_object}
use Rattle.sim_scope.specs.Tables.{Tables}

-- An expression with an untyped part is judged at that part alone.
unfoldable mutual
  pub judge : Tables → Extent → Expression → Judged Outcome
  judge s e (If i c a b) =
      next (next (judge s e c) (side s (first_of c))) (λ x. next (next (judge s e a) (side s (first_of a))) (λ y.
      next (next (judge s e b) (side s (first_of b))) (λ z. three s i x y z)))
  judge s e (Binary operator i a b) =
      next (next (judge s e a) (side s (first_of a))) (λ x. next (next (judge s e b) (side s (first_of b))) (λ y. two operator i x y))
  judge s e (Not i a) = next (next (judge s e a) (side s (first_of a))) (one t.Boolean i)
  judge s e (Signed sign i a) = next (next (judge s e a) (side s (first_of a))) (one t.Integer i)
  judge s e (Constant literal i) = has i (literal_type literal)
  judge s e (Named x args) = next (bound s e x) (λ o. next (actuals s e o.denotes no_actuals args) (used s x.token.0 x o))
  judge s e (Dot i a x args) =
      next (next (judge s e a) (attribute s e x (first_of a))) (λ o. next (actuals s e o.denotes no_actuals args) (used s i x o))
  judge s e (Parentheses i a) = next (judge s e a) (in_parentheses s (first_of a))
  judge s e (Member m i a class) = next (next (judge s e a) (side s (first_of a))) (λ x. next (class_named s e class) (member s i x class))
  judge s e (Qua i a class) = next (next (judge s e a) (side s (first_of a))) (λ x. next (class_named s e class) (qualified s i x class))
  judge s e (This i class) = next (class_named s e class) (this_object s e i class)
  judge s e (New i class args) = next (class_named s e class) (λ o. next (actuals s e o.denotes no_actuals args) (new_object s i class o))

  -- the actuals of what an identifier denotes
  pub actuals : Tables → Extent → Option Denotation → Actuals → Expressions → Judged Actuals
  actuals s e d a NoMore = gives a
  actuals s e d a (Then x xs) = next (next (judge s e x) (more s d a (first_of x))) (λ b. actuals s e d b xs)

-- an operand: its judgement, and then its value
abbrev pub judge_side : Tables → Extent → Expression → Judged Side
judge_side s e x = next (judge s e x) (side s (first_of x))
