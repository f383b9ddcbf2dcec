-- The type of an expression.
use Rattle.std.specs.Prelude.{◌≡◌, ⊤, Option, Some, None, Result, Ok, Err}
use Rattle.sim_base.specs.declared.rule.Rule.TheVariants as r
use Rattle.sim_tree.specs.declared.expr.Expr.{Expr}
use Rattle.sim_tree.specs.SyntaxOf.{syntax_of}
use Rattle.sim_scope.specs.declared.found.Fault.{Fault}
use Rattle.sim_scope.specs.declared.outcome.Extent.TheVariants.{Statement}
use Rattle.sim_scope.specs.declared.outcome.Side.{Side}
use Rattle.sim_scope.specs.declared.refusal.StaticRefusal.{StaticRefusal}
use Rattle.sim_scope.specs.declared.refusal.StaticRefusal.TheVariants as refusal
use Rattle.sim_scope.specs.declared.types.SimType.{SimType}
use Rattle.sim_scope.specs.Expressions.{judge_side}
use Rattle.sim_scope.specs.Found.{after, unknown}
use Rattle.sim_scope.specs.Judged.{Judged}
use Rattle.sim_scope.specs.Tables.{Tables}

-- the least rule that is broken in a piece
abbrev pub least_in : Judged Side → Option Fault
least_in j = (after (unknown 0) j.events).least

-- What refuses a type: the least rule that is broken. (Where no declaration breaks a rule, an expression that breaks none has a type; in other
-- tables one without a type is of a wrong one.)
abbrev pub refusing : Side → Option SimType → Option Fault → Option Fault
refusing x ty (Some fault) = Some fault
refusing x (Some ty) None = None
refusing x None None = Some (record { token = x.first; rule = r.WrongType })

abbrev pub IsTypeOf : Judged Side → Result SimType StaticRefusal → Type 0
IsTypeOf j (Ok ty) = (least_in j ≡ None) × (j.value.ty ≡ Some ty)
IsTypeOf j (Err (refusal.Broken rule token)) = refusing j.value j.value.ty (least_in j) ≡ Some (record { token = token; rule = rule })
IsTypeOf j (Err refusal.Memory) = ⊤

-- the type of an expression, where it has one and breaks no rule; else what refuses it
abbrev pub TypeIs : Tables → Expr → Result SimType StaticRefusal → Type 0
TypeIs s e r = IsTypeOf (judge_side s Statement (syntax_of e)) r
