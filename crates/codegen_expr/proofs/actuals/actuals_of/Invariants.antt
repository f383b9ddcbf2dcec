use Rattle.std.proofs.Common.{drop}
use Rattle.codegen_expr.specs.EmitVirtuals.{OwesActualsOf}
use Rattle.codegen_expr.proofs.actuals.actuals_of.Given as goal

abbrev pub invariant-loop-item : goal.invariant-loop-item
invariant-loop-item l = OwesActualsOf l.bound l.draft l.list l.actuals.items (drop l.item-index l.list)
