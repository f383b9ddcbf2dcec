use Rattle.std.proofs.Common.{◌≡◌, ◌++◌, drop}
use Rattle.codegen.proofs.plan.copy_types.Given as goal

abbrev pub invariant-loop-item : goal.invariant-loop-item
invariant-loop-item l = l.copy.items ++ drop l.item-index l.types ≡ l.types
