use Rattle.std.proofs.Common.{◌≡◌, ◌++◌, drop}
use Rattle.codegen.proofs.plan.add_types.Given as goal

abbrev pub invariant-loop-item : goal.invariant-loop-item
invariant-loop-item l = l.types.items ++ drop l.item-index l.more ≡ l.fn.types.items ++ l.more
