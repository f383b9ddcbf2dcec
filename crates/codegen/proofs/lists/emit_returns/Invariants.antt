use Rattle.std.proofs.Common.{◌≤◌, ◌-◌, drop, length}
use Rattle.codegen.specs.EmitShared.{OwesReturns}
use Rattle.codegen.specs.ForElements.{in_list}
use Rattle.codegen.proofs.lists.emit_returns.Given as goal

abbrev pub invariant-loop-number : goal.invariant-loop-number
invariant-loop-number l = (l.number ≤ length (in_list l.elements) - 1) × OwesReturns l.bound l.spot l.fn.draft (in_list l.elements) l.draft l.number (drop l.number (in_list l.elements))
