use Rattle.std.proofs.Common.{◌≡◌, ◌≤◌, ◌++◌, List, length}
use Rattle.sim_code.specs.declared.code.CodeType.{CodeType}
use Rattle.codegen.proofs.records.pad.Given as goal

abbrev pub invariant-loop-done : goal.invariant-loop-done
invariant-loop-done l = ((temps : List CodeType) × (l.types.items ≡ l.fn.types.items ++ temps)) × (l.done ≤ length l.types.items)
