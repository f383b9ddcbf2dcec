use Rattle.std.proofs.Common.{◌≡◌, ◌<◌, ℕ}
use Rattle.sim_code.specs.Code.{CodeOf}
use Rattle.sim_code.specs.Levels.{parameter_cell}
use Rattle.object_machine.proofs.ParameterCells.{Placed}
use Rattle.object_machine.proofs.parameters.are_supplied.Given as goal

abbrev pub invariant-loop-number : goal.invariant-loop-number
invariant-loop-number l = (code : CodeOf) → code.blocks ≡ l.blocks → code.classes ≡ l.classes → (k : ℕ) → k < l.number → Placed (parameter_cell code l.class) l.cells k
