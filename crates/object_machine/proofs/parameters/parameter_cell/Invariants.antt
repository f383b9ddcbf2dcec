use Rattle.std.proofs.Common.{◌≡◌, ◌-◌}
use Rattle.sim_code.specs.Code.{CodeOf}
use Rattle.sim_code.specs.Levels.{parameter_cell, parameter_within}
use Rattle.object_machine.proofs.parameters.parameter_cell.Given as goal

abbrev pub invariant-loop : goal.invariant-loop
invariant-loop l = (code : CodeOf) → code.blocks ≡ l.blocks → code.classes ≡ l.classes → parameter_cell code l.class l.number ≡ parameter_within (l.class - l.counter) code l.at l.number
