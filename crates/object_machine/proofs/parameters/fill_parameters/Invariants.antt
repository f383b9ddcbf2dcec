use Rattle.std.proofs.Common.{◌≡◌, List}
use Rattle.sim_code.specs.Code.{CodeOf}
use Rattle.sim_code.specs.Levels.{parameter_cell}
use Rattle.sim_code.specs.Machine.{Frames}
use Rattle.sim_code.specs.Outcome.{ArrayOf}
use Rattle.frame_arena.specs.Arrays.{AllLeadArrays, RegionOf}
use Rattle.frame_arena.specs.Frames.{AllLead, Holds, Leads}
use Rattle.object_machine.proofs.ParameterCells.{FilledBy}
use Rattle.object_machine.proofs.parameters.fill_parameters.Given as goal

abbrev pub invariant-loop-number : goal.invariant-loop-number
invariant-loop-number l =
    ((code : CodeOf) (m : Frames) → code.blocks ≡ l.blocks → code.classes ≡ l.classes → Holds l.frames l.fn.cells m → Leads l.frames m l.home → AllLead l.frames m l.stack → FilledBy l.frames l.cells m l.home.stamp (parameter_cell code l.class) l.stack l.at l.count l.number)
    × ((regions : List RegionOf) (arrays : List ArrayOf) → AllLeadArrays regions arrays l.fn.cells → AllLeadArrays regions arrays l.stack → AllLeadArrays regions arrays l.cells)
