use Rattle.std.proofs.Common.{List}
use Rattle.sim_code.specs.Machine.{Frames}
use Rattle.sim_code.specs.Outcome.{ArrayOf}
use Rattle.frame_arena.specs.Arrays.{AllLeadArrays, RegionOf}
use Rattle.frame_arena.specs.Frames.{AllLead, Holds, Leads}
use Rattle.object_machine.proofs.Called.{FilledTo}
use Rattle.object_machine.proofs.calling.fill.Given as goal

abbrev pub invariant-loop-next : goal.invariant-loop-next
invariant-loop-next l =
    ((m : Frames) → Holds l.frames l.fn.cells m → Leads l.frames m l.home → AllLead l.frames m l.stack → FilledTo l.frames l.cells m l.home.stamp l.first l.stack l.at l.count l.next)
    × ((regions : List RegionOf) (arrays : List ArrayOf) → AllLeadArrays regions arrays l.fn.cells → AllLeadArrays regions arrays l.stack → AllLeadArrays regions arrays l.cells)
