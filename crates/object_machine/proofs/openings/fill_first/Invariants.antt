use Rattle.std.proofs.Common.{◌≡◌, List, length, map, take}
use Rattle.sim_code.specs.Machine.{Frames, first_value}
use Rattle.sim_code.specs.Outcome.{ArrayOf}
use Rattle.frame_arena.specs.Arrays.{AllLeadArrays, RegionOf}
use Rattle.frame_arena.specs.Frames.{Holds, cells_at, frame_at}
use Rattle.object_machine.proofs.openings.fill_first.Given as goal

abbrev pub invariant-loop-at : goal.invariant-loop-at
invariant-loop-at l =
    ((m : Frames) → Holds l.frames l.fn.cells m → Holds l.frames l.cells m × (take l.at (cells_at l.cells (frame_at l.frames l.place).base (length l.types)) ≡ map first_value (take l.at l.types)))
    × ((regions : List RegionOf) (arrays : List ArrayOf) → AllLeadArrays regions arrays l.fn.cells → AllLeadArrays regions arrays l.cells)
