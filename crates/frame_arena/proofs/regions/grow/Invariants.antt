use Rattle.std.proofs.Common.{◌≡◌, ◌+◌, List, length}
use Rattle.sim_code.specs.Machine.{Frames}
use Rattle.frame_arena.specs.declared.frames.Frame.{Frame}
use Rattle.sim_code.specs.Outcome.{ArrayOf}
use Rattle.frame_arena.specs.Arrays.{AllLeadArrays, RegionOf}
use Rattle.frame_arena.specs.Frames.{Holds}
use Rattle.frame_arena.proofs.regions.grow.Given as goal

abbrev pub invariant-loop : goal.invariant-loop
invariant-loop l =
    (length l.slots.items ≡ length l.fn.slots.items + l.counter)
    × ((frames : List Frame) (m : Frames) → Holds frames l.fn.slots.items m → Holds frames l.slots.items m)
    × ((regions : List RegionOf) (arrays : List ArrayOf) → AllLeadArrays regions arrays l.fn.slots.items → AllLeadArrays regions arrays l.slots.items)
