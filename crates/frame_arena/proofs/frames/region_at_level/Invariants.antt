use Rattle.std.proofs.Common.{◌≡◌, ◌-◌, suc, List}
use Rattle.sim_code.specs.Instances.{at_level, level_within}
use Rattle.sim_code.specs.Machine.{Frames}
use Rattle.frame_arena.specs.declared.slot.Slot.{Slot}
use Rattle.frame_arena.specs.Frames.{Holds, Leads}
use Rattle.frame_arena.proofs.frames.region_at_level.Given as goal

abbrev pub invariant-loop : goal.invariant-loop
invariant-loop l =
    (cells : List Slot) (m : Frames) → Holds l.frames cells m → Leads l.frames m l.fn.home →
    Leads l.frames m l.at × (at_level m l.level l.fn.home.stamp ≡ level_within (suc l.fn.home.stamp - l.counter) m l.level l.at.stamp)
