use Rattle.std.proofs.Common.{◌≡◌, ◌-◌, List}
use Rattle.std.specs.Prelude.{Some}
use Rattle.sim_values.specs.declared.value.FrameRef.{FrameRef}
use Rattle.sim_chains.specs.Heads.{head_of, head_within}
use Rattle.sim_code.specs.Instances.{encloser_of, is_object_at}
use Rattle.sim_code.specs.Machine.{Frames}
use Rattle.frame_arena.specs.declared.slot.Slot.{Slot}
use Rattle.frame_arena.specs.Frames.{Holds, Leads, frame_at, number_in}
use Rattle.frame_arena.proofs.heads.system_head.Given as goal

abbrev pub invariant-loop : goal.invariant-loop
invariant-loop l =
    (cells : List Slot) (m : Frames) → Holds l.frames cells m →
    head_of (encloser_of m) (is_object_at m) (frame_at l.frames l.place).number ≡ head_within (encloser_of m) (is_object_at m) ((frame_at l.frames l.place).number - l.counter) (number_in l.at)
