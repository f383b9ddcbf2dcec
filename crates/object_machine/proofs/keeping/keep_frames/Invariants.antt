use Rattle.std.proofs.Common.{◌≡◌, ◌≤◌, length}
use Rattle.frame_arena.specs.Frames.{rooms}
use Rattle.object_machine.proofs.KeptFrames.{KeptDown}
use Rattle.object_machine.proofs.keeping.keep_frames.Given as goal

abbrev pub invariant-loop-at : goal.invariant-loop-at
invariant-loop-at l = record {
  within : l.at ≤ length l.below;
  stacks : rooms l.frames ≡ rooms l.fn.frames;
  kept : KeptDown l.fn.frames l.frames l.fn.top l.below l.at;
}

abbrev pub decreases-loop-at : goal.decreases-loop-at
decreases-loop-at l = l.at
