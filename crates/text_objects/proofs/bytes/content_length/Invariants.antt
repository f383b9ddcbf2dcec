use Rattle.std.proofs.Common.{◌≡◌, ◌≤◌, length, take}
use Rattle.sim_values.specs.Texts.{content_length}
use Rattle.text_objects.proofs.bytes.content_length.Given as goal

-- what was passed is trailing blanks
abbrev pub invariant-loop-end : goal.invariant-loop-end
invariant-loop-end l = record {
  within : l.end ≤ length l.bytes;
  same : content_length (take l.end l.bytes) ≡ content_length l.bytes;
}

abbrev pub decreases-loop-end : goal.decreases-loop-end
decreases-loop-end l = l.end
