use Rattle.std.proofs.Common.{◌≡◌, length}
use Rattle.simset.specs.Sets.{links_of, IsProper, IsHeadAt, clear}
use Rattle.simset.proofs.rings.Rings.clear.Given as goal

abbrev pub invariant-loop-link : goal.invariant-loop-link
invariant-loop-link l = record {
  same : clear l.self.sets l.head.0 ≡ clear l.initial.self.sets l.head.0;
  room : l.self.room ≡ l.initial.self.room;
  head : IsHeadAt l.self.sets l.head.0;
  proper : IsProper l.self.sets;
}

abbrev pub decreases-loop-link : goal.decreases-loop-link
decreases-loop-link l = length (links_of l.self.sets l.head.0)
