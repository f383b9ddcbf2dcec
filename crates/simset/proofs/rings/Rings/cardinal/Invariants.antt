use Rattle.std.proofs.Common.{◌≡◌, ◌≤◌, ◌-◌, length}
use Rattle.std.specs.Prelude.{slice_get}
use Rattle.simset.specs.Sets.{links_of}
use Rattle.simset.proofs.rings.Rings.cardinal.Given as goal

abbrev pub invariant-loop-next : goal.invariant-loop-next
invariant-loop-next l = record {
  at : l.next ≡ slice_get (links_of l.self.sets l.fn.head.0) l.count;
  within : l.count ≤ length (links_of l.self.sets l.fn.head.0);
}

abbrev pub decreases-loop-next : goal.decreases-loop-next
decreases-loop-next l = length (links_of l.self.sets l.fn.head.0) - l.count
