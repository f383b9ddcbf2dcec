use Rattle.std.proofs.Common.{◌-◌, ◌≤◌, length}
use Rattle.object_machine.specs.Enrolling.{Rises, stamps}
use Rattle.object_machine.specs.Simulating.{blocks_of}
use Rattle.object_machine.proofs.Searching.{LiesIn}
use Rattle.object_machine.proofs.simulated.place_of_block.Given as goal

abbrev pub invariant-loop-low : goal.invariant-loop-low
invariant-loop-low l = record {
  ordered : l.low ≤ l.high;
  within : l.high ≤ length l.simulations;
  lies : Rises (stamps (blocks_of l.simulations)) → LiesIn (stamps (blocks_of l.simulations)) l.stamp l.low l.high;
}

abbrev pub decreases-loop-low : goal.decreases-loop-low
decreases-loop-low l = l.high - l.low
