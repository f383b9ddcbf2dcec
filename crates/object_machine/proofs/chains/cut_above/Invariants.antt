use Rattle.std.proofs.Common.{◌≡◌, ◌≤◌, ◌++◌, length}
use Rattle.std.specs.Prelude.{false}
use Rattle.sim_chains.specs.Chains.{stands_on}
use Rattle.object_machine.specs.Standing.{AllFit}
use Rattle.object_machine.specs.Transferring.{frame_of, operating}
use Rattle.object_machine.proofs.chains.cut_above.Given as goal

abbrev pub invariant-loop-below : goal.invariant-loop-below
invariant-loop-below l = record {
  fits : l.top.registers.depth ≤ length l.top.stack.items;
  others : AllFit l.below.items;
  apart : AllFit l.above.items;
  whole : operating l.fn.top l.fn.below.items ≡ l.above.items ++ operating l.top l.below.items;
  none : stands_on frame_of l.instance l.above.items ≡ false;
}

abbrev pub decreases-loop-below : goal.decreases-loop-below
decreases-loop-below l = length l.below.items
