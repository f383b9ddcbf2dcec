use Rattle.std.proofs.Common.{◌≡◌, ◌≤◌, ◌++◌, List, length}
use Rattle.std.specs.Prelude.{false}
use Rattle.sim_chains.specs.Chains.{stands_on}
use Rattle.object_machine.specs.declared.machine.Activation as working
use Rattle.object_machine.specs.Standing.{AllFit}
use Rattle.object_machine.specs.Transferring.{frame_of, operating}
use Rattle.object_machine.proofs.chains.drop_above.Given as goal

abbrev pub invariant-loop-below : goal.invariant-loop-below
invariant-loop-below l = record {
  fits : l.top.registers.depth ≤ length l.top.stack.items;
  others : AllFit l.below.items;
  dropped : (above : List working.Activation) × (operating l.fn.top l.fn.below.items ≡ above ++ operating l.top l.below.items) × (stands_on frame_of l.instance above ≡ false);
}

abbrev pub decreases-loop-below : goal.decreases-loop-below
decreases-loop-below l = length l.below.items
