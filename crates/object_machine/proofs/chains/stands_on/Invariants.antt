use Rattle.std.proofs.Common.{◌≡◌, ℕ, ◌≤◌, length}
use Rattle.std.specs.Prelude.{false, Some, slice_get}
use Rattle.sim_chains.specs.Chains.{is_instance}
use Rattle.object_machine.specs.Transferring.{frame_of}
use Rattle.object_machine.specs.declared.machine.Activation as working
use Rattle.object_machine.proofs.chains.stands_on.Given as goal

abbrev pub invariant-loop-at : goal.invariant-loop-at
invariant-loop-at l = record {
  within : l.at ≤ length l.below;
  none : (k : ℕ) (t : working.Activation) → l.at ≤ k → slice_get l.below k ≡ Some t → is_instance l.instance (frame_of t) ≡ false;
}

abbrev pub decreases-loop-at : goal.decreases-loop-at
decreases-loop-at l = l.at
