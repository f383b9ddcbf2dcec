use Rattle.std.proofs.Common.{◌≡◌, ◌++◌, take}
use Rattle.sim_values.specs.Store.{constant_frames}
use Rattle.object_machine.proofs.start.add_constants.Given as goal

abbrev pub invariant-loop-at : goal.invariant-loop-at
invariant-loop-at l = l.texts ≡ l.fn.texts ++ constant_frames (take l.at l.constants)
