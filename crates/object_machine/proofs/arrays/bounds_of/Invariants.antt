use Rattle.std.proofs.Common.{◌≡◌, ◌*◌}
use Rattle.sim_code.specs.Arrays.{pairs}
use Rattle.frame_arena.specs.Stacks.{integers_from}
use Rattle.object_machine.proofs.arrays.bounds_of.Given as goal

abbrev pub invariant-loop-dimension : goal.invariant-loop-dimension
invariant-loop-dimension l = l.bounds.items ≡ pairs (integers_from l.stack l.first (2 * l.dimension))
