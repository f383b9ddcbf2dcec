use Rattle.std.proofs.Common.{◌≡◌, ◌^◌, ◌≤◌}
use Rattle.sim_values.specs.Words.{element_count}
use Rattle.frame_arena.proofs.Subscripts.{Placed}
use Rattle.frame_arena.proofs.arrays.subscripts.place_of.Given as goal

abbrev pub invariant-loop-dimension : goal.invariant-loop-dimension
invariant-loop-dimension l = l.count ≡ element_count l.bounds → l.count ≤ 2 ^ 31 → Placed l.bounds l.stack l.first l.count l.at l.dimension
