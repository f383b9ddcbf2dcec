use Rattle.std.proofs.Common.{◌≡◌, ◌+◌, ◌^◌, min, take}
use Rattle.sim_values.specs.Words.{element_count}
use Rattle.sim_values.proofs.words.capped_count.Given as goal

abbrev pub invariant-loop-dimension : goal.invariant-loop-dimension
invariant-loop-dimension l = l.count ≡ min (element_count (take l.dimension-index l.bounds)) (2 ^ 31 + 1)
