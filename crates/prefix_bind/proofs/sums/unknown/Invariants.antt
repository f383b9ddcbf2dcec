use Rattle.std.proofs.Common.{◌≡◌, replicate}
use Rattle.prefix_bind.specs.declared.sums.Chain.TheVariants.{Unknown}
use Rattle.prefix_bind.proofs.sums.unknown.Given as goal

abbrev pub invariant-loop-made : goal.invariant-loop-made
invariant-loop-made l = l.rows.items ≡ replicate l.made Unknown
