use Rattle.sim_scope.specs.Runs.{Leads}
use Rattle.prefix_bind.specs.Prefixes.{deeper_of}
use Rattle.prefix_bind.proofs.Numbers.{alone}
use Rattle.prefix_bind.proofs.prefixes.deepest.Given as goal

abbrev pub invariant-loop-block : goal.invariant-loop-block
invariant-loop-block l = Leads deeper_of alone 0 l.block-items l.level l.block-index
