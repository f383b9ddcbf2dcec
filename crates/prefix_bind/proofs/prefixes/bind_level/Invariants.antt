use Rattle.std.proofs.Common.{◌≡◌}
use Rattle.sim_scope.specs.Runs.{run}
use Rattle.prefix_bind.specs.Prefixes.{block_prefixed, numbers_to}
use Rattle.prefix_bind.proofs.prefixes.bind_level.Given as goal

abbrev pub invariant-loop-block : goal.invariant-loop-block
invariant-loop-block l = l.scopes ≡ run (block_prefixed l.level) l.fn.scopes (numbers_to l.block)
