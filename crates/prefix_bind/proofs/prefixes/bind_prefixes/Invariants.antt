use Rattle.std.proofs.Common.{◌≡◌}
use Rattle.sim_scope.specs.Runs.{run}
use Rattle.prefix_bind.specs.Prefixes.{level_prefixed, numbers_to}
use Rattle.prefix_bind.proofs.prefixes.bind_prefixes.Given as goal

abbrev pub invariant-loop-level : goal.invariant-loop-level
invariant-loop-level l = l.scopes ≡ run level_prefixed l.fn.scopes (numbers_to l.level)
