use Rattle.std.proofs.Common.{◌≡◌, None}
use Rattle.sim_scope.specs.Runs.{each, run}
use Rattle.prefix_bind.specs.Prefixes.{faults_of, noted, numbers_to}
use Rattle.prefix_bind.proofs.chains.least_fault.Given as goal

abbrev pub invariant-loop-block : goal.invariant-loop-block
invariant-loop-block l = l.least ≡ run noted None (each (faults_of l.scopes) (numbers_to l.block))
