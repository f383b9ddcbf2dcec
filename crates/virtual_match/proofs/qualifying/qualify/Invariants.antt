use Rattle.std.proofs.Common.{◌≡◌, drop}
use Rattle.sim_scope.specs.Runs.{run}
use Rattle.virtual_match.specs.Qualifying.{qualified, with_qualification}
use Rattle.virtual_match.proofs.qualifying.qualify.Given as goal

abbrev pub invariant-loop-number : goal.invariant-loop-number
invariant-loop-number l = record {
  same : l.scopes.qualifications ≡ l.fn.scopes.qualifications;
  leads : run with_qualification l.scopes (drop l.number l.fn.scopes.qualifications) ≡ qualified l.fn.scopes;
}
