use Rattle.sim_scope.specs.Runs.{Leads}
use Rattle.prefix_bind.specs.Prefixes.{noted}
use Rattle.virtual_match.specs.Qualifying.{qualification_faults}
use Rattle.virtual_match.proofs.protections.with_qualifications.Given as goal

abbrev pub invariant-loop-written : goal.invariant-loop-written
invariant-loop-written l = Leads noted (qualification_faults l.scopes) l.fn.least l.written-items l.least l.written-index
