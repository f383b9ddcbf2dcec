use Rattle.sim_scope.specs.Runs.{Leads}
use Rattle.prefix_bind.specs.Prefixes.{noted}
use Rattle.virtual_match.specs.Matching.{match_faults}
use Rattle.virtual_match.proofs.matching.with_declarations.Given as goal

abbrev pub invariant-loop-row : goal.invariant-loop-row
invariant-loop-row l = Leads noted (match_faults l.scopes) l.fn.least l.row-items l.least l.row-index
