use Rattle.sim_scope.specs.Runs.{Leads}
use Rattle.prefix_bind.specs.Prefixes.{noted}
use Rattle.virtual_match.specs.Protections.{protection_faults}
use Rattle.virtual_match.proofs.protections.with_protections.Given as goal

abbrev pub invariant-loop-part : goal.invariant-loop-part
invariant-loop-part l = Leads noted (protection_faults l.scopes) l.fn.least l.part-items l.least l.part-index
