use Rattle.sim_scope.specs.Found.{found}
use Rattle.sim_scope.specs.Runs.{Leads}
use Rattle.sim_static.specs.StatementWalk.{of_segment}
use Rattle.sim_static.proofs.bounds.segments.Given as goal

abbrev pub invariant-loop-item : goal.invariant-loop-item
invariant-loop-item l = Leads found (of_segment l.scopes) l.fn.found l.list l.found l.item-index
