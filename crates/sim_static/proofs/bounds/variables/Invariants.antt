use Rattle.sim_scope.specs.Found.{found}
use Rattle.sim_scope.specs.Runs.{Leads}
use Rattle.sim_scope.specs.Statements.{variable_events}
use Rattle.sim_static.proofs.bounds.variables.Given as goal

abbrev pub invariant-loop-item : goal.invariant-loop-item
invariant-loop-item l = Leads found (variable_events l.type_name) l.fn.found l.list l.found l.item-index
