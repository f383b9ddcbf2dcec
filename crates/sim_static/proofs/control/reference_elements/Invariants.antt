use Rattle.sim_scope.specs.Found.{found}
use Rattle.sim_scope.specs.Runs.{Leads}
use Rattle.sim_static.specs.StatementWalk.{of_reference_element}
use Rattle.sim_static.proofs.control.reference_elements.Given as goal

abbrev pub invariant-loop-item : goal.invariant-loop-item
invariant-loop-item l = Leads found (of_reference_element l.scopes l.variable) l.fn.found l.list l.found l.item-index
