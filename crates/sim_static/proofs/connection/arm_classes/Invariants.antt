use Rattle.sim_scope.specs.Found.{found}
use Rattle.sim_scope.specs.Runs.{Leads}
use Rattle.sim_static.specs.StatementWalk.{of_arm_class}
use Rattle.sim_static.proofs.connection.arm_classes.Given as goal

abbrev pub invariant-loop-item : goal.invariant-loop-item
invariant-loop-item l = Leads found (of_arm_class l.scopes l.token.0 l.object) l.fn.found l.list l.found l.item-index
