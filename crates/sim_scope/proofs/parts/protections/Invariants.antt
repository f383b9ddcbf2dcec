use Rattle.sim_scope.specs.Building.{marked}
use Rattle.sim_scope.specs.Declare.{of_protection}
use Rattle.sim_scope.specs.Runs.{Leads}
use Rattle.sim_scope.proofs.parts.protections.Given as goal

abbrev pub invariant-loop-item : goal.invariant-loop-item
invariant-loop-item l = Leads marked of_protection l.fn.tables l.list l.tables l.item-index
