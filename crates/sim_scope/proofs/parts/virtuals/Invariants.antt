use Rattle.sim_scope.specs.Building.{marked}
use Rattle.sim_scope.specs.Declare.{of_virtual}
use Rattle.sim_scope.specs.Runs.{Leads}
use Rattle.sim_scope.proofs.parts.virtuals.Given as goal

abbrev pub invariant-loop-item : goal.invariant-loop-item
invariant-loop-item l = Leads marked of_virtual l.fn.tables l.list l.tables l.item-index
