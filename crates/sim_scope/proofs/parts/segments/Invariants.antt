use Rattle.sim_scope.specs.Building.{marked}
use Rattle.sim_scope.specs.Declare.{of_segment}
use Rattle.sim_scope.specs.Runs.{Leads}
use Rattle.sim_scope.proofs.parts.segments.Given as goal

abbrev pub invariant-loop-item : goal.invariant-loop-item
invariant-loop-item l = Leads marked (of_segment l.type_name) l.fn.tables l.list l.tables l.item-index
