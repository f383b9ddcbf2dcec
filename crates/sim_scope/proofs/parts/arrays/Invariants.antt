use Rattle.sim_scope.specs.Building.{marked}
use Rattle.sim_scope.specs.Declare.{array_marks}
use Rattle.sim_scope.specs.Runs.{Leads}
use Rattle.sim_scope.proofs.parts.arrays.Given as goal

abbrev pub invariant-loop-item : goal.invariant-loop-item
invariant-loop-item l = Leads marked (array_marks l.type_name l.dimensions) l.fn.tables l.list l.tables l.item-index
