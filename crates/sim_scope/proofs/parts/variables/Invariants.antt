use Rattle.sim_scope.specs.Building.{marked}
use Rattle.sim_scope.specs.Declare.{variable_marks}
use Rattle.sim_scope.specs.Runs.{Leads}
use Rattle.sim_scope.proofs.parts.variables.Given as goal

abbrev pub invariant-loop-item : goal.invariant-loop-item
invariant-loop-item l = Leads marked (variable_marks l.type_name) l.fn.tables l.list l.tables l.item-index
