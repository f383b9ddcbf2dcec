use Rattle.sim_scope.specs.Building.{marked}
use Rattle.sim_scope.specs.Declare.{virtual_name_marks}
use Rattle.sim_scope.specs.Runs.{Leads}
use Rattle.sim_scope.proofs.parts.virtual_names.Given as goal

abbrev pub invariant-loop-item : goal.invariant-loop-item
invariant-loop-item l = Leads marked (virtual_name_marks l.result_type) l.fn.tables l.list l.tables l.item-index
