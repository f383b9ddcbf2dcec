use Rattle.sim_scope.specs.Building.{marked}
use Rattle.sim_scope.specs.Declare.{headed_marks}
use Rattle.sim_scope.specs.Runs.{Leads}
use Rattle.sim_scope.proofs.parts.headed.Given as goal

abbrev pub invariant-loop-item : goal.invariant-loop-item
invariant-loop-item l = Leads marked headed_marks l.fn.tables l.list l.tables l.item-index
