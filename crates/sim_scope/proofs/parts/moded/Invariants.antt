use Rattle.sim_scope.specs.Building.{marked}
use Rattle.sim_scope.specs.Declare.{moded_marks}
use Rattle.sim_scope.specs.Runs.{Leads}
use Rattle.sim_scope.proofs.parts.moded.Given as goal

abbrev pub invariant-loop-item : goal.invariant-loop-item
invariant-loop-item l = Leads marked (moded_marks l.mode) l.fn.tables l.list l.tables l.item-index
