use Rattle.sim_scope.specs.Building.{marked}
use Rattle.sim_scope.specs.Declare.{brings_class}
use Rattle.sim_scope.specs.Runs.{Leads}
use Rattle.sim_scope.proofs.parts.brought_classes.Given as goal

abbrev pub invariant-loop-item : goal.invariant-loop-item
invariant-loop-item l = Leads marked (brings_class l.token.0) l.fn.tables l.list l.tables l.item-index
