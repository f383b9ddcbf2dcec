use Rattle.sim_scope.specs.Building.{marked}
use Rattle.sim_scope.specs.Declare.{provides_attribute}
use Rattle.sim_scope.specs.Runs.{Leads}
use Rattle.sim_scope.proofs.parts.provided_attributes.Given as goal

abbrev pub invariant-loop-item : goal.invariant-loop-item
invariant-loop-item l = Leads marked (provides_attribute l.prefix l.token.0) l.fn.tables l.list l.tables l.item-index
