use Rattle.sim_scope.specs.Building.{marked}
use Rattle.sim_scope.specs.Declare.{provides_attribute}
use Rattle.sim_scope.proofs.Walks.{leads_item}
use Rattle.sim_scope.proofs.parts.provided_attributes.Goals as goal

pub loop-item-preserved : goal.loop-item-preserved
loop-item-preserved c = leads_item marked (provides_attribute c.args.prefix c.args.token.0) _ _ _ _ c.loop-item.item-index _ c.loop-item.invariant c.loop-item-test.true (c.in_ok-provided_attribute.ensures)
