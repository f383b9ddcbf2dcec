use Rattle.sim_scope.specs.Building.{marked}
use Rattle.sim_scope.specs.Declare.{brings_class}
use Rattle.sim_scope.proofs.Walks.{leads_item}
use Rattle.sim_scope.proofs.parts.brought_classes.Goals as goal

pub loop-item-preserved : goal.loop-item-preserved
loop-item-preserved c = leads_item marked (brings_class c.args.token.0) _ _ _ _ c.loop-item.item-index _ c.loop-item.invariant c.loop-item-test.true (c.in_ok-brought_class.ensures)
