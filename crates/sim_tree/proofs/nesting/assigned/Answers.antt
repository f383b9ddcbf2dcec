use Rattle.std.proofs.Common.{arith}
use Rattle.sim_tree.proofs.Nests as nests
use Rattle.sim_tree.proofs.nesting.assigned.Goals as goal

pub loop-item-init : goal.loop-item-init
loop-item-init c = nests.begins c.args.list.now

pub loop-item-preserved : goal.loop-item-preserved
loop-item-preserved c =
    let x = c.item-item.result in
    nests.goes_on c.args.list.now c.loop-item.item-index x c.expression.result c.loop-item.deepest c.max-deepest.result c.loop-item-test.true c.item-item.is (nests.nests_leaf c.expression.ensures) (omega arith) c.loop-item.invariant

pub returns : goal.returns
returns c = nests.ends c.args.list.now c.loop-item.item-index c.loop-item.deepest c.loop-item-test.false c.loop-item.invariant
