use Rattle.text_tables.proofs.Passing as p
use Rattle.text_tables.proofs.formals.formals_among.Goals as goal

pub loop-item-preserved : goal.loop-item-preserved
loop-item-preserved c = p.formals_next_of c.args.bound.now c.args.list.now c.loop-item.formals.items _ c.loop-item.item-index _ c.entry_of.result c.formal_of-formal.result c.loop-item.invariant c.loop-item-test.true (p.index_any c.args.list.now c.loop-item.item-index _ c.loop-item-test.true) c.entry_of.ensures c.formal_of-formal.ensures c.in_ok-add.ensures
