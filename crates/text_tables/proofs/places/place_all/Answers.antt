use Rattle.sim_scope.specs.Source.{source_of}
use Rattle.text_tables.proofs.Passing as q
use Rattle.text_tables.proofs.Placing as p
use Rattle.text_tables.proofs.places.place_all.Goals as goal

pub loop-item-preserved : goal.loop-item-preserved
loop-item-preserved c = p.owes_places_next (source_of c.args.bound.now) c.args.text c.args.slots.now.items c.loop-item.slots.items _ c.args.start c.loop-item.cell _ c.loop-item.item-index c.args.list.now _ c.loop-item.invariant c.loop-item-test.true (q.index_any c.args.list.now c.loop-item.item-index _ c.loop-item-test.true) c.in_ok-cell.ensures

pub returns : goal.returns
returns c = p.owes_places_end (source_of c.args.bound.now) c.args.text c.args.slots.now.items c.loop-item.slots.items c.args.start c.loop-item.cell c.loop-item.item-index c.args.list.now c.loop-item.invariant c.loop-item-test.false
