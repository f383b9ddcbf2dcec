use Rattle.text_tables.proofs.Placing as p
use Rattle.text_tables.proofs.places.place_next.Goals as goal

pub returns-then-has_cell : goal.returns-then-has_cell
returns-then-has_cell c = p.place_one_of c.args.bound.now c.args.text c.args.slots.now.items _ c.args.declaration c.entry_of.result c.args.cell _ c.has_cell.result c.entry_of.ensures c.has_cell.ensures c.if-has_cell.true c.place.ensures c.in_ok-next.ensures

pub returns : goal.returns
returns c = p.place_nothing_of c.args.bound.now c.args.text c.args.slots.now.items c.args.declaration c.entry_of.result c.args.cell c.has_cell.result c.entry_of.ensures c.has_cell.ensures c.if-has_cell.false
