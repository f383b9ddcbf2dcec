use Rattle.text_tables.specs.Making.{PlacedTo}
use Rattle.text_tables.proofs.places.cell_counts.Given as goal

abbrev pub invariant-loop-index : goal.invariant-loop-index
invariant-loop-index l = PlacedTo l.bound l.texts l.fn.slots.items l.slots.items l.counts.items l.index
