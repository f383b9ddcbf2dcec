use Rattle.sim_scope.specs.Source.{source_of}
use Rattle.text_tables.specs.Making.{OwesPlaces}
use Rattle.text_tables.proofs.places.place_all.Given as goal

abbrev pub invariant-loop-item : goal.invariant-loop-item
invariant-loop-item l = OwesPlaces (source_of l.bound) l.text l.fn.slots.items l.fn.start l.list l.slots.items l.cell l.item-index
