use Rattle.text_tables.specs.Making.{Passes, is_result}
use Rattle.text_tables.proofs.places.results_of.Given as goal

abbrev pub invariant-loop-text : goal.invariant-loop-text
invariant-loop-text l = Passes is_result l.texts l.table.items l.text-index
