use Rattle.text_tables.specs.Making.{Passes, is_process_tree}
use Rattle.text_tables.proofs.places.processes_of.Given as goal

abbrev pub invariant-loop-text : goal.invariant-loop-text
invariant-loop-text l = Passes is_process_tree l.texts l.table.items l.text-index
