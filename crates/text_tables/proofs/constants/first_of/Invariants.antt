use Rattle.text_tables.specs.Constants.{OwesFirst}
use Rattle.text_tables.proofs.constants.first_of.Given as goal

abbrev pub invariant-loop-entry : goal.invariant-loop-entry
invariant-loop-entry l = OwesFirst l.row l.text l.entry-index
