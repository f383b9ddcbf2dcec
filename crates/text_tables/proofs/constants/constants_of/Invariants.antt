use Rattle.text_tables.proofs.Gathering.{ValuesTo}
use Rattle.text_tables.proofs.constants.constants_of.Given as goal

abbrev pub invariant-loop-row : goal.invariant-loop-row
invariant-loop-row l = ValuesTo l.texts l.rows l.values.items l.row-index
