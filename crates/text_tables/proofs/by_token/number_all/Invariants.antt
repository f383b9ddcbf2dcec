use Rattle.text_tables.specs.TokenTable.{NumberedTo}
use Rattle.text_tables.proofs.by_token.number_all.Given as goal

abbrev pub invariant-loop-index : goal.invariant-loop-index
invariant-loop-index l = NumberedTo l.constants l.table.items l.index
