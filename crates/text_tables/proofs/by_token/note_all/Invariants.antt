use Rattle.text_tables.specs.TokenTable.{NotedTo}
use Rattle.text_tables.proofs.by_token.note_all.Given as goal

abbrev pub invariant-loop-index : goal.invariant-loop-index
invariant-loop-index l = NotedTo l.rows l.table.items l.index
