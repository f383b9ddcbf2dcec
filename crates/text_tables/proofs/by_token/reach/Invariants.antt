use Rattle.text_tables.specs.TokenTable.{Longer}
use Rattle.text_tables.proofs.by_token.reach.Given as goal

abbrev pub invariant-loop-made : goal.invariant-loop-made
invariant-loop-made g l = Longer l.fn.table.items l.table.items l.made
