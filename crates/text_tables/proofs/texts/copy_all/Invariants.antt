use Rattle.text_tables.specs.TokenTable.{CopiesTo}
use Rattle.text_tables.proofs.texts.copy_all.Given as goal

abbrev pub invariant-loop-item : goal.invariant-loop-item
invariant-loop-item l = CopiesTo l.constants l.texts.items l.item-index
