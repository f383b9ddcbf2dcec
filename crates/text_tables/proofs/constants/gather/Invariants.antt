use Rattle.text_tables.specs.Constants.{GatheredTo}
use Rattle.text_tables.proofs.constants.gather.Given as goal

abbrev pub invariant-loop-index : goal.invariant-loop-index
invariant-loop-index l = GatheredTo l.texts l.table.items l.index
