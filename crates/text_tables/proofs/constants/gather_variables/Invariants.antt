use Rattle.text_tables.specs.Constants.{OwesVariables}
use Rattle.text_tables.proofs.constants.gather_variables.Given as goal

abbrev pub invariant-loop-item : goal.invariant-loop-item
invariant-loop-item l = OwesVariables l.text l.fn.table.items l.list l.table.items l.item-index
