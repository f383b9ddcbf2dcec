use Rattle.text_tables.specs.Constants.{OwesDeclarations}
use Rattle.text_tables.proofs.constants.gather_declarations.Given as goal

abbrev pub invariant-loop-item : goal.invariant-loop-item
invariant-loop-item l = OwesDeclarations l.text l.fn.table.items l.list l.table.items l.item-index
