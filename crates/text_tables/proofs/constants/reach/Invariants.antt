use Rattle.text_tables.specs.Constants.{Grown}
use Rattle.text_tables.proofs.constants.reach.Given as goal

abbrev pub invariant-loop-made : goal.invariant-loop-made
invariant-loop-made l = Grown l.fn.table.items l.table.items l.made
