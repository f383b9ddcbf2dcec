use Rattle.text_tables.specs.Making.{OwesNumbers}
use Rattle.text_tables.proofs.numbers.numbers_of.Given as goal

abbrev pub invariant-loop-block : goal.invariant-loop-block
invariant-loop-block l = OwesNumbers l.blocks l.numbers.items l.number l.block-index
