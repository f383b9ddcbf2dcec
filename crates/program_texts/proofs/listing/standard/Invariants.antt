use Rattle.program_texts.specs.TextTrees.{of_standard}
use Rattle.program_texts.proofs.Lists.{Owes}
use Rattle.program_texts.proofs.listing.standard.Given as goal

abbrev pub invariant-loop-item : goal.invariant-loop-item
invariant-loop-item l = Owes of_standard l.fn.list.items l.classes l.list.items l.item-index
