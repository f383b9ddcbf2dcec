use Rattle.program_texts.specs.ConstantTrees.{of_reference_element}
use Rattle.program_texts.proofs.Gathered.{Owes}
use Rattle.program_texts.proofs.constants.reference_elements.Given as goal

abbrev pub invariant-loop-item : goal.invariant-loop-item
invariant-loop-item l = Owes of_reference_element l.fn.list.items l.trees l.list.items l.item-index
