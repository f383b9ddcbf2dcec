use Rattle.program_texts.specs.ConstantTrees.{of_variable}
use Rattle.program_texts.proofs.Gathered.{Owes}
use Rattle.program_texts.proofs.constants.variables.Given as goal

abbrev pub invariant-loop-item : goal.invariant-loop-item
invariant-loop-item l = Owes of_variable l.fn.list.items l.trees l.list.items l.item-index
