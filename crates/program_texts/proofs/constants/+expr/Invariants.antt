use Rattle.program_texts.specs.ConstantTrees.{of_expr, of_factor, of_operand, of_selector, of_term}
use Rattle.program_texts.proofs.Gathered.{Owes}
use Rattle.program_texts.proofs.constants.+expr.Given as goal

abbrev pub invariant-exprs-loop-item : goal.invariant-exprs-loop-item
invariant-exprs-loop-item l = Owes of_expr l.fn.list.items l.trees l.list.items l.item-index

abbrev pub invariant-operands-loop-item : goal.invariant-operands-loop-item
invariant-operands-loop-item l = Owes of_operand l.fn.list.items l.trees l.list.items l.item-index

abbrev pub invariant-terms-loop-item : goal.invariant-terms-loop-item
invariant-terms-loop-item l = Owes of_term l.fn.list.items l.trees l.list.items l.item-index

abbrev pub invariant-factors-loop-item : goal.invariant-factors-loop-item
invariant-factors-loop-item l = Owes of_factor l.fn.list.items l.trees l.list.items l.item-index

abbrev pub invariant-selectors-loop-item : goal.invariant-selectors-loop-item
invariant-selectors-loop-item l = Owes of_selector l.fn.list.items l.trees l.list.items l.item-index
