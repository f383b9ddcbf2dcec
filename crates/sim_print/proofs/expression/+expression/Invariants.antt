use Rattle.sim_print.specs.Laid.{Owes}
use Rattle.sim_print.specs.Spelling.{each}
use Rattle.sim_print.specs.Tokens.{behind_comma}
use Rattle.sim_print.specs.Trees.{of_expr, of_factor, of_operand, of_selector, of_term}
use Rattle.sim_print.proofs.expression.+expression.Given as goal

abbrev pub invariant-operands-loop-item : goal.invariant-operands-loop-item
invariant-operands-loop-item l = Owes (of_operand l.operator) l.fn.layout (each (of_operand l.operator) l.list) l.list l.layout l.item-index

abbrev pub invariant-terms-loop-item : goal.invariant-terms-loop-item
invariant-terms-loop-item l = Owes of_term l.fn.layout (each of_term l.list) l.list l.layout l.item-index

abbrev pub invariant-factors-loop-item : goal.invariant-factors-loop-item
invariant-factors-loop-item l = Owes of_factor l.fn.layout (each of_factor l.list) l.list l.layout l.item-index

abbrev pub invariant-selectors-loop-item : goal.invariant-selectors-loop-item
invariant-selectors-loop-item l = Owes of_selector l.fn.layout (each of_selector l.list) l.list l.layout l.item-index

abbrev pub invariant-actuals-loop-item : goal.invariant-actuals-loop-item
invariant-actuals-loop-item l = Owes (behind_comma of_expr) l.initial.layout (each (behind_comma of_expr) l.rest) l.rest l.layout l.item-index
