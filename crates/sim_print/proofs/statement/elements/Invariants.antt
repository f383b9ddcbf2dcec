use Rattle.sim_print.specs.Laid.{Owes}
use Rattle.sim_print.specs.Tokens.{behind_comma}
use Rattle.sim_print.specs.Trees.{of_element, of_elements}
use Rattle.sim_print.proofs.statement.elements.Given as goal

abbrev pub invariant-loop-item : goal.invariant-loop-item
invariant-loop-item l = Owes (behind_comma of_element) l.fn.layout (of_elements l.list) l.rest l.layout l.item-index
