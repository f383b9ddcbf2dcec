use Rattle.sim_print.specs.Laid.{Owes}
use Rattle.sim_print.specs.Tokens.{behind_comma}
use Rattle.sim_print.specs.Trees.{of_reference_element, of_reference_elements}
use Rattle.sim_print.proofs.statement.reference_elements.Given as goal

abbrev pub invariant-loop-item : goal.invariant-loop-item
invariant-loop-item l = Owes (behind_comma of_reference_element) l.fn.layout (of_reference_elements l.list) l.rest l.layout l.item-index
