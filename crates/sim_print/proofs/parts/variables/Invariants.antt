use Rattle.sim_print.specs.Laid.{Owes}
use Rattle.sim_print.specs.Tokens.{behind_comma}
use Rattle.sim_print.specs.Trees.{of_variable, of_variables}
use Rattle.sim_print.proofs.parts.variables.Given as goal

abbrev pub invariant-loop-item : goal.invariant-loop-item
invariant-loop-item l = Owes (behind_comma of_variable) l.fn.layout (of_variables l.list) l.rest l.layout l.item-index
