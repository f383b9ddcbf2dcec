use Rattle.sim_print.specs.Laid.{Owes}
use Rattle.sim_print.specs.Spelling.{each}
use Rattle.sim_print.specs.Trees.{of_assigned}
use Rattle.sim_print.proofs.statement.right_sides.Given as goal

abbrev pub invariant-loop-item : goal.invariant-loop-item
invariant-loop-item l = Owes of_assigned l.fn.layout (each of_assigned l.list) l.list l.layout l.item-index
