use Rattle.sim_print.specs.Laid.{Owes}
use Rattle.sim_print.specs.Spelling.{each}
use Rattle.sim_print.specs.Trees.{of_specification}
use Rattle.sim_print.proofs.parts.specifications.Given as goal

abbrev pub invariant-loop-item : goal.invariant-loop-item
invariant-loop-item l = Owes of_specification l.fn.layout (each of_specification l.list) l.list l.layout l.item-index
