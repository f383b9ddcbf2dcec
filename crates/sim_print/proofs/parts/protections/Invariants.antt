use Rattle.sim_print.specs.Laid.{Owes}
use Rattle.sim_print.specs.Spelling.{each}
use Rattle.sim_print.specs.Trees.{of_protection}
use Rattle.sim_print.proofs.parts.protections.Given as goal

abbrev pub invariant-loop-item : goal.invariant-loop-item
invariant-loop-item l = Owes of_protection l.fn.layout (each of_protection l.list) l.list l.layout l.item-index
