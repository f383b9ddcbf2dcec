use Rattle.sim_print.specs.Laid.{Owes}
use Rattle.sim_print.specs.Spelling.{each}
use Rattle.sim_print.specs.Trees.{of_mode}
use Rattle.sim_print.proofs.parts.mode_parts.Given as goal

abbrev pub invariant-loop-item : goal.invariant-loop-item
invariant-loop-item l = Owes of_mode l.fn.layout (each of_mode l.list) l.list l.layout l.item-index
