use Rattle.sim_print.specs.Laid.{Owes}
use Rattle.sim_print.specs.Trees.{of_virtual, of_virtuals}
use Rattle.sim_print.proofs.parts.virtuals.Given as goal

abbrev pub invariant-loop-item : goal.invariant-loop-item
invariant-loop-item l = Owes of_virtual l.fn.layout (of_virtuals l.list) l.list l.layout l.item-index
