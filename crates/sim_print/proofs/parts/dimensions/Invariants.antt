use Rattle.sim_print.specs.Laid.{Owes}
use Rattle.sim_print.specs.Tokens.{behind_comma}
use Rattle.sim_print.specs.Trees.{of_bounds, of_dimensions}
use Rattle.sim_print.proofs.parts.dimensions.Given as goal

abbrev pub invariant-loop-item : goal.invariant-loop-item
invariant-loop-item l = Owes (behind_comma of_bounds) l.fn.layout (of_dimensions l.list) l.rest l.layout l.item-index
