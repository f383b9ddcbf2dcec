use Rattle.sim_print.specs.Laid.{Owes}
use Rattle.sim_print.specs.Tokens.{behind_comma}
use Rattle.sim_print.specs.Trees.{of_segment, of_segments}
use Rattle.sim_print.proofs.parts.segments.Given as goal

abbrev pub invariant-loop-item : goal.invariant-loop-item
invariant-loop-item l = Owes (behind_comma of_segment) l.fn.layout (of_segments l.list) l.rest l.layout l.item-index
