use Rattle.sim_print.specs.Laid.{Owes}
use Rattle.sim_print.specs.Tokens.{behind_comma, name}
use Rattle.sim_print.specs.Trees.{of_names}
use Rattle.sim_print.proofs.parts.names.Given as goal

abbrev pub invariant-loop-item : goal.invariant-loop-item
invariant-loop-item l = Owes (behind_comma name) l.fn.layout (of_names l.list) l.rest l.layout l.item-index
