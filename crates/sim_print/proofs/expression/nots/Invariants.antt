use Rattle.sim_print.specs.Laid.{Owes}
use Rattle.sim_print.specs.Spelling.{each}
use Rattle.sim_print.specs.Trees.{of_not}
use Rattle.sim_print.proofs.expression.nots.Given as goal

abbrev pub invariant-loop-token : goal.invariant-loop-token
invariant-loop-token l = Owes of_not l.fn.layout (each of_not l.tokens) l.tokens l.layout l._token-index
