use Rattle.param_modes.specs.Headings.{Gathers}
use Rattle.param_modes.proofs.heading.formals_among.Given as goal

abbrev pub invariant-loop-number : goal.invariant-loop-number
invariant-loop-number l = Gathers l.scopes l.numbers l.list.items l.number-index
