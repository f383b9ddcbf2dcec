use Rattle.prefix_bind.specs.Sums.{SettledBut}
use Rattle.prefix_bind.proofs.sums.settle_cycle.Given as goal

abbrev pub invariant-loop-step : goal.invariant-loop-step
invariant-loop-step l = SettledBut l.scopes l.rows.items l.level
