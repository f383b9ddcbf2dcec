use Rattle.prefix_bind.specs.Sums.{Settled}
use Rattle.prefix_bind.proofs.sums.known_chains.Given as goal

abbrev pub invariant-loop-block : goal.invariant-loop-block
invariant-loop-block l = Settled l.scopes l.rows.items
