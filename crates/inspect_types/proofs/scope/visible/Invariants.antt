use Rattle.inspect_types.specs.Visible.{GathersLevels}
use Rattle.inspect_types.proofs.scope.visible.Given as goal

abbrev pub invariant-loop-step : goal.invariant-loop-step
invariant-loop-step l = GathersLevels l.scopes l.at.0 l.block l.list.items l.level l.step
