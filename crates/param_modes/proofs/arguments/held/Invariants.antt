use Rattle.std.proofs.Common.{◌≡◌, drop}
use Rattle.param_modes.specs.Fits.{Owes}
use Rattle.param_modes.proofs.arguments.held.Given as goal

abbrev pub invariant-loop-argument : goal.invariant-loop-argument
invariant-loop-argument l = record {
  count : l.actuals.count ≡ l.argument-index;
  owed : Owes l.scopes l.formals l.fn.found l.arguments l.found l.actuals (drop l.argument-index l.arguments);
}
