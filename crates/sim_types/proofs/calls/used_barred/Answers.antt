use Rattle.sim_scope.specs.Calls.{used_as}
use Rattle.sim_types.proofs.Steps.{or_barred_in_steps}
use Rattle.sim_types.proofs.calls.used_barred.Goals as goal

pub returns : goal.returns
returns c =
    or_barred_in_steps (used_as c.args.scopes.now c.args.naming.0 c.args.name.now c.args.denotation c.args.actuals) c.args.found.now c.used_as-outcome.new.found c.used_as-outcome.result c.barred_outcome.result
    c.used_as-outcome.ensures c.barred_outcome.ensures
