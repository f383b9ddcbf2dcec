use Rattle.sim_types.proofs.Steps.{barred_actual_in_steps}
use Rattle.sim_types.proofs.parameters.barred_actual.Goals as goal

pub returns : goal.returns
returns c =
    barred_actual_in_steps c.args.scopes.now c.args.first c.args.parameter c.args.barred c.args.found.now c.barred_alone.new.found c.barred_alone.result c.untyped.result
    c.barred_alone.ensures c.untyped.ensures
