use Rattle.sim_types.proofs.Steps.{as_value_in_steps}
use Rattle.sim_types.proofs.parameters.as_value.Goals as goal

pub returns : goal.returns
returns c =
    as_value_in_steps c.args.scopes.now c.args.first c.args.parameter c.args.found.now c.valued-value.new.found c.args.outcome c.valued-value.result c.value_fits.result c.type_in.result
    c.valued-value.ensures c.type_in.ensures c.value_fits.ensures
