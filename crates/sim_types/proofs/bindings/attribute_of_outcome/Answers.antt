use Rattle.sim_types.proofs.Steps.{attribute_in_steps}
use Rattle.sim_types.proofs.bindings.attribute_of_outcome.Goals as goal

pub returns : goal.returns
returns c =
    attribute_in_steps c.args.scopes.now c.args.extent c.args.name.now c.args.first c.args.found.now c.side-value.new.found c.attribute_of_value.new.found c.args.outcome c.side-value.result c.attribute_of_value.result
    c.side-value.ensures c.attribute_of_value.ensures
