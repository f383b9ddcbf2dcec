use Rattle.sim_types.proofs.Steps.{side_in_steps}
use Rattle.sim_types.proofs.outcomes.side.Goals as goal

pub returns : goal.returns
returns c =
    side_in_steps c.args.scopes.now c.args.first c.args.found.now c.valued-value.new.found c.args.outcome c.valued-value.result c.side_of.result c.type_in.result
    c.valued-value.ensures c.type_in.ensures c.side_of.ensures
