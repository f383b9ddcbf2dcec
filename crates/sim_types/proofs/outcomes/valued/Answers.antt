use Rattle.sim_types.proofs.Steps.{valued_in_steps}
use Rattle.sim_types.proofs.outcomes.valued.Goals as goal

pub returns : goal.returns
returns c =
    valued_in_steps c.args.scopes.now c.args.first c.args.found.now c.called-outcome.new.found c.value_of.new.found c.args.outcome c.called-outcome.result c.value_of.result
    c.called-outcome.ensures c.value_of.ensures
