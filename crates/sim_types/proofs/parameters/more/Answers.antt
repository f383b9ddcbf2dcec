use Rattle.sim_types.proofs.Steps.{more_in_steps}
use Rattle.sim_types.proofs.parameters.more.Goals as goal

pub returns : goal.returns
returns c =
    more_in_steps c.args.scopes.now c.args.denotation c.args.actuals c.with_actual.result c.args.first c.args.found.now c.actual-one.new.found c.args.outcome c.parameter_at-parameter.result c.actual-one.result
    c.parameter_at-parameter.ensures c.actual-one.ensures c.with_actual.ensures
