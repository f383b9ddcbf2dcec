use Rattle.param_modes.proofs.Holding.{held_in_steps}
use Rattle.param_modes.proofs.arguments.held_one.Goals as goal

pub returns : goal.returns
returns c =
    held_in_steps c.args.scopes.now c.args.formals.now c.args.actuals c.with_actual.result c.args.first c.args.found.now c.actual-one.new.found c.args.outcome c.formal_at.result c.formal_or_none-parameter.result c.actual-one.result
    c.formal_at.ensures c.formal_or_none-parameter.ensures c.actual-one.ensures c.with_actual.ensures
