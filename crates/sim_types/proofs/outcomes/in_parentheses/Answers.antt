use Rattle.sim_types.proofs.Steps.{in_parentheses_in_steps}
use Rattle.sim_types.proofs.outcomes.in_parentheses.Goals as goal

pub returns : goal.returns
returns c =
    in_parentheses_in_steps c.args.scopes.now c.args.first c.args.found.now c.called-outcome.new.found c.parenthesized.new.found c.args.outcome c.called-outcome.result c.parenthesized.result
    c.called-outcome.ensures c.parenthesized.ensures
