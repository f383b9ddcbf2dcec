use Rattle.param_modes.proofs.AsJudged.{as_held, as_settled}
use Rattle.param_modes.proofs.laws.calls_as_headings.Goals as goal

pub returns-clause-actuals : goal.returns-clause-actuals
returns-clause-actuals c = as_held

pub returns-clause-call : goal.returns-clause-call
returns-clause-call c = as_settled
