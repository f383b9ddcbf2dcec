use Rattle.param_modes.proofs.AsJudged.{as_generated, class_as_held}
use Rattle.param_modes.proofs.laws.generations_as_headings.Goals as goal

pub returns-clause-actuals : goal.returns-clause-actuals
returns-clause-actuals c = class_as_held

pub returns-clause-generation : goal.returns-clause-generation
returns-clause-generation c = as_generated
