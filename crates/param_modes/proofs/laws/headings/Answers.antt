use Rattle.param_modes.proofs.Gathering.{is_heading}
use Rattle.param_modes.proofs.laws.headings.Goals as goal

pub returns : goal.returns
returns c = is_heading
