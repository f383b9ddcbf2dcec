use Rattle.prefix_bind.proofs.ChainLevels.{begins_with_outermost}
use Rattle.prefix_bind.proofs.laws.first_level.Goals as goal

pub returns : goal.returns
returns c = begins_with_outermost
