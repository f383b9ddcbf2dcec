use Rattle.prefix_bind.proofs.ChainLevels.{ends_with_itself}
use Rattle.prefix_bind.proofs.laws.last_level.Goals as goal

pub returns : goal.returns
returns c = ends_with_itself
