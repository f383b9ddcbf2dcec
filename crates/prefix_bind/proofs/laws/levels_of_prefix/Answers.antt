use Rattle.prefix_bind.proofs.ChainLevels.{one_more}
use Rattle.prefix_bind.proofs.laws.levels_of_prefix.Goals as goal

pub returns : goal.returns
returns c = one_more
