use Rattle.sim_tree.proofs.Filled.{filled}
use Rattle.sim_tree.proofs.grammar.filled.Goals as goal

pub returns : goal.returns
returns c = filled
