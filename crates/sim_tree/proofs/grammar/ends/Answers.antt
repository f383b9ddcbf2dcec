use Rattle.sim_tree.proofs.Ends.{ends_behind}
use Rattle.sim_tree.proofs.grammar.ends.Goals as goal

pub returns : goal.returns
returns c = ends_behind
