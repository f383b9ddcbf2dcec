use Rattle.sim_tree.proofs.Nests as nests
use Rattle.sim_tree.proofs.nesting.block_prefix.Goals as goal

pub returns : goal.returns
returns c = nests.at_list c.deref.ensures.value c.arguments.ensures
