use Rattle.std.proofs.Common.{arith}
use Rattle.sim_tree.proofs.Nests as nests
use Rattle.sim_tree.proofs.nesting.bound_pair.Goals as goal

pub returns : goal.returns
returns c = nests.same (omega arith) (nests.followed c.expression.ensures c.expression-2.ensures)
