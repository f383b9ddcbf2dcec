use Rattle.sim_tree.proofs.Laws.{one_reading}
use Rattle.sim_tree.proofs.grammar.one_derivation.Goals as goal

pub returns : goal.returns
returns c = λ most ws d i j m s f h r q. one_reading most ws r q
