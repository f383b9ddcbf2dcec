use Rattle.sim_code.proofs.Worked.{worked_sets}
use Rattle.sim_code.proofs.laws.worked_sets.Goals as goal

pub returns : goal.returns
returns c = worked_sets
