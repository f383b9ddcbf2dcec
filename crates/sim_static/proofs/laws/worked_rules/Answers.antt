use Rattle.sim_static.proofs.Worked.{worked}
use Rattle.sim_static.proofs.laws.worked_rules.Goals as goal

pub returns : goal.returns
returns c = worked
