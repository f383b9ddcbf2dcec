use Rattle.sim_code.proofs.Worked.{worked}
use Rattle.sim_code.proofs.laws.worked_codes.Goals as goal

pub returns : goal.returns
returns c = worked
