use Rattle.sim_code.proofs.Worked.{worked_formals}
use Rattle.sim_code.proofs.laws.worked_formals.Goals as goal

pub returns : goal.returns
returns c = worked_formals
