use Rattle.sim_code.proofs.Worked.{worked_coroutines}
use Rattle.sim_code.proofs.laws.worked_coroutines.Goals as goal

pub returns : goal.returns
returns c = worked_coroutines
