use Rattle.sim_code.proofs.Worked.{worked_simulations}
use Rattle.sim_code.proofs.laws.worked_simulations.Goals as goal

pub returns : goal.returns
returns c = worked_simulations
