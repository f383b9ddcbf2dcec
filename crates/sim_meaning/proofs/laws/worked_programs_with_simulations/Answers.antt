use Rattle.sim_meaning.proofs.WorkedSimulations.{worked_simulations}
use Rattle.sim_meaning.proofs.laws.worked_programs_with_simulations.Goals as goal

pub returns : goal.returns
returns c = worked_simulations
