use Rattle.sim_chains.proofs.Transfers.{resume_back}
use Rattle.sim_chains.proofs.laws.resume_and_back.Goals as goal

pub returns : goal.returns
returns g c = resume_back
