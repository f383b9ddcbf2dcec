use Rattle.sim_chains.proofs.Transfers.{resume_keeps}
use Rattle.sim_chains.proofs.laws.resume_and_keep.Goals as goal

pub returns : goal.returns
returns g c = resume_keeps
