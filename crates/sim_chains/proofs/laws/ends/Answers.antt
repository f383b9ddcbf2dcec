use Rattle.sim_chains.proofs.Transfers.{ends_attached, ends_resumed}
use Rattle.sim_chains.proofs.laws.ends.Goals as goal

pub returns-clause-attached : goal.returns-clause-attached
returns-clause-attached g c = ends_attached

pub returns-clause-resumed : goal.returns-clause-resumed
returns-clause-resumed g c = ends_resumed
