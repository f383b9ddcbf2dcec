use Rattle.sim_chains.proofs.Refused.{call_then_detach}
use Rattle.sim_chains.proofs.laws.call_and_detach.Goals as goal

pub returns : goal.returns
returns g c = call_then_detach
