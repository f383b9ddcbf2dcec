use Rattle.sim_values.proofs.Worked.{calls}
use Rattle.sim_values.proofs.laws.worked_calls.Goals as goal

pub returns : goal.returns
returns c = calls
