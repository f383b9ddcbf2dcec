use Rattle.sim_code.proofs.Worked.{worked_virtuals}
use Rattle.sim_code.proofs.laws.worked_virtuals.Goals as goal

pub returns : goal.returns
returns c = worked_virtuals
