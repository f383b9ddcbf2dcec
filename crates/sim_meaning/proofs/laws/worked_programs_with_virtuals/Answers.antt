use Rattle.sim_meaning.proofs.WorkedVirtuals.{worked_virtuals}
use Rattle.sim_meaning.proofs.laws.worked_programs_with_virtuals.Goals as goal

pub returns : goal.returns
returns c = worked_virtuals
