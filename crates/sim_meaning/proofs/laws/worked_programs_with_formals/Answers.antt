use Rattle.sim_meaning.proofs.WorkedFormals.{worked_formals}
use Rattle.sim_meaning.proofs.laws.worked_programs_with_formals.Goals as goal

pub returns : goal.returns
returns c = worked_formals
