use Rattle.sim_meaning.proofs.WorkedCoroutines.{worked_coroutines}
use Rattle.sim_meaning.proofs.laws.worked_programs_with_coroutines.Goals as goal

pub returns : goal.returns
returns c = worked_coroutines
