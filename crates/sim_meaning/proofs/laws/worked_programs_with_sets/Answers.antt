use Rattle.sim_meaning.proofs.WorkedSets.{worked_sets}
use Rattle.sim_meaning.proofs.laws.worked_programs_with_sets.Goals as goal

pub returns : goal.returns
returns c = worked_sets
