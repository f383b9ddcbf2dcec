use Rattle.sim_meaning.proofs.WorkedNames.{worked_names}
use Rattle.sim_meaning.proofs.laws.worked_programs_with_names.Goals as goal

pub returns : goal.returns
returns c = worked_names
