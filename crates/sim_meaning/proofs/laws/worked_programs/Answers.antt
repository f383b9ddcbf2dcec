use Rattle.sim_meaning.proofs.Worked.{worked}
use Rattle.sim_meaning.proofs.laws.worked_programs.Goals as goal

pub returns : goal.returns
returns c = worked
