use Rattle.sim_meaning.proofs.Worked.{worked_texts}
use Rattle.sim_meaning.proofs.laws.worked_programs_with_texts.Goals as goal

pub returns : goal.returns
returns c = worked_texts
