use Rattle.sim_meaning.proofs.WorkedClasses.{worked_classes}
use Rattle.sim_meaning.proofs.laws.worked_programs_with_classes.Goals as goal

pub returns : goal.returns
returns c = worked_classes
