use Rattle.sim_code.proofs.Worked.{worked_classes}
use Rattle.sim_code.proofs.laws.worked_classes.Goals as goal

pub returns : goal.returns
returns c = worked_classes
