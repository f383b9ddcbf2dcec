use Rattle.sim_readings.proofs.Programs.{tree_or_fault}
use Rattle.sim_readings.proofs.laws.one_tree_or_one_fault.Goals as goal

pub returns-clause-either : goal.returns-clause-either
returns-clause-either c = λ ws source few. tree_or_fault ws source few
