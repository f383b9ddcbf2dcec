use Rattle.sim_scope.proofs.Breaking.{least_declared}
use Rattle.sim_scope.proofs.laws.least_declared.Goals as goal

pub returns : goal.returns
returns c = least_declared
