use Rattle.sim_scope.proofs.Leasts.{least_law}
use Rattle.sim_scope.proofs.laws.least_of_all.Goals as goal

pub returns : goal.returns
returns c = least_law
