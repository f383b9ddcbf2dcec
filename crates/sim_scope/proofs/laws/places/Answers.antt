use Rattle.sim_scope.proofs.Places.{tables_placed}
use Rattle.sim_scope.proofs.laws.places.Goals as goal

pub returns : goal.returns
returns c = tables_placed
