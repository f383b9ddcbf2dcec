use Rattle.sim_scope.proofs.Searches.{shown_where_found as where_found}
use Rattle.sim_scope.proofs.laws.shown_where_found.Goals as goal

pub returns : goal.returns
returns c = where_found
