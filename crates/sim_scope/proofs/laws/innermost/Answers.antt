use Rattle.sim_scope.proofs.Searches.{every_innermost, found_innermost}
use Rattle.sim_scope.proofs.laws.innermost.Goals as goal

pub returns-clause-found : goal.returns-clause-found
returns-clause-found c = found_innermost

pub returns-clause-every : goal.returns-clause-every
returns-clause-every c = every_innermost
