use Rattle.sim_chains.proofs.Cuts.{cut_is, cuts, none, some}
use Rattle.sim_chains.proofs.Refused.{one_cut, whole_cut}
use Rattle.sim_chains.proofs.laws.cut_and_join.Goals as goal

pub returns-clause-joins : goal.returns-clause-joins
returns-clause-joins g c = λ owner x l k e. (cut_is owner x l k e).chain

pub returns-clause-cuts : goal.returns-clause-cuts
returns-clause-cuts g c = cuts

pub returns-clause-whole : goal.returns-clause-whole
returns-clause-whole g c = whole_cut

pub returns-clause-none : goal.returns-clause-none
returns-clause-none g c = none

pub returns-clause-some : goal.returns-clause-some
returns-clause-some g c = some

pub returns-clause-one : goal.returns-clause-one
returns-clause-one g c = one_cut
