use Rattle.sim_chains.proofs.Refused.{head_encloser, head_further, head_none}
use Rattle.sim_chains.proofs.laws.heads.Goals as goal

pub returns-clause-none : goal.returns-clause-none
returns-clause-none c = head_none

pub returns-clause-encloser : goal.returns-clause-encloser
returns-clause-encloser c = head_encloser

pub returns-clause-further : goal.returns-clause-further
returns-clause-further c = head_further
