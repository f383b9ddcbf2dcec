use Rattle.sim_chains.proofs.Refused.{call_refused, detach_gives_up, detach_leaves, detach_refused, detach_stays, main_refused, resume_refused}
use Rattle.sim_chains.proofs.laws.refusals.Goals as goal

pub returns-clause-call : goal.returns-clause-call
returns-clause-call g c = call_refused

pub returns-clause-resume : goal.returns-clause-resume
returns-clause-resume g c = resume_refused

pub returns-clause-main : goal.returns-clause-main
returns-clause-main g c = main_refused

pub returns-clause-detach : goal.returns-clause-detach
returns-clause-detach g c = detach_refused

pub returns-clause-detach_stays : goal.returns-clause-detach_stays
returns-clause-detach_stays g c = detach_stays

pub returns-clause-detach_leaves : goal.returns-clause-detach_leaves
returns-clause-detach_leaves g c = detach_leaves

pub returns-clause-detach_gives_up : goal.returns-clause-detach_gives_up
returns-clause-detach_gives_up g c = detach_gives_up
