use Rattle.sim_chains.proofs.Keeps.{call_law, detach_law, end_law, main_law, resume_law}
use Rattle.sim_chains.proofs.laws.transfers_keep.Goals as goal

pub returns-clause-call : goal.returns-clause-call
returns-clause-call g c = call_law

pub returns-clause-resume : goal.returns-clause-resume
returns-clause-resume g c = resume_law

pub returns-clause-main : goal.returns-clause-main
returns-clause-main g c = λ owner head. main_law owner head

pub returns-clause-detach : goal.returns-clause-detach
returns-clause-detach g c = detach_law

pub returns-clause-end : goal.returns-clause-end
returns-clause-end g c = end_law
