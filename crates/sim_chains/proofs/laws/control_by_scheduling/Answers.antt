use Rattle.sim_chains.proofs.Refused.{resume_refused}
use Rattle.sim_chains.proofs.laws.control_by_scheduling.Goals as goal

pub returns-clause-object : goal.returns-clause-object
returns-clause-object g c = λ owner head c s y. resume_refused owner head c y
