use Rattle.sim_built.proofs.Allowed as w
use Rattle.sim_built.proofs.laws.allowed_programs_run.Goals as goal

pub returns-clause-built : goal.returns-clause-built
returns-clause-built c = λ tokens tree s is. w.built tokens tree s is

pub returns-clause-ruled : goal.returns-clause-ruled
returns-clause-ruled c = λ tokens tree s is. w.ruled tokens tree s is

pub returns-clause-stays_sane : goal.returns-clause-stays_sane
returns-clause-stays_sane c = λ tokens tree s is. w.sane tokens tree s is

pub returns-clause-names_objects : goal.returns-clause-names_objects
returns-clause-names_objects c = λ tokens tree s is. w.named tokens tree s is
