use Rattle.sim_values.proofs.Worked.{operators, steps}
use Rattle.sim_values.proofs.laws.worked_operators.Goals as goal

pub returns-clause-operators : goal.returns-clause-operators
returns-clause-operators c = operators

pub returns-clause-steps : goal.returns-clause-steps
returns-clause-steps c = steps
