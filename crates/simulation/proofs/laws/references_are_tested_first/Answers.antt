use Rattle.simulation.proofs.LawLemmas.{activated-operand, activated-of_another, activated-operand_of_another}
use Rattle.simulation.proofs.laws.references_are_tested_first.Goals as goal

pub returns-clause-operand : goal.returns-clause-operand
returns-clause-operand c = activated-operand

pub returns-clause-of_another : goal.returns-clause-of_another
returns-clause-of_another c = activated-of_another

pub returns-clause-operand_of_another : goal.returns-clause-operand_of_another
returns-clause-operand_of_another c = activated-operand_of_another
