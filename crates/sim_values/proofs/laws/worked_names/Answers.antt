use Rattle.sim_values.proofs.Worked.{numbers, texts, images}
use Rattle.sim_values.proofs.laws.worked_names.Goals as goal

pub returns-clause-numbers : goal.returns-clause-numbers
returns-clause-numbers c = numbers

pub returns-clause-texts : goal.returns-clause-texts
returns-clause-texts c = texts

pub returns-clause-images : goal.returns-clause-images
returns-clause-images c = images
