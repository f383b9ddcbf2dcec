use Rattle.simulation.proofs.LawLemmas.{answer-empty, answer-stay}
use Rattle.simulation.proofs.laws.answers_tell_the_list.Goals as goal

pub returns-clause-empty : goal.returns-clause-empty
returns-clause-empty c = answer-empty

pub returns-clause-stay : goal.returns-clause-stay
returns-clause-stay c = answer-stay
