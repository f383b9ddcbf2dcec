use Rattle.simulation.proofs.LawLemmas.{cancelled-current}
use Rattle.simulation.proofs.laws.cancel_of_the_current_is_passivate.Goals as goal

pub returns : goal.returns
returns c = cancelled-current
