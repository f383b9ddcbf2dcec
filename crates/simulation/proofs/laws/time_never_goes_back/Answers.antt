use Rattle.simulation.proofs.LawLemmas.{held-no_earlier, passivated-no_earlier, cancelled-no_earlier, activated-no_earlier}
use Rattle.simulation.proofs.laws.time_never_goes_back.Goals as goal

pub returns-clause-hold : goal.returns-clause-hold
returns-clause-hold c = held-no_earlier

pub returns-clause-passivate : goal.returns-clause-passivate
returns-clause-passivate c = passivated-no_earlier

pub returns-clause-cancel : goal.returns-clause-cancel
returns-clause-cancel c = cancelled-no_earlier

pub returns-clause-activate : goal.returns-clause-activate
returns-clause-activate c = activated-no_earlier
