use Rattle.simset.proofs.Backwards.{pred-backwards}
use Rattle.simset.proofs.Mirrors.{precede-backwards}
use Rattle.simset.proofs.laws.backwards_what_precedes_follows.Goals as goal

pub returns-clause-precede : goal.returns-clause-precede
returns-clause-precede c = precede-backwards

pub returns-clause-pred : goal.returns-clause-pred
returns-clause-pred c = pred-backwards
