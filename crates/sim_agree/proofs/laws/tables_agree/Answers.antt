use Rattle.sim_agree.proofs.laws.tables_agree.Goals as goal
use Rattle.sim_agree.proofs.Whole.{tables_agree}

pub returns : goal.returns
returns c = tables_agree
