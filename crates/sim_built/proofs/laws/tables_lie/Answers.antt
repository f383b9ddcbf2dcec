use Rattle.sim_built.proofs.Lying.{lies}
use Rattle.sim_built.proofs.laws.tables_lie.Goals as goal

pub returns : goal.returns
returns c = lies
