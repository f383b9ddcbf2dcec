use Rattle.sim_values.proofs.Worked.{stores}
use Rattle.sim_values.proofs.laws.worked_stores.Goals as goal

pub returns : goal.returns
returns c = stores
