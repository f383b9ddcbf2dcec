use Rattle.sim_xref.proofs.Exact.{exact_uses}
use Rattle.sim_xref.proofs.laws.exact_uses.Goals as goal

pub returns : goal.returns
returns c s d = exact_uses s d
