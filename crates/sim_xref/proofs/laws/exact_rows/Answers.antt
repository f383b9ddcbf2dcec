use Rattle.sim_xref.proofs.Exact.{exact_rows}
use Rattle.sim_xref.proofs.laws.exact_rows.Goals as goal

pub returns : goal.returns
returns c s = exact_rows s
