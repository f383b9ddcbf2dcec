use Rattle.sim_xref.proofs.Exact.{exact_lines}
use Rattle.sim_xref.proofs.laws.exact_lines.Goals as goal

pub returns : goal.returns
returns c s uses = exact_lines s uses
