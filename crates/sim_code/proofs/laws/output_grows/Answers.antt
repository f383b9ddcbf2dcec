use Rattle.sim_code.proofs.GrowingRows.{output_grows}
use Rattle.sim_code.proofs.laws.output_grows.Goals as goal

pub returns : goal.returns
returns c = output_grows
