use Rattle.sim_allowed.proofs.Main.{allowed_typed}
use Rattle.sim_allowed.proofs.laws.allowed_programs_are_typed.Goals as goal

pub returns : goal.returns
returns c = allowed_typed
