use Rattle.sim_code.proofs.Deciding.{decides}
use Rattle.sim_code.proofs.laws.scheduling_moves.Goals as goal

pub returns : goal.returns
returns g c = λ owner line o chain m x. decides _ _ owner line o chain m x
