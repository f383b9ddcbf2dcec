use Rattle.sim_code.proofs.Moves.{transfers_move}
use Rattle.sim_code.proofs.laws.transfers_move.Goals as goal

pub returns : goal.returns
returns g c = λ owner line o chain m. transfers_move _ _ owner line o chain m
