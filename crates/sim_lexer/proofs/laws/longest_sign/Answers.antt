use Rattle.sim_lexer.proofs.LongestSign as signs
use Rattle.sim_lexer.proofs.laws.longest_sign.Goals as goal

pub returns : goal.returns
returns c = record { longest = signs.longest_sign }
