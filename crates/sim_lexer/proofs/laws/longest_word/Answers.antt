use Rattle.sim_lexer.proofs.LongestWords as words
use Rattle.sim_lexer.proofs.laws.longest_word.Goals as goal

pub returns : goal.returns
returns c = record { longest = words.longest_word }
