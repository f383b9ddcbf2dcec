use Rattle.sim_lexer.proofs.OneAnswer as answers
use Rattle.sim_lexer.proofs.SomeAnswer as answer
use Rattle.sim_lexer.proofs.laws.one_reading.Goals as goal

pub returns : goal.returns
returns c = record { one = λ source first second reads also_reads. answers.one_reading reads also_reads; some = answer.some_reading }
