use Rattle.sim_lexer.specs.Words.{look_up}
use Rattle.sim_lexer.proofs.Tables.{Passed}
use Rattle.sim_lexer.proofs.words.look_up.Given as goal

abbrev pub invariant-loop-row : goal.invariant-loop-row
invariant-loop-row l = Passed (λ rows. look_up rows l.word) l.rows l.row-index
