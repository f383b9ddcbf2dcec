use Rattle.sim_base.specs.declared.rule.Rule.TheVariants as x
use Rattle.sim_lexer.specs.Piece.{Fault}
use Rattle.sim_lexer.specs.Signs.{sign_in}
use Rattle.sim_lexer.proofs.Tables.{Passed}
use Rattle.sim_lexer.proofs.signs.first_sign.Given as goal

abbrev pub invariant-loop-sign : goal.invariant-loop-sign
invariant-loop-sign l = Passed (λ signs. sign_in signs l.rest (Fault x.ByteBeginsNoToken)) l.signs l.sign-index
