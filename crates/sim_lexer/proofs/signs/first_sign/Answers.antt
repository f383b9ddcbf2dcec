use Rattle.std.proofs.Common.{refl, sym, ◌∙◌}
use Rattle.sim_base.specs.declared.rule.Rule.TheVariants as x
use Rattle.sim_lexer.specs.Piece.{Fault}
use Rattle.sim_lexer.specs.Signs.{sign_in}
use Rattle.sim_lexer.proofs.Tables.{given_at_end, given_behind, given_here}
use Rattle.sim_lexer.proofs.signs.first_sign.Goals as goal

pub returns-then-stands_in_front : goal.returns-then-stands_in_front
returns-then-stands_in_front c =
    record { item = (given_here (λ rows. sign_in rows c.args.rest.now (Fault x.ByteBeginsNoToken)) c.args.signs.now c.loop-sign.sign-index _ _ c.stands_in_front.result _ c.loop-sign.invariant c.loop-sign-test.true refl c.stands_in_front.ensures.answer c.if-stands_in_front.true ∙ sym c.written.ensures.item) }

pub loop-sign-preserved : goal.loop-sign-preserved
loop-sign-preserved c =
    given_behind (λ rows. sign_in rows c.args.rest.now (Fault x.ByteBeginsNoToken)) c.args.signs.now c.loop-sign.sign-index _ _ c.stands_in_front.result _ c.loop-sign.invariant c.loop-sign-test.true refl c.stands_in_front.ensures.answer c.if-stands_in_front.false

pub returns : goal.returns
returns c = record { item = given_at_end (λ rows. sign_in rows c.args.rest.now (Fault x.ByteBeginsNoToken)) c.args.signs.now c.loop-sign.sign-index c.loop-sign.invariant c.loop-sign-test.false }
