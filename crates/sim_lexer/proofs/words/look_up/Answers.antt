use Rattle.std.proofs.Common.{refl, sym}
use Rattle.sim_lexer.specs.Words.{look_up}
use Rattle.sim_lexer.proofs.Tables.{given_at_end, given_behind, given_here}
use Rattle.sim_lexer.proofs.words.look_up.Goals as goal

pub returns-then-spells : goal.returns-then-spells
returns-then-spells c =
    record { token = sym (given_here (λ rows. look_up rows c.args.word.now) c.args.rows.now c.loop-row.row-index _ _ c.spells.result _ c.loop-row.invariant c.loop-row-test.true refl c.spells.ensures.answer c.if-spells.true) }

pub loop-row-preserved : goal.loop-row-preserved
loop-row-preserved c =
    given_behind (λ rows. look_up rows c.args.word.now) c.args.rows.now c.loop-row.row-index _ _ c.spells.result _ c.loop-row.invariant c.loop-row-test.true refl c.spells.ensures.answer c.if-spells.false

pub returns : goal.returns
returns c = record { token = sym (given_at_end (λ rows. look_up rows c.args.word.now) c.args.rows.now c.loop-row.row-index c.loop-row.invariant c.loop-row-test.false) }
