use Rattle.std.proofs.Common.{◌∙◌, arith}
use Rattle.frame_arena.proofs.Tops.{integer_more, integer_missing, integer_refused, integers_done}
use Rattle.frame_arena.proofs.stack.pop_integers.Goals as goal

pub returns-then-at-lt1-clause-row : goal.returns-then-at-lt1-clause-row
returns-then-at-lt1-clause-row c o go =
    c.loop.invariant.1 o go
    ∙ integer_missing c.args.stack.now c.args.count c.loop.at c.loop.counter _ o go c.loop-test.true (omega (arith, c.if-at-lt1.true))

pub returns-in_default : goal.returns-in_default
returns-in_default c = record {
  places = tt;
  row = λ o go.
      c.loop.invariant.1 o go
      ∙ integer_refused c.args.stack.now c.args.count c.loop.at c.loop.counter _ o go c.loop-test.true (omega (arith, c.if-at-lt1.false)) (omega (arith, c.requires.fits, c.loop.invariant.0)) c.in_default.not-Integer;
}

pub loop-preserved : goal.loop-preserved
loop-preserved c = (
  omega (arith, c.if-at-lt1.false, c.loop.invariant.0),
  λ o go.
      c.loop.invariant.1 o go
      ∙ integer_more c.args.stack.now c.args.count c.loop.at c.loop.counter o go c.loop-test.true (omega (arith, c.if-at-lt1.false)) (omega (arith, c.requires.fits, c.loop.invariant.0)) c.in-Integer.is,
)

pub returns-clause-row : goal.returns-clause-row
returns-clause-row c o go =
    c.loop.invariant.1 o go
    ∙ integers_done c.args.stack.now c.args.count c.loop.at c.loop.counter o go (omega (arith, c.loop-test.false, c.loop.auto.counter-end))
