use Rattle.std.proofs.Common.{arith}
use Rattle.frame_arena.proofs.Pairs.{few, bad_top, bad_below, both}
use Rattle.frame_arena.proofs.stack.two_integers.Goals as goal

pub returns-then-depth-lt2-clause-row : goal.returns-then-depth-lt2-clause-row
returns-then-depth-lt2-clause-row c op line o go = few op line o go c.args.depth c.args.stack.now c.if-depth-lt2.true

pub returns-in-Integer-Integer-clause-row : goal.returns-in-Integer-Integer-clause-row
returns-in-Integer-Integer-clause-row c op line o go =
    both op line o go c.args.depth c.args.stack.now (omega (arith, c.if-depth-lt2.false)) c.requires.fits c.in-Integer-Integer.is-0 c.in-Integer-Integer.is-1

pub returns-in_default : goal.returns-in_default
returns-in_default c = record {
  places = tt;
  kinds = tt;
  row = λ op line o go. bad_below op line o go c.args.depth c.args.stack.now (omega (arith, c.if-depth-lt2.false)) c.requires.fits c.in_default.is-0 c.in_default.not-Integer-1;
}

pub returns-in_default-2 : goal.returns-in_default-2
returns-in_default-2 c = record {
  places = tt;
  kinds = tt;
  row = λ op line o go. bad_top op line o go c.args.depth c.args.stack.now (omega (arith, c.if-depth-lt2.false)) c.requires.fits c.in_default.not-Integer-0;
}
