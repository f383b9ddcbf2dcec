use Rattle.std.proofs.Common.{arith}
use Rattle.frame_arena.proofs.Tops.{pop_none, pop_some}
use Rattle.frame_arena.proofs.stack.pop.Goals as goal

pub returns-then-depth-eq0-clause-row : goal.returns-then-depth-eq0-clause-row
returns-then-depth-eq0-clause-row c o go = pop_none c.args.depth c.args.stack.now o go (omega (arith, c.if-depth-eq0.true))

pub returns-clause-row : goal.returns-clause-row
returns-clause-row c o go = pop_some c.args.depth c.args.stack.now o go (omega (arith, c.if-depth-eq0.false)) c.requires.fits
