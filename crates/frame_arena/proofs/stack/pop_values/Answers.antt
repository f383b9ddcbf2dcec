use Rattle.std.proofs.Common.{[]}
use Rattle.frame_arena.proofs.Places.{many_few, many_of}
use Rattle.frame_arena.proofs.stack.pop_values.Goals as goal

pub returns-then-depth-count-clause-row : goal.returns-then-depth-count-clause-row
returns-then-depth-count-clause-row c o go = many_few c.args.stack.now c.args.count c.args.depth [] o go c.if-depth-count.true c.requires.fits

pub returns-clause-row : goal.returns-clause-row
returns-clause-row c o go = many_of c.args.stack.now c.args.depth c.args.count o go c.if-depth-count.false c.requires.fits
