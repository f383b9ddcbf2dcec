use Rattle.std.proofs.Common.{arith}
use Rattle.standard_calls.proofs.Readers.{character_bad, character_few, character_read}
use Rattle.standard_calls.proofs.reading.character.Goals as goal

pub returns-then-depth-lt1 : goal.returns-then-depth-lt1
returns-then-depth-lt1 c = record { read = character_few c.args.depth c.args.stack.now c.requires.fits c.args.function c.if-depth-lt1.true }

pub returns-in-Some : goal.returns-in-Some
returns-in-Some c = record { read = character_read c.args.depth c.args.stack.now c.requires.fits c.args.function c.in-Some.c (omega (arith, c.if-depth-lt1.false)) c.in-Some.ensures }

pub returns-in-None : goal.returns-in-None
returns-in-None c = record { read = character_bad c.args.depth c.args.stack.now c.requires.fits c.args.function (omega (arith, c.if-depth-lt1.false)) c.in-None.ensures }
