use Rattle.std.proofs.Common.{◌-◌, arith}
use Rattle.frame_arena.specs.Slots.{value_of}
use Rattle.frame_arena.specs.Stacks.{slot_at}
use Rattle.standard_calls.specs.Calls.{IsNoText, text_name}
use Rattle.standard_calls.proofs.Readers.{missed, text_bad, text_few, text_read}
use Rattle.standard_calls.proofs.reading.text.Goals as goal

pub returns-then-depth-lt1-clause-read : goal.returns-then-depth-lt1-clause-read
returns-then-depth-lt1-clause-read c = text_few c.args.depth c.args.stack.now c.requires.fits c.args.function c.if-depth-lt1.true

pub returns-in-Ok-clause-read : goal.returns-in-Ok-clause-read
returns-in-Ok-clause-read c = text_read c.args.depth c.args.stack.now c.requires.fits c.args.function c.in-Ok.t (omega (arith, c.if-depth-lt1.false)) c.in-Ok.ensures.text.0

pub returns-in-Err-clause-read : goal.returns-in-Err-clause-read
returns-in-Err-clause-read c =
    missed (text_name c.args.function) c.args.depth c.args.stack.now c.in-Err.missing (IsNoText (value_of (slot_at c.args.stack.now (c.args.depth - 1)))) c.in-Err.ensures.other
    (λ bad. text_bad c.args.depth c.args.stack.now c.requires.fits c.args.function (omega (arith, c.if-depth-lt1.false)) bad)
