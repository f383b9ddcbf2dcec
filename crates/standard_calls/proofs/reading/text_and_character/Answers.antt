use Rattle.std.proofs.Common.{◌-◌, arith}
use Rattle.sim_values.specs.declared.standard.Standard.TheVariants as name
use Rattle.frame_arena.specs.Slots.{value_of}
use Rattle.frame_arena.specs.Stacks.{slot_at}
use Rattle.standard_calls.specs.Calls.{IsNoText}
use Rattle.standard_calls.proofs.Readers.{missed, putchar_bad_below, putchar_bad_top, putchar_few, putchar_read}
use Rattle.standard_calls.proofs.reading.text_and_character.Goals as goal

pub returns-then-depth-lt2-clause-read : goal.returns-then-depth-lt2-clause-read
returns-then-depth-lt2-clause-read c = putchar_few c.args.depth c.args.stack.now c.requires.fits c.if-depth-lt2.true

pub returns-in_default-clause-read : goal.returns-in_default-clause-read
returns-in_default-clause-read c = putchar_bad_top c.args.depth c.args.stack.now c.requires.fits (omega (arith, c.if-depth-lt2.false)) c.in_default.ensures

pub returns-in-Ok-clause-read : goal.returns-in-Ok-clause-read
returns-in-Ok-clause-read c = putchar_read c.args.depth c.args.stack.now c.requires.fits c.in-Ok.t c.in-Some.c (omega (arith, c.if-depth-lt2.false)) c.in-Some.ensures c.in-Ok.ensures.text.0

pub returns-in-Err-clause-read : goal.returns-in-Err-clause-read
returns-in-Err-clause-read c =
    missed name.TextPutchar c.args.depth c.args.stack.now c.in-Err.missing (IsNoText (value_of (slot_at c.args.stack.now (c.args.depth - 2)))) c.in-Err.ensures.other
    (λ bad. putchar_bad_below c.args.depth c.args.stack.now c.requires.fits c.in-Some.c (omega (arith, c.if-depth-lt2.false)) c.in-Some.ensures bad)
