use Rattle.std.proofs.Common.{rules, ◌≡◌, ◌-◌, ap, ◌∙◌, arith, of_z, to_z, w64}
use Rattle.std.specs.Prelude.{Some}
use Rattle.frame_arena.specs.Slots.{value_of}
use Rattle.frame_arena.specs.Stacks.{slot_at}
use Rattle.standard_calls.specs.Calls.{IsNoText, text_and_integer_name}
use Rattle.standard_calls.proofs.Readers.{missed, text_and_integer_bad_below, text_and_integer_bad_top, text_and_integer_few, text_and_integer_read}
use Rattle.standard_calls.proofs.reading.text_and_integer.Goals as goal

pub returns-then-depth-lt2-clause-read : goal.returns-then-depth-lt2-clause-read
returns-then-depth-lt2-clause-read c = text_and_integer_few c.args.depth c.args.stack.now c.requires.fits c.args.function c.if-depth-lt2.true

pub returns-in_default-clause-read : goal.returns-in_default-clause-read
returns-in_default-clause-read c = text_and_integer_bad_top c.args.depth c.args.stack.now c.requires.fits c.args.function (omega (arith, c.if-depth-lt2.false)) c.in_default.ensures

pub returns-in-Ok-clause-read : goal.returns-in-Ok-clause-read
returns-in-Ok-clause-read c =
    let e : to_z w64 (of_z w64 c.in-Some.i) ≡ c.in-Some.i = search rules in
    text_and_integer_read c.args.depth c.args.stack.now c.requires.fits c.args.function c.in-Ok.t (to_z w64 (of_z w64 c.in-Some.i)) (omega (arith, c.if-depth-lt2.false)) (ap Some e ∙ c.in-Some.ensures) c.in-Ok.ensures.text.0

pub returns-in-Err-clause-read : goal.returns-in-Err-clause-read
returns-in-Err-clause-read c =
    missed (text_and_integer_name c.args.function) c.args.depth c.args.stack.now c.in-Err.missing (IsNoText (value_of (slot_at c.args.stack.now (c.args.depth - 2)))) c.in-Err.ensures.other
    (λ bad. text_and_integer_bad_below c.args.depth c.args.stack.now c.requires.fits c.args.function c.in-Some.i (omega (arith, c.if-depth-lt2.false)) c.in-Some.ensures bad)
