use Rattle.std.proofs.Common.{rules, ◌≡◌, ◌-◌, ap, ◌∙◌, arith, of_z, to_z, w64}
use Rattle.std.specs.Prelude.{Some}
use Rattle.sim_values.specs.declared.standard.Standard.TheVariants as name
use Rattle.frame_arena.specs.Slots.{value_of}
use Rattle.frame_arena.specs.Stacks.{slot_at}
use Rattle.standard_calls.specs.Calls.{IsNoText}
use Rattle.standard_calls.proofs.Readers.{missed, sub_bad_below, sub_bad_middle, sub_bad_top, sub_few, sub_read}
use Rattle.standard_calls.proofs.reading.text_and_integers.Goals as goal

pub returns-then-depth-lt3-clause-read : goal.returns-then-depth-lt3-clause-read
returns-then-depth-lt3-clause-read c = sub_few c.args.depth c.args.stack.now c.requires.fits c.if-depth-lt3.true

pub returns-in_default-clause-read : goal.returns-in_default-clause-read
returns-in_default-clause-read c = sub_bad_top c.args.depth c.args.stack.now c.requires.fits (omega (arith, c.if-depth-lt3.false)) c.in_default.ensures

pub returns-in_default-as_integer-clause-read : goal.returns-in_default-as_integer-clause-read
returns-in_default-as_integer-clause-read c = sub_bad_middle c.args.depth c.args.stack.now c.requires.fits c.in-Some.n (omega (arith, c.if-depth-lt3.false)) c.in-Some.ensures c.in_default-as_integer.ensures

pub returns-in-Ok-clause-read : goal.returns-in-Ok-clause-read
returns-in-Ok-clause-read c =
    let en : to_z w64 (of_z w64 c.in-Some.n) ≡ c.in-Some.n = search rules in
    let ei : to_z w64 (of_z w64 c.in-Some-as_integer.i) ≡ c.in-Some-as_integer.i = search rules in
    sub_read c.args.depth c.args.stack.now c.requires.fits c.in-Ok.t (to_z w64 (of_z w64 c.in-Some-as_integer.i)) (to_z w64 (of_z w64 c.in-Some.n)) (omega (arith, c.if-depth-lt3.false)) (ap Some en ∙ c.in-Some.ensures) (ap Some ei ∙ c.in-Some-as_integer.ensures) c.in-Ok.ensures.text.0

pub returns-in-Err-clause-read : goal.returns-in-Err-clause-read
returns-in-Err-clause-read c =
    missed name.TextSub c.args.depth c.args.stack.now c.in-Err.missing (IsNoText (value_of (slot_at c.args.stack.now (c.args.depth - 3)))) c.in-Err.ensures.other
    (λ bad. sub_bad_below c.args.depth c.args.stack.now c.requires.fits c.in-Some-as_integer.i c.in-Some.n (omega (arith, c.if-depth-lt3.false)) c.in-Some.ensures c.in-Some-as_integer.ensures bad)
