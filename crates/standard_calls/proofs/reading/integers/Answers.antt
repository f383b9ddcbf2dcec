use Rattle.std.proofs.Common.{rules, ◌≡◌, ap, ◌∙◌, arith, of_z, to_z, w64}
use Rattle.std.specs.Prelude.{Some}
use Rattle.standard_calls.proofs.Readers.{integers_bad_below, integers_bad_top, integers_few, integers_read}
use Rattle.standard_calls.proofs.reading.integers.Goals as goal

pub returns-then-depth-lt2 : goal.returns-then-depth-lt2
returns-then-depth-lt2 c = record { read = integers_few c.args.depth c.args.stack.now c.requires.fits c.args.function c.if-depth-lt2.true }

pub returns-in_default : goal.returns-in_default
returns-in_default c = record { read = integers_bad_top c.args.depth c.args.stack.now c.requires.fits c.args.function (omega (arith, c.if-depth-lt2.false)) c.in_default.ensures }

pub returns-in_default-as_integer : goal.returns-in_default-as_integer
returns-in_default-as_integer c = record { read = integers_bad_below c.args.depth c.args.stack.now c.requires.fits c.args.function c.in-Some.j (omega (arith, c.if-depth-lt2.false)) c.in-Some.ensures c.in_default-as_integer.ensures }

pub returns : goal.returns
returns c =
    let ej : to_z w64 (of_z w64 c.in-Some.j) ≡ c.in-Some.j = search rules in
    let ei : to_z w64 (of_z w64 c.in-Some-as_integer.i) ≡ c.in-Some-as_integer.i = search rules in
    record { read = integers_read c.args.depth c.args.stack.now c.requires.fits c.args.function (to_z w64 (of_z w64 c.in-Some-as_integer.i)) (to_z w64 (of_z w64 c.in-Some.j)) (omega (arith, c.if-depth-lt2.false)) (ap Some ej ∙ c.in-Some.ensures) (ap Some ei ∙ c.in-Some-as_integer.ensures) }
