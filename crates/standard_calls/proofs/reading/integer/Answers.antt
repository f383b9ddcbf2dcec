use Rattle.std.proofs.Common.{rules, ◌≡◌, ap, ◌∙◌, arith, of_z, to_z, w64}
use Rattle.std.specs.Prelude.{Some}
use Rattle.standard_calls.proofs.Readers.{integer_bad, integer_few, integer_read}
use Rattle.standard_calls.proofs.reading.integer.Goals as goal

pub returns-then-depth-lt1 : goal.returns-then-depth-lt1
returns-then-depth-lt1 c = record { read = integer_few c.args.depth c.args.stack.now c.requires.fits c.args.function c.if-depth-lt1.true }

pub returns-in-Some : goal.returns-in-Some
returns-in-Some c =
    let e : to_z w64 (of_z w64 c.in-Some.i) ≡ c.in-Some.i = search rules in
    record { read = integer_read c.args.depth c.args.stack.now c.requires.fits c.args.function (to_z w64 (of_z w64 c.in-Some.i)) (omega (arith, c.if-depth-lt1.false)) (ap Some e ∙ c.in-Some.ensures) }

pub returns-in-None : goal.returns-in-None
returns-in-None c = record { read = integer_bad c.args.depth c.args.stack.now c.requires.fits c.args.function (omega (arith, c.if-depth-lt1.false)) c.in-None.ensures }
