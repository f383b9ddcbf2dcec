use Rattle.std.proofs.Common.{rules, ◌≡◌, sym, subst, ap, ◌∙◌, to_z, of_z, w64}
use Rattle.standard_calls.specs.declared.calls.Call.TheVariants as call
use Rattle.standard_calls.specs.declared.calls.OfInteger.TheVariants as integer
use Rattle.standard_calls.specs.declared.calls.OfIntegers.TheVariants as integers
use Rattle.standard_calls.specs.Calls.{CameAs, name_of, operands}
use Rattle.standard_calls.specs.declared.manner.Manner.TheVariants as manner
use Rattle.standard_calls.specs.Quiet.{manner_of}
use Rattle.standard_calls.proofs.Manners.{loud_integer, loud_integers}
use Rattle.standard_calls.specs.Performed.{Parts, parts}
use Rattle.standard_calls.proofs.performing.come.Goals as goal

pub returns-in-Nothing-clause-came : goal.returns-in-Nothing-clause-came
returns-in-Nothing-clause-came g c s e =
    let old : Parts = parts c.args.texts.now c.args.sysin.now s c.args.image.now (g.O.Sink.written c.args.out.now) c.args.words.now in
    let r = c.of_nothing.ensures.came c.args.budget c.args.words.now s e in (
      r.0,
      r.1,
      subst (λ k. CameAs c.of_nothing.result c.args.budget (name_of k) (operands k) old (parts c.of_nothing.new.texts c.of_nothing.new.sysin r.0 c.of_nothing.new.image (g.O.Sink.written c.of_nothing.new.out) c.args.words.now)) (sym c.in-Nothing.is) r.2,
    )

pub returns-in-Integer-clause-came : goal.returns-in-Integer-clause-came
returns-in-Integer-clause-came g c s e =
    let old : Parts = parts c.args.texts.now c.args.sysin.now s c.args.image.now (g.O.Sink.written c.args.out.now) c.args.words.now in
    let ei : to_z w64 (of_z w64 c.in-Integer.i) ≡ c.in-Integer.i = search rules in
    let function : c.in-Integer._function ≡ integer.Intext = loud_integer c.in-Integer._function (subst (λ k. manner_of (name_of k) ≡ manner.Ports) c.in-Integer.is c.requires.loud) in
    let is : c.args.call ≡ call.Integer integer.Intext (to_z w64 (of_z w64 c.in-Integer.i)) = c.in-Integer.is ∙ ap (λ f. call.Integer f c.in-Integer.i) function ∙ ap (λ z. call.Integer integer.Intext z) (sym ei) in
    let r = c.intext.ensures.came c.args.image.now (g.O.Sink.written c.args.out.now) s e in (
      r.0,
      r.1,
      subst (λ k. CameAs c.intext.result c.args.budget (name_of k) (operands k) old (parts c.intext.new.texts c.intext.new.sysin r.0 c.args.image.now (g.O.Sink.written c.args.out.now) c.intext.new.words)) (sym is) r.2,
    )

pub returns-in-Integers-clause-came : goal.returns-in-Integers-clause-came
returns-in-Integers-clause-came g c s e =
    let old : Parts = parts c.args.texts.now c.args.sysin.now s c.args.image.now (g.O.Sink.written c.args.out.now) c.args.words.now in
    let ei : to_z w64 (of_z w64 c.in-Integers.i) ≡ c.in-Integers.i = search rules in
    let ej : to_z w64 (of_z w64 c.in-Integers.j) ≡ c.in-Integers.j = search rules in
    let function : c.in-Integers._function ≡ integers.Outint = loud_integers c.in-Integers._function (subst (λ k. manner_of (name_of k) ≡ manner.Ports) c.in-Integers.is c.requires.loud) in
    let is : c.args.call ≡ call.Integers integers.Outint (to_z w64 (of_z w64 c.in-Integers.i)) (to_z w64 (of_z w64 c.in-Integers.j)) =
    c.in-Integers.is ∙ ap (λ f. call.Integers f c.in-Integers.i c.in-Integers.j) function ∙ ap (λ z. call.Integers integers.Outint z c.in-Integers.j) (sym ei) ∙ ap (λ z. call.Integers integers.Outint (to_z w64 (of_z w64 c.in-Integers.i)) z) (sym ej) in (
      s,
      e,
      subst (λ k. CameAs c.outint.result c.args.budget (name_of k) (operands k) old (parts c.outint.new.texts c.args.sysin.now s c.outint.new.image (g.O.Sink.written c.outint.new.out) c.args.words.now)) (sym is)
          (c.outint.ensures.came c.args.budget c.args.words.now c.args.sysin.now s),
    )
