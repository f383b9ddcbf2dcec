use Rattle.std.proofs.Common.{sym, subst, refl, ap, ◌∙◌}
use Rattle.std.specs.Prelude.{[], Some}
use Rattle.sim_values.specs.declared.standard.Standard.TheVariants as name
use Rattle.sim_values.specs.Plain.{Integer, Truth}
use Rattle.sim_code.specs.Machine.{plain}
use Rattle.standard_calls.specs.Calls.{CameAs, nothing_name}
use Rattle.standard_calls.specs.Performed.{parts, store_of}
use Rattle.standard_calls.proofs.OutputSteps.{gives_none}
use Rattle.standard_calls.proofs.Effects.{does_maxint, does_minint, does_endfile}
use Rattle.sim_values.specs.Arithmetic.{greatest, least}
use Rattle.standard_calls.proofs.performing.of_nothing.Goals as goal

pub returns-in-Maxint-clause-came : goal.returns-in-Maxint-clause-came
returns-in-Maxint-clause-came g c = λ budget words s told. (
  s,
  told,
  subst (λ f. CameAs c.given.result budget (nothing_name f) [] (parts c.args.texts.now c.args.sysin.now s c.args.image.now (g.O.Sink.written c.args.out.now) words) (parts c.args.texts.now c.args.sysin.now s c.args.image.now (g.O.Sink.written c.args.out.now) words)) (sym c.in-Maxint.is)
      (c.given.ensures.came budget name.Maxint [] (parts c.args.texts.now c.args.sysin.now s c.args.image.now (g.O.Sink.written c.args.out.now) words) (Integer greatest) (ap plain c.integer.ensures.value) (λ written. does_maxint (store_of (parts c.args.texts.now c.args.sysin.now s c.args.image.now (g.O.Sink.written c.args.out.now) words) written))),
)

pub returns-in-Minint-clause-came : goal.returns-in-Minint-clause-came
returns-in-Minint-clause-came g c = λ budget words s told. (
  s,
  told,
  subst (λ f. CameAs c.given-in-Minint.result budget (nothing_name f) [] (parts c.args.texts.now c.args.sysin.now s c.args.image.now (g.O.Sink.written c.args.out.now) words) (parts c.args.texts.now c.args.sysin.now s c.args.image.now (g.O.Sink.written c.args.out.now) words)) (sym c.in-Minint.is)
      (c.given-in-Minint.ensures.came budget name.Minint [] (parts c.args.texts.now c.args.sysin.now s c.args.image.now (g.O.Sink.written c.args.out.now) words) (Integer least) (ap plain c.integer-in-Minint.ensures.value) (λ written. does_minint (store_of (parts c.args.texts.now c.args.sysin.now s c.args.image.now (g.O.Sink.written c.args.out.now) words) written))),
)

pub returns-in-Endfile-clause-came : goal.returns-in-Endfile-clause-came
returns-in-Endfile-clause-came g c = λ budget words s told. (
  s,
  told,
  subst (λ f. CameAs c.given-in-Endfile.result budget (nothing_name f) [] (parts c.args.texts.now c.args.sysin.now s c.args.image.now (g.O.Sink.written c.args.out.now) words) (parts c.args.texts.now c.args.sysin.now s c.args.image.now (g.O.Sink.written c.args.out.now) words)) (sym c.in-Endfile.is)
      (c.given-in-Endfile.ensures.came budget name.Endfile [] (parts c.args.texts.now c.args.sysin.now s c.args.image.now (g.O.Sink.written c.args.out.now) words) (Truth c.args.sysin.now.endfile) (ap plain c.truth.ensures.value ∙ ap (λ z. Some (Truth z)) c.endfile.ensures) (λ written. does_endfile (store_of (parts c.args.texts.now c.args.sysin.now s c.args.image.now (g.O.Sink.written c.args.out.now) words) written))),
)

pub returns-in-Inimage-clause-came : goal.returns-in-Inimage-clause-came
returns-in-Inimage-clause-came g c = λ budget words s told.
    let t = c.of_input.ensures.came budget words c.args.image.now (g.O.Sink.written c.args.out.now) s told in
    (t.0, t.1, subst (λ f. CameAs c.of_input.result budget (nothing_name f) [] (parts c.args.texts.now c.args.sysin.now s c.args.image.now (g.O.Sink.written c.args.out.now) words) (parts c.of_input.new.texts c.of_input.new.sysin t.0 c.args.image.now (g.O.Sink.written c.args.out.now) words)) (sym c.in-Inimage.is) t.2)

pub returns-in-Inchar-clause-came : goal.returns-in-Inchar-clause-came
returns-in-Inchar-clause-came g c = λ budget words s told.
    let t = c.of_input-in-Inchar.ensures.came budget words c.args.image.now (g.O.Sink.written c.args.out.now) s told in
    (t.0, t.1, subst (λ f. CameAs c.of_input-in-Inchar.result budget (nothing_name f) [] (parts c.args.texts.now c.args.sysin.now s c.args.image.now (g.O.Sink.written c.args.out.now) words) (parts c.of_input-in-Inchar.new.texts c.of_input-in-Inchar.new.sysin t.0 c.args.image.now (g.O.Sink.written c.args.out.now) words)) (sym c.in-Inchar.is) t.2)

pub returns-in-Inint-clause-came : goal.returns-in-Inint-clause-came
returns-in-Inint-clause-came g c = λ budget words s told.
    let t = c.of_input-in-Inint.ensures.came budget words c.args.image.now (g.O.Sink.written c.args.out.now) s told in
    (t.0, t.1, subst (λ f. CameAs c.of_input-in-Inint.result budget (nothing_name f) [] (parts c.args.texts.now c.args.sysin.now s c.args.image.now (g.O.Sink.written c.args.out.now) words) (parts c.of_input-in-Inint.new.texts c.of_input-in-Inint.new.sysin t.0 c.args.image.now (g.O.Sink.written c.args.out.now) words)) (sym c.in-Inint.is) t.2)

pub returns-in-Lastitem-clause-came : goal.returns-in-Lastitem-clause-came
returns-in-Lastitem-clause-came g c = λ budget words s told.
    let t = c.of_input-in-Lastitem.ensures.came budget words c.args.image.now (g.O.Sink.written c.args.out.now) s told in
    (t.0, t.1, subst (λ f. CameAs c.of_input-in-Lastitem.result budget (nothing_name f) [] (parts c.args.texts.now c.args.sysin.now s c.args.image.now (g.O.Sink.written c.args.out.now) words) (parts c.of_input-in-Lastitem.new.texts c.of_input-in-Lastitem.new.sysin t.0 c.args.image.now (g.O.Sink.written c.args.out.now) words)) (sym c.in-Lastitem.is) t.2)

pub returns-in-Inimage-clause-value : goal.returns-in-Inimage-clause-value
returns-in-Inimage-clause-value g c = gives_none c.args.function c.of_input.result (c.of_input.ensures.value refl)

pub returns-in-Outimage-clause-value : goal.returns-in-Outimage-clause-value
returns-in-Outimage-clause-value g c = gives_none c.args.function c.outimage.result c.outimage.ensures.value
