use Rattle.std.proofs.Common.{rules, of_z, to_z, w64, ◌≡◌, sym, subst}
use Rattle.std.specs.Prelude.{[], ◌∷◌}
use Rattle.sim_values.specs.declared.standard.Standard.TheVariants as name
use Rattle.sim_values.specs.Plain.{Integer}
use Rattle.standard_calls.specs.Calls.{CameAs}
use Rattle.standard_calls.specs.Performed.{parts, store_of}
use Rattle.standard_calls.proofs.Effects.{does_outint}
use Rattle.standard_calls.proofs.Images.{images_kept}
use Rattle.standard_calls.proofs.OutputSteps.{outint_done, outint_refused}
use Rattle.standard_calls.proofs.output.outint.Goals as goal

pub returns-in-Ok-clause-came : goal.returns-in-Ok-clause-came
returns-in-Ok-clause-came g c =
    let ei : to_z w64 (of_z w64 c.args.i) ≡ c.args.i = search rules in
    let ew : to_z w64 (of_z w64 c.args.width) ≡ c.args.width = search rules in
    let i2 = to_z w64 (of_z w64 c.args.i) in
    let w2 = to_z w64 (of_z w64 c.args.width) in
    λ budget words input source.
    subst (λ i. CameAs c.done.result budget name.Outint (Integer c.args.width ∷ Integer i ∷ []) (parts c.args.texts.now input source c.args.image.now (g.O.Sink.written c.args.out.now) words) (parts c.outint.new.texts input source c.outint.new.self (g.O.Sink.written c.outint.new.out) words)) ei
    (subst (λ w. CameAs c.done.result budget name.Outint (Integer w ∷ Integer i2 ∷ []) (parts c.args.texts.now input source c.args.image.now (g.O.Sink.written c.args.out.now) words) (parts c.outint.new.texts input source c.outint.new.self (g.O.Sink.written c.outint.new.out) words)) ew
    (subst (λ z. CameAs z budget name.Outint (Integer w2 ∷ Integer i2 ∷ []) (parts c.args.texts.now input source c.args.image.now (g.O.Sink.written c.args.out.now) words) (parts c.outint.new.texts input source c.outint.new.self (g.O.Sink.written c.outint.new.out) words)) (sym c.done.ensures)
    (outint_done name.Outint (Integer w2 ∷ Integer i2 ∷ []) budget words input source c.args.texts.now c.outint.new.texts c.args.image.now c.outint.new.self (g.O.Sink.written c.args.out.now) (g.O.Sink.written c.outint.new.out) i2 w2
    (λ written. does_outint (store_of (parts c.args.texts.now input source c.args.image.now (g.O.Sink.written c.args.out.now) words) written) i2 w2) tt c.in-Ok.ensures.outcome)))

pub returns-in-Err-clause-came : goal.returns-in-Err-clause-came
returns-in-Err-clause-came g c =
    let ei : to_z w64 (of_z w64 c.args.i) ≡ c.args.i = search rules in
    let ew : to_z w64 (of_z w64 c.args.width) ≡ c.args.width = search rules in
    let i2 = to_z w64 (of_z w64 c.args.i) in
    let w2 = to_z w64 (of_z w64 c.args.width) in
    λ budget words input source.
    subst (λ i. CameAs c.refused.result budget name.Outint (Integer c.args.width ∷ Integer i ∷ []) (parts c.args.texts.now input source c.args.image.now (g.O.Sink.written c.args.out.now) words) (parts c.outint.new.texts input source c.outint.new.self (g.O.Sink.written c.outint.new.out) words)) ei
    (subst (λ w. CameAs c.refused.result budget name.Outint (Integer w ∷ Integer i2 ∷ []) (parts c.args.texts.now input source c.args.image.now (g.O.Sink.written c.args.out.now) words) (parts c.outint.new.texts input source c.outint.new.self (g.O.Sink.written c.outint.new.out) words)) ew
    (subst (λ z. CameAs z budget name.Outint (Integer w2 ∷ Integer i2 ∷ []) (parts c.args.texts.now input source c.args.image.now (g.O.Sink.written c.args.out.now) words) (parts c.outint.new.texts input source c.outint.new.self (g.O.Sink.written c.outint.new.out) words)) (sym c.refused.ensures)
    (outint_refused name.Outint (Integer w2 ∷ Integer i2 ∷ []) budget words input source c.args.texts.now c.outint.new.texts c.args.image.now c.outint.new.self (g.O.Sink.written c.args.out.now) (g.O.Sink.written c.outint.new.out) i2 w2
    (λ written. does_outint (store_of (parts c.args.texts.now input source c.args.image.now (g.O.Sink.written c.args.out.now) words) written) i2 w2) c.in-Err.fault c.in-Err.ensures.outcome)))

pub returns-in-Ok-clause-images : goal.returns-in-Ok-clause-images
returns-in-Ok-clause-images g c = images_kept c.args.texts.now c.outint.new.texts c.args.image.now c.outint.new.self c.requires.image c.outint.ensures.valid c.outint.ensures.same c.outint.ensures.others

pub returns-in-Err-clause-images : goal.returns-in-Err-clause-images
returns-in-Err-clause-images g c = images_kept c.args.texts.now c.outint.new.texts c.args.image.now c.outint.new.self c.requires.image c.outint.ensures.valid c.outint.ensures.same c.outint.ensures.others
