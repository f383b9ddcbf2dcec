use Rattle.std.proofs.Common.{◌≡◌, sym, subst}
use Rattle.std.specs.Prelude.{[], ◌∷◌, true}
use Rattle.sim_values.specs.declared.standard.Standard.TheVariants as name
use Rattle.sim_values.specs.Images.{is_used_up, outchar}
use Rattle.sim_values.specs.Plain.{Character}
use Rattle.basic_io.specs.Output.{output_state}
use Rattle.standard_calls.specs.Calls.{CameAs}
use Rattle.standard_calls.specs.Performed.{parts, store_of}
use Rattle.standard_calls.proofs.Effects.{does_outchar}
use Rattle.standard_calls.proofs.Images.{images_kept}
use Rattle.standard_calls.proofs.OutputSteps.{LineBegins, carries_outchar, line_outchar, output_done, output_refused}
use Rattle.standard_calls.proofs.output.outchar.Goals as goal

pub returns-in-Ok-clause-came : goal.returns-in-Ok-clause-came
returns-in-Ok-clause-came g c = λ budget words input source.
    subst (λ z. CameAs z budget name.Outchar (Character c.args.c ∷ []) (parts c.args.texts.now input source c.args.image.now (g.O.Sink.written c.args.out.now) words) (parts c.outchar.new.texts input source c.outchar.new.self (g.O.Sink.written c.outchar.new.out) words)) (sym c.done.ensures)
    (output_done name.Outchar (Character c.args.c ∷ []) budget words input source c.args.texts.now c.outchar.new.texts c.args.image.now c.outchar.new.self (g.O.Sink.written c.args.out.now) (g.O.Sink.written c.outchar.new.out) (λ s. outchar s c.args.c) (carries_outchar c.args.c) (λ written. does_outchar (store_of (parts c.args.texts.now input source c.args.image.now (g.O.Sink.written c.args.out.now) words) written) c.args.c) (λ r. (is_used_up c.args.image.now ≡ true) × (r ≡ (output_state c.args.texts.now c.args.image.now))) tt c.in-Ok.ensures.outcome)

pub returns-in-Err-clause-came : goal.returns-in-Err-clause-came
returns-in-Err-clause-came g c = λ budget words input source.
    subst (λ z. CameAs z budget name.Outchar (Character c.args.c ∷ []) (parts c.args.texts.now input source c.args.image.now (g.O.Sink.written c.args.out.now) words) (parts c.outchar.new.texts input source c.outchar.new.self (g.O.Sink.written c.outchar.new.out) words)) (sym c.refused.ensures)
    (output_refused name.Outchar (Character c.args.c ∷ []) budget words input source c.args.texts.now c.outchar.new.texts c.args.image.now c.outchar.new.self (g.O.Sink.written c.args.out.now) (g.O.Sink.written c.outchar.new.out) (λ s. outchar s c.args.c) (carries_outchar c.args.c) (λ written. does_outchar (store_of (parts c.args.texts.now input source c.args.image.now (g.O.Sink.written c.args.out.now) words) written) c.args.c) (λ r. (is_used_up c.args.image.now ≡ true) × (r ≡ (output_state c.args.texts.now c.args.image.now))) (λ r is. subst (λ q. LineBegins q (outchar (output_state c.args.texts.now c.args.image.now) c.args.c)) (sym is.1) (line_outchar (output_state c.args.texts.now c.args.image.now) c.args.c is.0)) c.in-Err.fault c.in-Err.ensures.outcome)

pub returns-in-Ok-clause-images : goal.returns-in-Ok-clause-images
returns-in-Ok-clause-images g c = images_kept c.args.texts.now c.outchar.new.texts c.args.image.now c.outchar.new.self c.requires.image c.outchar.ensures.valid c.outchar.ensures.same c.outchar.ensures.others

pub returns-in-Err-clause-images : goal.returns-in-Err-clause-images
returns-in-Err-clause-images g c = images_kept c.args.texts.now c.outchar.new.texts c.args.image.now c.outchar.new.self c.requires.image c.outchar.ensures.valid c.outchar.ensures.same c.outchar.ensures.others
