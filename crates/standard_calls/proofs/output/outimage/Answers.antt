use Rattle.std.proofs.Common.{◌≡◌, sym, subst}
use Rattle.std.specs.Prelude.{[]}
use Rattle.sim_values.specs.declared.standard.Standard.TheVariants as name
use Rattle.sim_values.specs.Images.{outimage}
use Rattle.basic_io.specs.Output.{output_state}
use Rattle.standard_calls.specs.Calls.{CameAs, NoValue}
use Rattle.standard_calls.specs.Performed.{parts, store_of}
use Rattle.standard_calls.proofs.Effects.{does_outimage}
use Rattle.standard_calls.proofs.Images.{images_kept}
use Rattle.standard_calls.proofs.OutputSteps.{LineBegins, carries_outimage, line_outimage, output_done, output_refused, refused_no_value}
use Rattle.standard_calls.proofs.output.outimage.Goals as goal

pub returns-in-Ok-clause-came : goal.returns-in-Ok-clause-came
returns-in-Ok-clause-came g c = λ budget words input source.
    subst (λ z. CameAs z budget name.Outimage ([]) (parts c.args.texts.now input source c.args.image.now (g.O.Sink.written c.args.out.now) words) (parts c.outimage.new.texts input source c.outimage.new.self (g.O.Sink.written c.outimage.new.out) words)) (sym c.done.ensures)
    (output_done name.Outimage ([]) budget words input source c.args.texts.now c.outimage.new.texts c.args.image.now c.outimage.new.self (g.O.Sink.written c.args.out.now) (g.O.Sink.written c.outimage.new.out) outimage carries_outimage (λ written. does_outimage (store_of (parts c.args.texts.now input source c.args.image.now (g.O.Sink.written c.args.out.now) words) written)) (λ r. r ≡ (output_state c.args.texts.now c.args.image.now)) tt c.in-Ok.ensures.outcome)

pub returns-in-Err-clause-came : goal.returns-in-Err-clause-came
returns-in-Err-clause-came g c = λ budget words input source.
    subst (λ z. CameAs z budget name.Outimage ([]) (parts c.args.texts.now input source c.args.image.now (g.O.Sink.written c.args.out.now) words) (parts c.outimage.new.texts input source c.outimage.new.self (g.O.Sink.written c.outimage.new.out) words)) (sym c.refused.ensures)
    (output_refused name.Outimage ([]) budget words input source c.args.texts.now c.outimage.new.texts c.args.image.now c.outimage.new.self (g.O.Sink.written c.args.out.now) (g.O.Sink.written c.outimage.new.out) outimage carries_outimage (λ written. does_outimage (store_of (parts c.args.texts.now input source c.args.image.now (g.O.Sink.written c.args.out.now) words) written)) (λ r. r ≡ (output_state c.args.texts.now c.args.image.now)) (λ r is. subst (λ q. LineBegins q (outimage (output_state c.args.texts.now c.args.image.now))) (sym is) (line_outimage (output_state c.args.texts.now c.args.image.now))) c.in-Err.fault c.in-Err.ensures.outcome)

pub returns-in-Ok-clause-images : goal.returns-in-Ok-clause-images
returns-in-Ok-clause-images g c = images_kept c.args.texts.now c.outimage.new.texts c.args.image.now c.outimage.new.self c.requires.image c.outimage.ensures.valid c.outimage.ensures.same c.outimage.ensures.others

pub returns-in-Err-clause-images : goal.returns-in-Err-clause-images
returns-in-Err-clause-images g c = images_kept c.args.texts.now c.outimage.new.texts c.args.image.now c.outimage.new.self c.requires.image c.outimage.ensures.valid c.outimage.ensures.same c.outimage.ensures.others

pub returns-in-Err-clause-value : goal.returns-in-Err-clause-value
returns-in-Err-clause-value g c = subst NoValue (sym c.refused.ensures) (refused_no_value c.in-Err.fault)
