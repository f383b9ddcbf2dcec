use Rattle.std.proofs.Common.{sym, subst}
use Rattle.std.specs.Prelude.{[], ◌∷◌}
use Rattle.sim_values.specs.declared.standard.Standard.TheVariants as name
use Rattle.sim_values.specs.Images.{outtext}
use Rattle.sim_values.specs.Plain.{Text}
use Rattle.basic_io.specs.Output.{WritesInText, output_state}
use Rattle.standard_calls.specs.Calls.{CameAs}
use Rattle.standard_calls.specs.Performed.{parts, store_of}
use Rattle.standard_calls.proofs.Effects.{does_outtext}
use Rattle.standard_calls.proofs.Images.{images_kept}
use Rattle.standard_calls.proofs.OutputSteps.{carries_outtext, line_text, output_done, output_refused}
use Rattle.standard_calls.proofs.output.outtext.Goals as goal

pub returns-in-Ok-clause-came : goal.returns-in-Ok-clause-came
returns-in-Ok-clause-came g c = λ budget words input source.
    subst (λ z. CameAs z budget name.Outtext (Text c.args.text ∷ []) (parts c.args.texts.now input source c.args.image.now (g.O.Sink.written c.args.out.now) words) (parts c.outtext.new.texts input source c.outtext.new.self (g.O.Sink.written c.outtext.new.out) words)) (sym c.done.ensures)
    (output_done name.Outtext (Text c.args.text ∷ []) budget words input source c.args.texts.now c.outtext.new.texts c.args.image.now c.outtext.new.self (g.O.Sink.written c.args.out.now) (g.O.Sink.written c.outtext.new.out) (λ s. outtext s c.args.text) (carries_outtext c.args.text) (λ written. does_outtext (store_of (parts c.args.texts.now input source c.args.image.now (g.O.Sink.written c.args.out.now) words) written) c.args.text) (WritesInText (output_state c.args.texts.now c.args.image.now) c.args.text) tt c.in-Ok.ensures.outcome)

pub returns-in-Err-clause-came : goal.returns-in-Err-clause-came
returns-in-Err-clause-came g c = λ budget words input source.
    subst (λ z. CameAs z budget name.Outtext (Text c.args.text ∷ []) (parts c.args.texts.now input source c.args.image.now (g.O.Sink.written c.args.out.now) words) (parts c.outtext.new.texts input source c.outtext.new.self (g.O.Sink.written c.outtext.new.out) words)) (sym c.refused.ensures)
    (output_refused name.Outtext (Text c.args.text ∷ []) budget words input source c.args.texts.now c.outtext.new.texts c.args.image.now c.outtext.new.self (g.O.Sink.written c.args.out.now) (g.O.Sink.written c.outtext.new.out) (λ s. outtext s c.args.text) (carries_outtext c.args.text) (λ written. does_outtext (store_of (parts c.args.texts.now input source c.args.image.now (g.O.Sink.written c.args.out.now) words) written) c.args.text) (WritesInText (output_state c.args.texts.now c.args.image.now) c.args.text) (line_text (output_state c.args.texts.now c.args.image.now) c.args.text) c.in-Err.fault c.in-Err.ensures.outcome)

pub returns-in-Ok-clause-images : goal.returns-in-Ok-clause-images
returns-in-Ok-clause-images g c = images_kept c.args.texts.now c.outtext.new.texts c.args.image.now c.outtext.new.self c.requires.image c.outtext.ensures.valid c.outtext.ensures.same c.outtext.ensures.others

pub returns-in-Err-clause-images : goal.returns-in-Err-clause-images
returns-in-Err-clause-images g c = images_kept c.args.texts.now c.outtext.new.texts c.args.image.now c.outtext.new.self c.requires.image c.outtext.ensures.valid c.outtext.ensures.same c.outtext.ensures.others
