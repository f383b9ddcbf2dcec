use Rattle.std.proofs.Common.{sym, subst, ap, ◌∙◌}
use Rattle.std.specs.Prelude.{[], ◌∷◌}
use Rattle.sim_values.specs.declared.standard.Standard.TheVariants as name
use Rattle.sim_values.specs.Plain.{Text}
use Rattle.sim_values.specs.Texts.{copy}
use Rattle.sim_values.specs.Words.{text_words}
use Rattle.text_objects.specs.Making.{Makes}
use Rattle.standard_calls.specs.Performed.{parts, store_of}
use Rattle.standard_calls.proofs.Making.{copy_refused, copy_wants}
use Rattle.standard_calls.proofs.Effects.{does_copy}
use Rattle.standard_calls.proofs.whole.copy.Goals as goal

pub returns-clause-came : goal.returns-clause-came
returns-clause-came c = λ input source image sink.
    let old = c.args.texts.now in
    c.made.ensures.came name.Copy (Text c.args.text ∷ []) old c.copy-answer.new.self (copy old c.args.text) input source image sink (
      subst (λ r. Makes (copy old c.args.text) r old c.copy-answer.new.self c.copy-answer.result) c.in-Some.ensures.room.0 c.copy-answer.ensures.making,
      λ u e. copy_wants old c.args.text c.requires.text ∙ ap (λ k. text_words k) (sym c.from.ensures) ∙ sym c.words_text.ensures.words,
      λ x e. copy_refused old c.args.text x e,
    )
    (λ written. does_copy (store_of (parts old input source image sink c.args.words.now) written) c.args.text)
