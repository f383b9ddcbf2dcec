use Rattle.std.proofs.Common.{rules, ◌≡◌, sym, subst, ◌∙◌, to_z, of_z, w64}
use Rattle.std.specs.Prelude.{[], ◌∷◌}
use Rattle.sim_values.specs.declared.standard.Standard.TheVariants as name
use Rattle.sim_values.specs.Plain.{Integer}
use Rattle.sim_values.specs.Texts.{blanks}
use Rattle.text_objects.specs.Making.{Makes}
use Rattle.standard_calls.specs.Calls.{CameAs}
use Rattle.standard_calls.specs.Performed.{parts, store_of}
use Rattle.standard_calls.proofs.Making.{blanks_refused, blanks_wants}
use Rattle.standard_calls.proofs.Effects.{does_blanks}
use Rattle.standard_calls.proofs.whole.blanks.Goals as goal

pub returns-clause-came : goal.returns-clause-came
returns-clause-came c =
    let e : to_z w64 (of_z w64 c.args.n) ≡ c.args.n = search rules in
    let n2 = to_z w64 (of_z w64 c.args.n) in
    let old = c.args.texts.now in
    λ input source image sink.
    subst (λ n. CameAs c.made.result c.args.budget name.Blanks (Integer n ∷ []) (parts old input source image sink c.args.words.now) (parts c.blanks-answer.new.self input source image sink c.made.new.words)) e
    (c.made.ensures.came name.Blanks (Integer n2 ∷ []) old c.blanks-answer.new.self (blanks old n2) input source image sink (
      subst (λ r. Makes (blanks old n2) r old c.blanks-answer.new.self c.blanks-answer.result) c.in-Some.ensures.room.0 c.blanks-answer.ensures.making,
      λ u e. blanks_wants old n2 u e ∙ sym c.words_for.ensures.words,
      λ x e. blanks_refused old n2 x e,
    )
    (λ written. does_blanks (store_of (parts old input source image sink c.args.words.now) written) n2))
