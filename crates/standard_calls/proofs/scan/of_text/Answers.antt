use Rattle.std.proofs.Common.{rules, ◌≡◌, sym, subst, refl, ap, ◌∙◌, to_z, of_z, w64}
use Rattle.std.specs.Prelude.{pos, nat_le, [], ◌∷◌, Some}
use Rattle.sim_values.specs.declared.standard.Standard.TheVariants as name
use Rattle.sim_values.specs.Plain.{Integer, Text, Truth}
use Rattle.sim_code.specs.Machine.{plain}
use Rattle.standard_calls.specs.Calls.{CameAs, text_name}
use Rattle.standard_calls.specs.Performed.{Parts, parts, store_of}
use Rattle.standard_calls.proofs.Making.{more_is}
use Rattle.standard_calls.proofs.Effects.{does_textlength, does_textpos, does_textmore}
use Rattle.standard_calls.proofs.scan.of_text.Goals as goal

pub returns-in-Length-clause-came : goal.returns-in-Length-clause-came
returns-in-Length-clause-came c = λ budget words input source image sink.
    subst (λ f. CameAs c.given.result budget (text_name f) (Text c.args.text ∷ []) (parts c.args.texts.now input source image sink words) (parts c.args.texts.now input source image sink words)) (sym c.in-Length.is)
    (c.given.ensures.came budget name.TextLength (Text c.args.text ∷ []) (parts c.args.texts.now input source image sink words) (Integer (pos c.args.text.length)) (ap plain c.integer.ensures.value ∙ ap (λ z. Some (Integer z)) ((let whole : to_z w64 (of_z w64 c.length.result) ≡ c.length.result = search rules in whole) ∙ c.length.ensures.length)) (λ written. does_textlength (store_of (parts c.args.texts.now input source image sink words) written) c.args.text))

pub returns-in-Pos-clause-came : goal.returns-in-Pos-clause-came
returns-in-Pos-clause-came c = λ budget words input source image sink.
    subst (λ f. CameAs c.given-in-Pos.result budget (text_name f) (Text c.args.text ∷ []) (parts c.args.texts.now input source image sink words) (parts c.args.texts.now input source image sink words)) (sym c.in-Pos.is)
    (c.given-in-Pos.ensures.came budget name.TextPos (Text c.args.text ∷ []) (parts c.args.texts.now input source image sink words) (Integer (pos c.args.text.pos)) (ap plain c.integer-in-Pos.ensures.value ∙ ap (λ z. Some (Integer z)) ((let whole : to_z w64 (of_z w64 c.pos.result) ≡ c.pos.result = search rules in whole) ∙ c.pos.ensures.position)) (λ written. does_textpos (store_of (parts c.args.texts.now input source image sink words) written) c.args.text))

pub returns-in-More-clause-came : goal.returns-in-More-clause-came
returns-in-More-clause-came c = λ budget words input source image sink.
    subst (λ f. CameAs c.given-in-More.result budget (text_name f) (Text c.args.text ∷ []) (parts c.args.texts.now input source image sink words) (parts c.args.texts.now input source image sink words)) (sym c.in-More.is)
    (c.given-in-More.ensures.came budget name.TextMore (Text c.args.text ∷ []) (parts c.args.texts.now input source image sink words) (Truth (nat_le c.args.text.pos c.args.text.length)) (ap plain c.truth.ensures.value ∙ ap (λ z. Some (Truth z)) (more_is c.more.result c.args.text.pos c.args.text.length c.more.ensures.more)) (λ written. does_textmore (store_of (parts c.args.texts.now input source image sink words) written) c.args.text))

pub returns-in-Getchar-clause-came : goal.returns-in-Getchar-clause-came
returns-in-Getchar-clause-came c = λ budget words input source image sink.
    let p : Parts = parts c.args.texts.now input source image sink words in
    subst (λ f. CameAs c.getchar.result budget (text_name f) (Text c.args.text ∷ []) p p) (sym c.in-Getchar.is) (c.getchar.ensures.came budget p refl)
