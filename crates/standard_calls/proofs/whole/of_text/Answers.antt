use Rattle.std.proofs.Common.{rules, ◌≡◌, sym, subst, ap, ◌∙◌, to_z, of_z, w64}
use Rattle.std.specs.Prelude.{pos, [], ◌∷◌, Some}
use Rattle.sim_values.specs.declared.standard.Standard.TheVariants as name
use Rattle.sim_values.specs.Plain.{Integer, Text, Truth}
use Rattle.sim_values.specs.Texts.{getint, is_constant, lowcase, main_text, strip, upcase}
use Rattle.sim_code.specs.Machine.{plain}
use Rattle.standard_calls.specs.Calls.{CameAs, text_name}
use Rattle.standard_calls.specs.Performed.{parts, store_of}
use Rattle.standard_calls.proofs.Effects.{does_upcase, does_lowcase, does_textconstant, does_textstart, does_textmain, does_textstrip, does_textgetint}
use Rattle.standard_calls.proofs.whole.of_text.Goals as goal

pub returns-in-Upcase-clause-came : goal.returns-in-Upcase-clause-came
returns-in-Upcase-clause-came c = λ input source image sink.
    subst (λ f. CameAs c.changed.result c.args.budget (text_name f) (Text c.args.text ∷ []) (parts c.args.texts.now input source image sink c.args.words.now) (parts c.upcase.new.self input source image sink c.args.words.now)) (sym c.in-Upcase.is)
    (c.changed.ensures.came c.args.budget name.Upcase (Text c.args.text ∷ []) (parts c.args.texts.now input source image sink c.args.words.now) c.upcase.new.self c.args.text (upcase c.args.texts.now c.args.text) c.upcase.ensures.step (λ written. does_upcase (store_of (parts c.args.texts.now input source image sink c.args.words.now) written) c.args.text))

pub returns-in-Lowcase-clause-came : goal.returns-in-Lowcase-clause-came
returns-in-Lowcase-clause-came c = λ input source image sink.
    subst (λ f. CameAs c.changed-in-Lowcase.result c.args.budget (text_name f) (Text c.args.text ∷ []) (parts c.args.texts.now input source image sink c.args.words.now) (parts c.lowcase.new.self input source image sink c.args.words.now)) (sym c.in-Lowcase.is)
    (c.changed-in-Lowcase.ensures.came c.args.budget name.Lowcase (Text c.args.text ∷ []) (parts c.args.texts.now input source image sink c.args.words.now) c.lowcase.new.self c.args.text (lowcase c.args.texts.now c.args.text) c.lowcase.ensures.step (λ written. does_lowcase (store_of (parts c.args.texts.now input source image sink c.args.words.now) written) c.args.text))

pub returns-in-Constant-clause-came : goal.returns-in-Constant-clause-came
returns-in-Constant-clause-came c = λ input source image sink.
    subst (λ f. CameAs c.given.result c.args.budget (text_name f) (Text c.args.text ∷ []) (parts c.args.texts.now input source image sink c.args.words.now) (parts c.args.texts.now input source image sink c.args.words.now)) (sym c.in-Constant.is)
    (c.given.ensures.came c.args.budget name.TextConstant (Text c.args.text ∷ []) (parts c.args.texts.now input source image sink c.args.words.now) (Truth (is_constant c.args.texts.now c.args.text)) (ap plain c.truth.ensures.value ∙ ap (λ z. Some (Truth z)) (c.is_constant.ensures.constant)) (λ written. does_textconstant (store_of (parts c.args.texts.now input source image sink c.args.words.now) written) c.args.text))

pub returns-in-Start-clause-came : goal.returns-in-Start-clause-came
returns-in-Start-clause-came c = λ input source image sink.
    subst (λ f. CameAs c.given-in-Start.result c.args.budget (text_name f) (Text c.args.text ∷ []) (parts c.args.texts.now input source image sink c.args.words.now) (parts c.args.texts.now input source image sink c.args.words.now)) (sym c.in-Start.is)
    (c.given-in-Start.ensures.came c.args.budget name.TextStart (Text c.args.text ∷ []) (parts c.args.texts.now input source image sink c.args.words.now) (Integer (pos c.args.text.start)) (ap plain c.integer.ensures.value ∙ ap (λ z. Some (Integer z)) ((let whole : to_z w64 (of_z w64 c.start.result) ≡ c.start.result = search rules in whole) ∙ c.start.ensures.start)) (λ written. does_textstart (store_of (parts c.args.texts.now input source image sink c.args.words.now) written) c.args.text))

pub returns-in-Main-clause-came : goal.returns-in-Main-clause-came
returns-in-Main-clause-came c = λ input source image sink.
    subst (λ f. CameAs c.given-in-Main.result c.args.budget (text_name f) (Text c.args.text ∷ []) (parts c.args.texts.now input source image sink c.args.words.now) (parts c.args.texts.now input source image sink c.args.words.now)) (sym c.in-Main.is)
    (c.given-in-Main.ensures.came c.args.budget name.TextMain (Text c.args.text ∷ []) (parts c.args.texts.now input source image sink c.args.words.now) (Text (main_text c.args.texts.now c.args.text)) (ap plain c.text.ensures.value ∙ ap (λ z. Some (Text z)) (c.main.ensures.whole)) (λ written. does_textmain (store_of (parts c.args.texts.now input source image sink c.args.words.now) written) c.args.text))

pub returns-in-Strip-clause-came : goal.returns-in-Strip-clause-came
returns-in-Strip-clause-came c = λ input source image sink.
    subst (λ f. CameAs c.given-in-Strip.result c.args.budget (text_name f) (Text c.args.text ∷ []) (parts c.args.texts.now input source image sink c.args.words.now) (parts c.args.texts.now input source image sink c.args.words.now)) (sym c.in-Strip.is)
    (c.given-in-Strip.ensures.came c.args.budget name.TextStrip (Text c.args.text ∷ []) (parts c.args.texts.now input source image sink c.args.words.now) (Text (strip c.args.texts.now c.args.text)) (ap plain c.text-in-Strip.ensures.value ∙ ap (λ z. Some (Text z)) (c.strip.ensures.stripped)) (λ written. does_textstrip (store_of (parts c.args.texts.now input source image sink c.args.words.now) written) c.args.text))

pub returns-in-Getint-clause-came : goal.returns-in-Getint-clause-came
returns-in-Getint-clause-came c = λ input source image sink.
    subst (λ f. CameAs c.moved_integer.result c.args.budget (text_name f) (Text c.args.text ∷ []) (parts c.args.texts.now input source image sink c.args.words.now) (parts c.args.texts.now input source image sink c.args.words.now)) (sym c.in-Getint.is)
    (c.moved_integer.ensures.came c.args.budget name.TextGetint (Text c.args.text ∷ []) (parts c.args.texts.now input source image sink c.args.words.now) c.args.texts.now (getint c.args.texts.now c.args.text) c.getint-answer.ensures.step (λ written. does_textgetint (store_of (parts c.args.texts.now input source image sink c.args.words.now) written) c.args.text))
