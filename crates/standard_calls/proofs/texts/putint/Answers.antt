use Rattle.std.proofs.Common.{rules, of_z, to_z, w64, ◌≡◌, subst, ap, ◌∙◌, ◌∷◌, []}
use Rattle.std.specs.Prelude.{Some}
use Rattle.sim_values.specs.declared.standard.Standard.TheVariants as name
use Rattle.standard_calls.specs.Calls.{CameAs}
use Rattle.standard_calls.specs.Performed.{store_of}
use Rattle.sim_values.specs.Plain.{Integer, Text}
use Rattle.sim_values.specs.Store.{moves, unvalued}
use Rattle.sim_values.specs.Texts.{putint}
use Rattle.standard_calls.proofs.Effects.{does_textputint}
use Rattle.standard_calls.proofs.texts.putint.Goals as goal

pub returns-clause-came : goal.returns-clause-came
returns-clause-came c =
    let e : to_z w64 (of_z w64 c.args.i) ≡ c.args.i = search rules in
    let i2 = to_z w64 (of_z w64 c.args.i) in
    let t = c.args.text in
    λ budget p is.
    subst (λ i. CameAs c.moved.result budget name.TextPutint (Integer i ∷ Text t ∷ []) p (record p { frames = c.putint-answer.new.self })) e
    (c.moved.ensures.came budget name.TextPutint (Integer i2 ∷ Text t ∷ []) p c.putint-answer.new.self (putint c.args.texts.now t i2) c.putint-answer.ensures.step
    (λ written. does_textputint (store_of p written) t i2 ∙ ap (λ f. Some (moves unvalued (putint f t i2) (store_of p written))) is))
