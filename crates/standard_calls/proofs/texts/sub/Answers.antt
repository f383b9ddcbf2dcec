use Rattle.std.proofs.Common.{rules, of_z, to_z, w64, ◌≡◌, sym, subst, ap, ◌∙◌, ◌∷◌, []}
use Rattle.std.specs.Prelude.{Some}
use Rattle.sim_values.specs.declared.standard.Standard.TheVariants as name
use Rattle.standard_calls.specs.Calls.{CameAs}
use Rattle.standard_calls.specs.Performed.{store_of}
use Rattle.sim_values.specs.Plain.{Integer, Text}
use Rattle.sim_values.specs.Store.{computes}
use Rattle.standard_calls.proofs.Effects.{does_textsub}
use Rattle.standard_calls.proofs.texts.sub.Goals as goal

pub returns-clause-came : goal.returns-clause-came
returns-clause-came c =
    let ei : to_z w64 (of_z w64 c.args.i) ≡ c.args.i = search rules in
    let en : to_z w64 (of_z w64 c.args.n) ≡ c.args.n = search rules in
    let i2 = to_z w64 (of_z w64 c.args.i) in
    let n2 = to_z w64 (of_z w64 c.args.n) in
    let t = c.args.text in
    λ budget p.
    subst (λ i. CameAs c.text_came.result budget name.TextSub (Integer c.args.n ∷ Integer i ∷ Text t ∷ []) p p) ei
    (subst (λ n. CameAs c.text_came.result budget name.TextSub (Integer n ∷ Integer i2 ∷ Text t ∷ []) p p) en
    (c.text_came.ensures.came budget name.TextSub (Integer n2 ∷ Integer i2 ∷ Text t ∷ []) p
    (λ written. does_textsub (store_of p written) t i2 n2 ∙ ap (λ r. Some (computes Text r (store_of p written))) (sym c.sub.ensures.part))))
