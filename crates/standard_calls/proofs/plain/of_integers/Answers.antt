use Rattle.std.proofs.Common.{rules, ◌≡◌, sym, subst, ap, ◌∙◌, to_z, of_z, w64}
use Rattle.std.specs.Prelude.{[], ◌∷◌, Some}
use Rattle.sim_values.specs.declared.standard.Standard.TheVariants as name
use Rattle.sim_values.specs.Plain.{Integer}
use Rattle.sim_values.specs.Store.{computes}
use Rattle.sim_code.specs.Machine.{plain}
use Rattle.standard_calls.specs.Calls.{CameAs, integers_name}
use Rattle.standard_calls.specs.Performed.{store_of}
use Rattle.standard_calls.proofs.Effects.{does_min, does_max, does_mod, does_rem}
use Rattle.sim_values.specs.Arithmetic.{greater_of, smaller_of}
use Rattle.standard_calls.proofs.plain.of_integers.Goals as goal

pub returns-in-Min-clause-came : goal.returns-in-Min-clause-came
returns-in-Min-clause-came c =
    let ei : to_z w64 (of_z w64 c.args.i) ≡ c.args.i = search rules in
    let ej : to_z w64 (of_z w64 c.args.j) ≡ c.args.j = search rules in
    let i2 = to_z w64 (of_z w64 c.args.i) in
    let j2 = to_z w64 (of_z w64 c.args.j) in
    λ budget p.
    subst (λ f. CameAs c.given.result budget (integers_name f) (Integer c.args.j ∷ Integer c.args.i ∷ []) p p) (sym c.in-Min.is)
    (subst (λ i. CameAs c.given.result budget name.Min (Integer c.args.j ∷ Integer i ∷ []) p p) ei
    (subst (λ j. CameAs c.given.result budget name.Min (Integer j ∷ Integer i2 ∷ []) p p) ej
    (c.given.ensures.came budget name.Min (Integer j2 ∷ Integer i2 ∷ []) p (Integer (smaller_of i2 j2)) (ap plain c.integer.ensures.value ∙ ap (λ z. Some (Integer z)) ((let whole : to_z w64 (of_z w64 c.smaller.result) ≡ c.smaller.result = search rules in whole) ∙ c.smaller.ensures.smaller)) (λ written. does_min (store_of p written) i2 j2))))

pub returns-in-Max-clause-came : goal.returns-in-Max-clause-came
returns-in-Max-clause-came c =
    let ei : to_z w64 (of_z w64 c.args.i) ≡ c.args.i = search rules in
    let ej : to_z w64 (of_z w64 c.args.j) ≡ c.args.j = search rules in
    let i2 = to_z w64 (of_z w64 c.args.i) in
    let j2 = to_z w64 (of_z w64 c.args.j) in
    λ budget p.
    subst (λ f. CameAs c.given-in-Max.result budget (integers_name f) (Integer c.args.j ∷ Integer c.args.i ∷ []) p p) (sym c.in-Max.is)
    (subst (λ i. CameAs c.given-in-Max.result budget name.Max (Integer c.args.j ∷ Integer i ∷ []) p p) ei
    (subst (λ j. CameAs c.given-in-Max.result budget name.Max (Integer j ∷ Integer i2 ∷ []) p p) ej
    (c.given-in-Max.ensures.came budget name.Max (Integer j2 ∷ Integer i2 ∷ []) p (Integer (greater_of i2 j2)) (ap plain c.integer-in-Max.ensures.value ∙ ap (λ z. Some (Integer z)) ((let whole : to_z w64 (of_z w64 c.greater.result) ≡ c.greater.result = search rules in whole) ∙ c.greater.ensures.greater)) (λ written. does_max (store_of p written) i2 j2))))

pub returns-in-Mod-clause-came : goal.returns-in-Mod-clause-came
returns-in-Mod-clause-came c =
    let ei : to_z w64 (of_z w64 c.args.i) ≡ c.args.i = search rules in
    let ej : to_z w64 (of_z w64 c.args.j) ≡ c.args.j = search rules in
    let i2 = to_z w64 (of_z w64 c.args.i) in
    let j2 = to_z w64 (of_z w64 c.args.j) in
    λ budget p.
    subst (λ f. CameAs c.integer_came.result budget (integers_name f) (Integer c.args.j ∷ Integer c.args.i ∷ []) p p) (sym c.in-Mod.is)
    (subst (λ i. CameAs c.integer_came.result budget name.Mod (Integer c.args.j ∷ Integer i ∷ []) p p) ei
    (subst (λ j. CameAs c.integer_came.result budget name.Mod (Integer j ∷ Integer i2 ∷ []) p p) ej
    (c.integer_came.ensures.came budget name.Mod (Integer j2 ∷ Integer i2 ∷ []) p (λ written. does_mod (store_of p written) i2 j2 ∙ ap (λ r. Some (computes Integer r (store_of p written))) (sym c.modulo.ensures.modulus)))))

pub returns-in-Rem-clause-came : goal.returns-in-Rem-clause-came
returns-in-Rem-clause-came c =
    let ei : to_z w64 (of_z w64 c.args.i) ≡ c.args.i = search rules in
    let ej : to_z w64 (of_z w64 c.args.j) ≡ c.args.j = search rules in
    let i2 = to_z w64 (of_z w64 c.args.i) in
    let j2 = to_z w64 (of_z w64 c.args.j) in
    λ budget p.
    subst (λ f. CameAs c.integer_came-in-Rem.result budget (integers_name f) (Integer c.args.j ∷ Integer c.args.i ∷ []) p p) (sym c.in-Rem.is)
    (subst (λ i. CameAs c.integer_came-in-Rem.result budget name.Rem (Integer c.args.j ∷ Integer i ∷ []) p p) ei
    (subst (λ j. CameAs c.integer_came-in-Rem.result budget name.Rem (Integer j ∷ Integer i2 ∷ []) p p) ej
    (c.integer_came-in-Rem.ensures.came budget name.Rem (Integer j2 ∷ Integer i2 ∷ []) p (λ written. does_rem (store_of p written) i2 j2 ∙ ap (λ r. Some (computes Integer r (store_of p written))) (sym c.remainder.ensures.remainder)))))
