use Rattle.std.proofs.Common.{rules, ◌≡◌, sym, subst, ap, ◌∙◌, to_z, of_z, w64}
use Rattle.std.specs.Prelude.{[], ◌∷◌, Some}
use Rattle.sim_values.specs.declared.standard.Standard.TheVariants as name
use Rattle.sim_values.specs.Plain.{Character, Integer}
use Rattle.sim_values.specs.Store.{computes}
use Rattle.sim_code.specs.Machine.{plain}
use Rattle.standard_calls.specs.Calls.{CameAs, integer_name}
use Rattle.standard_calls.specs.Performed.{store_of}
use Rattle.standard_calls.proofs.Effects.{does_abs, does_sign, does_char, does_isochar}
use Rattle.sim_values.specs.Arithmetic.{sign_of}
use Rattle.standard_calls.proofs.plain.of_integer.Goals as goal

pub returns-in-Abs-clause-came : goal.returns-in-Abs-clause-came
returns-in-Abs-clause-came c =
    let ei : to_z w64 (of_z w64 c.args.i) ≡ c.args.i = search rules in
    let i2 = to_z w64 (of_z w64 c.args.i) in
    λ budget p.
    subst (λ f. CameAs c.integer_came.result budget (integer_name f) (Integer c.args.i ∷ []) p p) (sym c.in-Abs.is)
    (subst (λ i. CameAs c.integer_came.result budget name.Abs (Integer i ∷ []) p p) ei
    (c.integer_came.ensures.came budget name.Abs (Integer i2 ∷ []) p (λ written. does_abs (store_of p written) i2 ∙ ap (λ r. Some (computes Integer r (store_of p written))) (sym c.absolute.ensures.absolute))))

pub returns-in-Sign-clause-came : goal.returns-in-Sign-clause-came
returns-in-Sign-clause-came c =
    let ei : to_z w64 (of_z w64 c.args.i) ≡ c.args.i = search rules in
    let i2 = to_z w64 (of_z w64 c.args.i) in
    λ budget p.
    subst (λ f. CameAs c.given.result budget (integer_name f) (Integer c.args.i ∷ []) p p) (sym c.in-Sign.is)
    (subst (λ i. CameAs c.given.result budget name.Sign (Integer i ∷ []) p p) ei
    (c.given.ensures.came budget name.Sign (Integer i2 ∷ []) p (Integer (sign_of i2)) (ap plain c.integer.ensures.value ∙ ap (λ z. Some (Integer z)) ((let whole : to_z w64 (of_z w64 c.sign.result) ≡ c.sign.result = search rules in whole) ∙ c.sign.ensures.sign)) (λ written. does_sign (store_of p written) i2)))

pub returns-in-Char-clause-came : goal.returns-in-Char-clause-came
returns-in-Char-clause-came c =
    let ei : to_z w64 (of_z w64 c.args.i) ≡ c.args.i = search rules in
    let i2 = to_z w64 (of_z w64 c.args.i) in
    λ budget p.
    subst (λ f. CameAs c.character_came.result budget (integer_name f) (Integer c.args.i ∷ []) p p) (sym c.in-Char.is)
    (subst (λ i. CameAs c.character_came.result budget name.Char (Integer i ∷ []) p p) ei
    (c.character_came.ensures.came budget name.Char (Integer i2 ∷ []) p (λ written. does_char (store_of p written) i2 ∙ ap (λ r. Some (computes Character r (store_of p written))) (sym c.character.ensures.character))))

pub returns-in-Isochar-clause-came : goal.returns-in-Isochar-clause-came
returns-in-Isochar-clause-came c =
    let ei : to_z w64 (of_z w64 c.args.i) ≡ c.args.i = search rules in
    let i2 = to_z w64 (of_z w64 c.args.i) in
    λ budget p.
    subst (λ f. CameAs c.character_came-in-Isochar.result budget (integer_name f) (Integer c.args.i ∷ []) p p) (sym c.in-Isochar.is)
    (subst (λ i. CameAs c.character_came-in-Isochar.result budget name.Isochar (Integer i ∷ []) p p) ei
    (c.character_came-in-Isochar.ensures.came budget name.Isochar (Integer i2 ∷ []) p (λ written. does_isochar (store_of p written) i2 ∙ ap (λ r. Some (computes Character r (store_of p written))) (sym c.character-in-Isochar.ensures.character))))
