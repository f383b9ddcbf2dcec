-- An array and its subscripts on a stack.
use Rattle.std.proofs.Common.{◌≡◌, ℕ, ◌<◌, List, [], ◌∷◌, sym, refl, ap, ◌∙◌, arith}
use Rattle.std.specs.Prelude.{ℤ, Some, None, Ok, Err}
use Rattle.sim_base.specs.declared.run_error.RunError.{RunError}
use Rattle.sim_code.specs.Arrays.{element_place, finding_element, live_array}
use Rattle.sim_code.specs.Events.{computing, having, no_rule, pop_integers, popping, stopping}
use Rattle.sim_code.specs.Instances.{ElementPlace}
use Rattle.sim_code.specs.Machine.{Address, Machine, Value, array_in, plain}
use Rattle.sim_code.specs.Outcome.{ArrayOf, Run, RunFault, World}
use Rattle.frame_arena.specs.declared.slot.Slot.{Slot}
use Rattle.frame_arena.specs.Stacks.{values_of}
use Rattle.frame_arena.proofs.Tops.{none_held}

module _ (line class : ℕ) (o : World) (go : List Value → Run Machine) where
  abbrev pub placing : ℕ → List ℤ → List Value → ArrayOf → Run Machine
  placing array subscripts rest a = computing line (element_place a.bounds subscripts) o (λ index. go (Address (ElementPlace array index class) ∷ rest))

  abbrev pub taking_array : List ℤ → List Value → Run Machine
  taking_array subscripts rest = popping rest o (λ v rest. having (array_in v) o (λ array. having (live_array o array) o (placing array subscripts rest)))

  pub finding : (n : ℕ) (values : List Value) → finding_element plain array_in n line values o (λ array k rest. go (Address (ElementPlace array k class) ∷ rest)) ≡ pop_integers plain n [] values o taking_array
  unfolding finding_element
  finding n values = refl

  taking_empty : (subscripts : List ℤ) → taking_array subscripts [] ≡ no_rule o
  unfolding popping
  taking_empty subscripts = refl

  pub taking_none : (subscripts : List ℤ) (first : ℕ) (stack : List Slot) → first < 1 → taking_array subscripts (values_of first stack) ≡ no_rule o
  taking_none subscripts first stack h =
      let e : first ≡ 0 = omega (arith, h) in
      ap (λ n. taking_array subscripts (values_of n stack)) e ∙ ap (taking_array subscripts) (none_held stack) ∙ taking_empty subscripts

  taking_one : (subscripts : List ℤ) (v : Value) (rest : List Value) → taking_array subscripts (v ∷ rest) ≡ having (array_in v) o (λ array. having (live_array o array) o (placing array subscripts rest))
  unfolding popping
  taking_one subscripts v rest = refl

  having_some : {A : Type 0} (a : A) (f : A → Run Machine) → having (Some a) o f ≡ f a
  unfolding having
  having_some a f = refl

  having_none : {A : Type 0} (f : A → Run Machine) → having None o f ≡ no_rule o
  unfolding having
  having_none f = refl

  pub taking_other : (subscripts : List ℤ) (v : Value) (rest : List Value) → None ≡ array_in v → taking_array subscripts (v ∷ rest) ≡ no_rule o
  taking_other subscripts v rest h =
      taking_one subscripts v rest ∙ ap (λ w. having w o (λ array. having (live_array o array) o (placing array subscripts rest))) (sym h) ∙ having_none (λ array. having (live_array o array) o (placing array subscripts rest))

  taking_it : (subscripts : List ℤ) (v : Value) (rest : List Value) (array : ℕ) → Some array ≡ array_in v → taking_array subscripts (v ∷ rest) ≡ having (live_array o array) o (placing array subscripts rest)
  taking_it subscripts v rest array h =
      taking_one subscripts v rest ∙ ap (λ w. having w o (λ array. having (live_array o array) o (placing array subscripts rest))) (sym h)
      ∙ having_some array (λ array. having (live_array o array) o (placing array subscripts rest))

  pub taking_gone : (subscripts : List ℤ) (v : Value) (rest : List Value) (array : ℕ) → Some array ≡ array_in v → live_array o array ≡ None → taking_array subscripts (v ∷ rest) ≡ no_rule o
  taking_gone subscripts v rest array h gone =
      taking_it subscripts v rest array h ∙ ap (λ w. having w o (placing array subscripts rest)) gone ∙ having_none (placing array subscripts rest)

  pub taking_found : (subscripts : List ℤ) (v : Value) (rest : List Value) (array : ℕ) (a : ArrayOf) → Some array ≡ array_in v → live_array o array ≡ Some a → taking_array subscripts (v ∷ rest) ≡ placing array subscripts rest a
  taking_found subscripts v rest array a h found =
      taking_it subscripts v rest array h ∙ ap (λ w. having w o (placing array subscripts rest)) found ∙ having_some a (placing array subscripts rest)

  pub placing_error : (array : ℕ) (subscripts : List ℤ) (rest : List Value) (a : ArrayOf) (e : RunError) → element_place a.bounds subscripts ≡ Err e → placing array subscripts rest a ≡ stopping (RunFault e line) o
  unfolding computing
  placing_error array subscripts rest a e h = ap (λ r. computing line r o (λ index. go (Address (ElementPlace array index class) ∷ rest))) h

  pub placing_ok : (array : ℕ) (subscripts : List ℤ) (rest : List Value) (a : ArrayOf) (k : ℕ) → element_place a.bounds subscripts ≡ Ok k → placing array subscripts rest a ≡ go (Address (ElementPlace array k class) ∷ rest)
  unfolding computing
  placing_ok array subscripts rest a k h = ap (λ r. computing line r o (λ index. go (Address (ElementPlace array index class) ∷ rest))) h
