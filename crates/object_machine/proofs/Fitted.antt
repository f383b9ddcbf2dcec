-- Actual parameters against formal ones.
use Rattle.std.proofs.Common.{◌≡◌, ℕ, zero, suc, ◌+◌, ◌-◌, ◌<◌, ◌≤◌, List, [], ◌∷◌, length, drop, sym, refl, ap, ◌∙◌, arith}
use Rattle.std.proofs.lemmas.List.{drop_all, drop_more}
use Rattle.std.specs.Prelude.{Bool, true, false, not, ◌&&◌, ◌||◌, ◌==◌, if◌then◌else◌, Option, Some, None, Result, Ok, Err, slice_get, slice_index_or}
use Rattle.sim_base.specs.declared.run_error.RunError.{RunError}
use Rattle.sim_base.specs.declared.run_error.RunError.TheVariants.{WrongNumberOfParameters, WrongParameter}
use Rattle.sim_code.specs.declared.code.CodeActual.{CodeActual}
use Rattle.sim_code.specs.declared.code.CodeFormal.{CodeFormal}
use Rattle.sim_code.specs.declared.code.CodeType.{CodeType}
use Rattle.sim_code.specs.Classes.{block_in_record, class_numbered, is_among}
use Rattle.sim_code.specs.Code.{BlockOf, ClassOf, CodeOf}
use Rattle.sim_code.specs.Events.{choosing, having, no_rule, stopping}
use Rattle.sim_code.specs.Formals.{alike, all_fit, and_then, class_level, each, fits, fits_now, has_level, holder_of, holders_agree, is_reference, is_within, level_in, same_holder, same_type, suiting}
use Rattle.sim_code.specs.Instances.{at_level}
use Rattle.sim_code.specs.Machine.{Frames, Machine}
use Rattle.sim_code.specs.Outcome.{Run, RunFault, World}
use Rattle.sim_code.specs.Virtuals.{counting}
use Rattle.object_machine.specs.Checking.{on_one_chain}

-- ---- types

module _ (b : Bool) (f a : CodeType) where
  pub not_alike : same_type f a ≡ false → false ≡ alike b f a
  not_alike e = sym (ap (λ c. c && (not (is_reference f) || b)) e)

  pub alike_by_class : same_type f a ≡ true → is_reference f ≡ true → b ≡ alike b f a
  alike_by_class e e2 = sym (ap (λ c. c && (not (is_reference f) || b)) e ∙ ap (λ c. not c || b) e2)

  pub alike_anyhow : same_type f a ≡ true → is_reference f ≡ false → true ≡ alike b f a
  alike_anyhow e e2 = sym (ap (λ c. c && (not (is_reference f) || b)) e ∙ ap (λ c. not c || b) e2)

-- ---- classes

abbrev pub held_or : Option Bool → Bool
held_or None = false
held_or (Some b) = b

pub level_held : (c : ℕ) (ks : Option (List ℕ)) → held_or (is_among c ks) ≡ has_level c ks
level_held c None = refl
level_held c (Some ks) = refl

module _ (code : CodeOf) (wanted given : ℕ) where
  pub no_class_given : given ≡ 0 → true ≡ on_one_chain code wanted given
  no_class_given e =
      let none : (given == 0) ≡ true = grind (arith, e) in
      sym (ap (λ b. b || is_within code given wanted || is_within code wanted given) none)

  pub chain_inside : (given ≡ 0 → ⊥) → is_within code given wanted ≡ true → true ≡ on_one_chain code wanted given
  chain_inside h e =
      let some : (given == 0) ≡ false = grind (arith, h) in
      sym (ap (λ b. b || is_within code given wanted || is_within code wanted given) some ∙ ap (λ b. b || is_within code wanted given) e)

  pub chain_outside : (given ≡ 0 → ⊥) → is_within code given wanted ≡ false → is_within code wanted given ≡ on_one_chain code wanted given
  chain_outside h e =
      let some : (given == 0) ≡ false = grind (arith, h) in
      sym (ap (λ b. b || is_within code given wanted || is_within code wanted given) some ∙ ap (λ b. b || is_within code wanted given) e)

-- ---- all of them

pub no_actual : (code : CodeOf) (fs : List CodeFormal) → true ≡ all_fit code fs []
no_actual code [] = refl
no_actual code (f ∷ fs) = refl

module _ (code : CodeOf) (fs : List CodeFormal) (xs : List CodeActual) (i : ℕ) where
  abbrev pub Rest : Bool
  Rest = all_fit code (drop i fs) (drop i xs)

  pub actuals_done : length xs ≤ i → true ≡ Rest
  actuals_done h = no_actual code (drop i fs) ∙ sym (ap (all_fit code (drop i fs)) (drop_all i xs h))

  pub formals_done : length fs ≤ i → true ≡ Rest
  formals_done h = sym (ap (λ gs. all_fit code gs (drop i xs)) (drop_all i fs h))

  module _ (d : CodeFormal) (e : CodeActual) (h : i < length fs) (h2 : i < length xs) where
    first_of_rest : Rest ≡ (fits code (slice_index_or fs i d) (slice_index_or xs i e) && all_fit code (drop (i + 1) fs) (drop (i + 1) xs))
    first_of_rest = ap (λ gs. all_fit code gs (drop i xs)) (drop_more fs i d h) ∙ ap (all_fit code (slice_index_or fs i d ∷ drop (i + 1) fs)) (drop_more xs i e h2)

    pub one_fits : fits code (slice_index_or fs i d) (slice_index_or xs i e) ≡ true → Rest ≡ all_fit code (drop (i + 1) fs) (drop (i + 1) xs)
    one_fits is = first_of_rest ∙ ap (λ b. b && all_fit code (drop (i + 1) fs) (drop (i + 1) xs)) is

    pub one_misfits : fits code (slice_index_or fs i d) (slice_index_or xs i e) ≡ false → false ≡ Rest
    one_misfits is = sym (first_of_rest ∙ ap (λ b. b && all_fit code (drop (i + 1) fs) (drop (i + 1) xs)) is)

-- ---- the number and the types of all of them

module _ (code : CodeOf) (fs : List CodeFormal) (xs : List CodeActual) where
  pub other_number : (length fs ≡ length xs → ⊥) → Err WrongNumberOfParameters ≡ fits_now code fs xs
  other_number h =
      let other : (length fs == length xs) ≡ false = grind (arith, h) in
      sym (ap (λ n. if not n then Err WrongNumberOfParameters else if all_fit code fs xs then Ok tt else Err WrongParameter) other)

  module _ (e : length fs ≡ length xs) where
    pub right_number : fits_now code fs xs ≡ (if all_fit code fs xs then Ok tt else Err WrongParameter)
    right_number =
        let same : (length fs == length xs) ≡ true = grind (arith, e) in
        ap (λ n. if not n then Err WrongNumberOfParameters else if all_fit code fs xs then Ok tt else Err WrongParameter) same

    pub now_fit : all_fit code fs xs ≡ true → Ok tt ≡ fits_now code fs xs
    now_fit is = sym (right_number ∙ ap (λ b. if b then Ok tt else Err WrongParameter) is)

    pub now_misfit : all_fit code fs xs ≡ false → Err WrongParameter ≡ fits_now code fs xs
    now_misfit is = sym (right_number ∙ ap (λ b. if b then Ok tt else Err WrongParameter) is)

-- ---- what the row does with that

abbrev Judged : Bool → Bool → Result (Unit {0}) RunError
Judged n b = if not n then Err WrongNumberOfParameters else if b then Ok tt else Err WrongParameter

abbrev error_in : Result (Unit {0}) RunError → RunError
error_in (Ok u) = WrongParameter
error_in (Err e) = e

abbrev is_error : Result (Unit {0}) RunError → Bool
is_error (Ok u) = false
is_error (Err e) = true

module _ (line : ℕ) (o : World) (r : Run Machine) where
  abbrev Row_of : Bool → Bool → Run Machine
  Row_of n b = choosing n (choosing b r (stopping (RunFault WrongParameter line) o)) (stopping (RunFault WrongNumberOfParameters line) o)

  goes_by : (n b : Bool) → false ≡ is_error (Judged n b) → Row_of n b ≡ r
  unfolding choosing
  goes_by true true e = refl
  goes_by true false e = absurd (cc)
  goes_by false b e = absurd (cc)

  ends_by : (n b : Bool) (x : RunError) → true ≡ is_error (Judged n b) → x ≡ error_in (Judged n b) → Row_of n b ≡ stopping (RunFault x line) o
  unfolding choosing
  ends_by true true x e e2 = absurd (cc)
  ends_by true false x e e2 = ap (λ y. stopping (RunFault y line) o) (sym e2)
  ends_by false b x e e2 = ap (λ y. stopping (RunFault y line) o) (sym e2)

module _ (code : CodeOf) (fs : List CodeFormal) (xs : List CodeActual) (line : ℕ) (o : World) (r : Run Machine) where
  abbrev pub Tested : Run Machine
  Tested = counting line (length fs) (length xs) o (suiting line (all_fit code fs xs) o r)

  pub tested_right : (u : Unit {0}) → Ok u ≡ fits_now code fs xs → Tested ≡ r
  unfolding counting suiting
  tested_right u e = goes_by line o r (length fs == length xs) (all_fit code fs xs) (ap is_error e)

  pub tested_fine : (q : Result (Unit {0}) RunError) → ((x : RunError) → q ≡ Err x → ⊥) → q ≡ fits_now code fs xs → Tested ≡ r
  tested_fine (Ok u) h e = tested_right u e
  tested_fine (Err x) h e = absurd (h x refl)

  pub tested_wrong : (x : RunError) → Err x ≡ fits_now code fs xs → Tested ≡ stopping (RunFault x line) o
  unfolding counting suiting
  tested_wrong x e = ends_by line o r (length fs == length xs) (all_fit code fs xs) x (ap is_error e) (ap error_in e)

-- ---- the instances to which classes belong

module _ (code : CodeOf) (c : ℕ) where
  pub level_unknown : class_numbered code c ≡ None → None ≡ class_level code c
  level_unknown e = sym (ap (λ x. level_in (block_in_record code x)) e)

  module _ (x : ClassOf) (there : class_numbered code c ≡ Some x) where
    pub no_level_block : slice_get code.blocks x.block ≡ None → None ≡ class_level code c
    no_level_block e = sym (ap (λ x. level_in (block_in_record code x)) there ∙ ap level_in e)

    pub level_is : (b : BlockOf) → slice_get code.blocks x.block ≡ Some b → Some b.level ≡ class_level code c
    level_is b e = sym (ap (λ x. level_in (block_in_record code x)) there ∙ ap level_in e)

module _ (m : Frames) (level : Option ℕ) (j : ℕ) where
  pub no_holder : None ≡ level → None ≡ holder_of m level j
  no_holder e = ap (λ q. holder_of m q j) e

  pub outermost_holder : (n : ℕ) → Some n ≡ level → n ≡ 0 → None ≡ holder_of m level j
  outermost_holder n e e2 = sym (ap (λ k. holder_of m (Some k) j) e2) ∙ ap (λ q. holder_of m q j) e

  pub holder_found : (n : ℕ) → Some n ≡ level → (n ≡ 0 → ⊥) → at_level m (n - 1) j ≡ holder_of m level j
  holder_found zero e h = absurd (h refl)
  holder_found (suc n) e h = (let same : suc n - 1 ≡ n = omega arith in ap (λ k. at_level m k j) same) ∙ ap (λ q. holder_of m q j) e

module _ (code : CodeOf) (m : Frames) (parent home : ℕ) (f : CodeFormal) (a : CodeActual) where
  abbrev Holders : Option Bool
  Holders = same_holder (holder_of m (class_level code f.class) parent) (holder_of m (class_level code a.class) home)

  pub no_references : is_reference f.code_type ≡ false → Some true ≡ holders_agree code m parent home f a
  no_references e = sym (ap (λ b. if b && not (a.class == 0) then Holders else Some true) e)

  pub no_class_passed : is_reference f.code_type ≡ true → a.class ≡ 0 → Some true ≡ holders_agree code m parent home f a
  no_class_passed e e2 =
      let none : (a.class == 0) ≡ true = grind (arith, e2) in
      sym (ap (λ b. if b && not (a.class == 0) then Holders else Some true) e ∙ ap (λ b. if not b then Holders else Some true) none)

  module _ (e : is_reference f.code_type ≡ true) (h : a.class ≡ 0 → ⊥) where
    both_classes : holders_agree code m parent home f a ≡ Holders
    both_classes =
        let some : (a.class == 0) ≡ false = grind (arith, h) in
        ap (λ b. if b && not (a.class == 0) then Holders else Some true) e ∙ ap (λ b. if not b then Holders else Some true) some

    pub wanted_unheld : None ≡ holder_of m (class_level code f.class) parent → None ≡ holders_agree code m parent home f a
    wanted_unheld e2 = ap (λ q. same_holder q (holder_of m (class_level code a.class) home)) e2 ∙ sym both_classes

    pub given_unheld : (j : ℕ) → Some j ≡ holder_of m (class_level code f.class) parent → None ≡ holder_of m (class_level code a.class) home → None ≡ holders_agree code m parent home f a
    given_unheld j e2 e3 = ap (λ q. same_holder (Some j) q) e3 ∙ ap (λ q. same_holder q (holder_of m (class_level code a.class) home)) e2 ∙ sym both_classes

    pub both_held : (j k : ℕ) → Some j ≡ holder_of m (class_level code f.class) parent → Some k ≡ holder_of m (class_level code a.class) home → Some (j == k) ≡ holders_agree code m parent home f a
    both_held j k e2 e3 = ap (λ q. same_holder (Some j) q) e3 ∙ ap (λ q. same_holder q (holder_of m (class_level code a.class) home)) e2 ∙ sym both_classes

-- ---- of each parameter

module _ (test : CodeFormal → CodeActual → Option Bool) where
  each_of_none : (fs : List CodeFormal) → Some true ≡ each test fs []
  unfolding each
  each_of_none [] = refl
  each_of_none (f ∷ fs) = refl

  module _ (fs : List CodeFormal) (xs : List CodeActual) (i : ℕ) where
    abbrev pub EachOfRest : Option Bool
    EachOfRest = each test (drop i fs) (drop i xs)

    pub each_actual_done : length xs ≤ i → Some true ≡ EachOfRest
    each_actual_done h = each_of_none (drop i fs) ∙ sym (ap (each test (drop i fs)) (drop_all i xs h))

    pub each_formal_done : length fs ≤ i → Some true ≡ EachOfRest
    unfolding each
    each_formal_done h = sym (ap (λ gs. each test gs (drop i xs)) (drop_all i fs h))

    module _ (d : CodeFormal) (e : CodeActual) (h : i < length fs) (h2 : i < length xs) where
      first_tested : EachOfRest ≡ and_then (test (slice_index_or fs i d) (slice_index_or xs i e)) (each test (drop (i + 1) fs) (drop (i + 1) xs))
      unfolding each
      first_tested = ap (λ gs. each test gs (drop i xs)) (drop_more fs i d h) ∙ ap (each test (slice_index_or fs i d ∷ drop (i + 1) fs)) (drop_more xs i e h2)

      abbrev Tested_here : Option Bool
      Tested_here = test (slice_index_or fs i d) (slice_index_or xs i e)

      abbrev Then : Option Bool → Option Bool
      Then q = and_then q (each test (drop (i + 1) fs) (drop (i + 1) xs))

      pub one_passes : (b : Bool) → Some b ≡ Tested_here → b ≡ true → EachOfRest ≡ each test (drop (i + 1) fs) (drop (i + 1) xs)
      one_passes b is is2 = first_tested ∙ ap Then (sym is) ∙ ap (λ c. Then (Some c)) is2

      pub one_disagrees : (b : Bool) → Some b ≡ Tested_here → b ≡ false → Some false ≡ EachOfRest
      one_disagrees b is is2 = sym (first_tested ∙ ap Then (sym is) ∙ ap (λ c. Then (Some c)) is2)

      pub one_unknown : None ≡ Tested_here → None ≡ EachOfRest
      one_unknown is = sym (first_tested ∙ ap Then (sym is))

-- what is found of them
module _ (line : ℕ) (agree : Option Bool) (o : World) (r : Run Machine) where
  abbrev pub Agreed : Run Machine
  Agreed = having agree o (λ b. suiting line b o r)

  pub agree_all : (b : Bool) → Some b ≡ agree → b ≡ true → Agreed ≡ r
  unfolding having suiting choosing
  agree_all b e e2 = ap (λ q. having q o (λ b. suiting line b o r)) (sym e) ∙ ap (λ b. suiting line b o r) e2

  pub agree_not : (b : Bool) → Some b ≡ agree → b ≡ false → Agreed ≡ stopping (RunFault WrongParameter line) o
  unfolding having suiting choosing
  agree_not b e e2 = ap (λ q. having q o (λ b. suiting line b o r)) (sym e) ∙ ap (λ b. suiting line b o r) e2

  pub agree_unknown : None ≡ agree → Agreed ≡ no_rule o
  unfolding having
  agree_unknown e = ap (λ q. having q o (λ b. suiting line b o r)) (sym e)
