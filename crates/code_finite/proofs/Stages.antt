-- The stages of an object or a prefixed block come in order, and there are only so many.
use Rattle.std.proofs.Common.{◌≡◌, ◌≤◌, ◌<◌, ℕ, zero, suc, Bool, true, false, List, [], ◌∷◌, ◌++◌, length, Option, Some, None, refl, subst, arith}
use Rattle.std.proofs.lemmas.Bool.Decides.{nat_tests}
use Rattle.std.specs.Prelude.{◌==◌, nat_lt, if◌then◌else◌, slice_get}
use Rattle.sim_code.specs.declared.stage.Stage.{Stage}
use Rattle.sim_code.specs.declared.stage.Stage.TheVariants as stage
use Rattle.sim_code.specs.Code.{ClassOf, CodeOf}
use Rattle.sim_code.specs.Classes.{behind, class_numbered, levels, levels_by, levels_in, levels_within}
use Rattle.sim_code.specs.Levels.{class_at_level, record_in, same_stage}
use Rattle.code_finite.proofs.Weights.{depth, found_within, stage_weight}

-- ---- how many levels a class has

longer : (outer : List ℕ) (c : ℕ) → length (outer ++ c ∷ []) ≡ suc (length outer)
longer [] c = refl
longer (x ∷ outer) c = omega (arith, longer outer c)

module _ (code : CodeOf) where
  within : (n c : ℕ) (cs : List ℕ) → levels_within n code c ≡ Some cs → length cs ≤ n
  within zero c cs is = absurd (cc)
  within (suc n) c cs is = by_record (λ d ds found. within n d ds found) (class_numbered code c) is
    where
      by_outer : (outer : Option (List ℕ)) → ((o : List ℕ) → outer ≡ Some o → length o ≤ n) → behind outer c ≡ Some cs → length cs ≤ suc n
      by_outer None most is = absurd (cc)
      by_outer (Some outer) most is = let same : outer ++ c ∷ [] ≡ cs = cc in subst (λ (l : List ℕ). length l ≤ suc n) same (omega (arith, longer outer c, most outer refl))

      by_order : ((d : ℕ) (ds : List ℕ) → levels_within n code d ≡ Some ds → length ds ≤ n) → (first lower : Bool) (x : ClassOf) → (if first then Some (c ∷ []) else if lower then behind (levels_within n code x.prefix) c else None) ≡ Some cs → length cs ≤ suc n
      by_order most true lower x is = let same : c ∷ [] ≡ cs = cc in subst (λ (l : List ℕ). length l ≤ suc n) same (omega arith)
      by_order most false true x is = by_outer (levels_within n code x.prefix) (most x.prefix) is
      by_order most false false x is = absurd (cc)

      by_record : ((d : ℕ) (ds : List ℕ) → levels_within n code d ≡ Some ds → length ds ≤ n) → (x : Option ClassOf) → levels_by (levels_within n code) c x ≡ Some cs → length cs ≤ suc n
      by_record most None is = absurd (cc)
      by_record most (Some x) is = by_order most (x.prefix == 0) (nat_lt x.prefix c) x is

  there : (c : ℕ) (cs : List ℕ) → levels_within c code c ≡ Some cs → c ≤ depth code
  there zero cs is = absurd (cc)
  there (suc c) cs is = by_record (slice_get code.classes c) refl is
    where
      by_record : (x : Option ClassOf) → slice_get code.classes c ≡ x → levels_by (levels_within c code) (suc c) x ≡ Some cs → suc c ≤ depth code
      by_record None found is = absurd (cc)
      by_record (Some x) found is = omega (arith, found_within code.classes c x found)

  levels_most : (c : ℕ) (cs : List ℕ) → levels code c ≡ Some cs → length cs ≤ depth code
  unfolding levels
  levels_most c cs is = omega (arith, within c c cs is, there c cs is)

  all_most : (c : Option ℕ) (cs : List ℕ) → levels_in code c ≡ Some cs → length cs ≤ depth code
  all_most None cs is = absurd (cc)
  all_most (Some c) cs is = levels_most c cs is

  level_within : (cs : List ℕ) (n : ℕ) (x : ClassOf) → class_at_level code cs n ≡ Some x → n < length cs
  level_within cs n x is = by_level (slice_get cs n) refl is
    where
      by_level : (c : Option ℕ) → slice_get cs n ≡ c → record_in code c ≡ Some x → n < length cs
      by_level None found is = absurd (cc)
      by_level (Some c) found is = found_within cs n c found

  pub level_there : (c : Option ℕ) (cs : List ℕ) (n : ℕ) (x : ClassOf) → levels_in code c ≡ Some cs → class_at_level code cs n ≡ Some x → n < depth code
  level_there c cs n x all is = omega (arith, all_most c cs all, level_within cs n x is)

  -- ---- each stage leads to a later one

  same : (n k : ℕ) → (n == k) ≡ true → n ≡ k
  same n k h = grind (arith, nat_tests)

  pub declarations_next : (s : Stage) (n : ℕ) → same_stage s (stage.Declaring n) ≡ true → suc n < depth code → stage_weight code (stage.Declaring (suc n)) < stage_weight code s
  declarations_next stage.NoStage n is less = absurd (cc)
  declarations_next (stage.Declaring k) n is less = omega (arith, same k n is, less)
  declarations_next (stage.Stating k) n is less = absurd (cc)
  declarations_next (stage.Behind k) n is less = absurd (cc)

  pub declarations_last : (s : Stage) (n : ℕ) → same_stage s (stage.Declaring n) ≡ true → stage_weight code (stage.Stating 0) < stage_weight code s
  declarations_last stage.NoStage n is = absurd (cc)
  declarations_last (stage.Declaring k) n is = omega arith
  declarations_last (stage.Stating k) n is = absurd (cc)
  declarations_last (stage.Behind k) n is = absurd (cc)

  pub statements_next : (s : Stage) (n : ℕ) → same_stage s (stage.Stating n) ≡ true → suc n < depth code → stage_weight code (stage.Stating (suc n)) < stage_weight code s
  statements_next stage.NoStage n is less = absurd (cc)
  statements_next (stage.Declaring k) n is less = absurd (cc)
  statements_next (stage.Stating k) n is less = omega (arith, same k n is, less)
  statements_next (stage.Behind k) n is less = absurd (cc)

  pub statements_last : (s : Stage) (n : ℕ) → same_stage s (stage.Stating n) ≡ true → stage_weight code (stage.Behind n) < stage_weight code s
  statements_last stage.NoStage n is = absurd (cc)
  statements_last (stage.Declaring k) n is = absurd (cc)
  statements_last (stage.Stating k) n is = omega arith
  statements_last (stage.Behind k) n is = absurd (cc)

  pub behind_outward : (s : Stage) (n : ℕ) → same_stage s (stage.Behind (suc n)) ≡ true → n < depth code → stage_weight code (stage.Behind n) < stage_weight code s
  behind_outward stage.NoStage n is less = absurd (cc)
  behind_outward (stage.Declaring k) n is less = absurd (cc)
  behind_outward (stage.Stating k) n is less = absurd (cc)
  behind_outward (stage.Behind k) n is less = omega (arith, same k (suc n) is, less)
