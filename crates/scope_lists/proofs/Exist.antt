-- There is one list of each block along a link, and only one.
use Rattle.std.proofs.Common.{◌≡◌, ◌<◌, ℕ, zero, suc, Bool, true, false, List, [], ◌∷◌, ◌++◌, Option, Some, None, refl, sym, ap, ◌∙◌, arith, if◌then◌else◌, ◌||◌}
use Rattle.std.specs.Prelude.{nat_eq}
use Rattle.scope_lists.specs.Lists.{of_block, up_to}
use Rattle.scope_lists.proofs.Chains.{Bounded, IsListOf, free, free_all, free_less, has, outside, outside_met, outside_new, outside_nothing, outside_up_to}

pub has_behind : (seen : List ℕ) (x b : ℕ) → has (seen ++ x ∷ []) b ≡ (has seen b || nat_eq b x)
has_behind [] x b = go (nat_eq b x)
  where
    go : (t : Bool) → (t || false) ≡ t
    go true = refl
    go false = refl
has_behind (y ∷ seen) x b = go (nat_eq b y) (has_behind seen x b)
  where
    go : (t : Bool) → has (seen ++ x ∷ []) b ≡ (has seen b || nat_eq b x) → (t || has (seen ++ x ∷ []) b) ≡ ((t || has seen b) || nat_eq b x)
    go true deep = refl
    go false deep = deep

up_to_here : (x b : ℕ) (bs : List ℕ) → nat_eq b x ≡ true → up_to x (b ∷ bs) ≡ []
unfolding up_to
up_to_here x b bs e = ap (λ t. if t then [] else b ∷ up_to x bs) e

up_to_further : (x b : ℕ) (bs : List ℕ) → nat_eq b x ≡ false → up_to x (b ∷ bs) ≡ b ∷ up_to x bs
unfolding up_to
up_to_further x b bs e = ap (λ t. if t then [] else b ∷ up_to x bs) e

up_to_nothing : (x : ℕ) → up_to x [] ≡ []
unfolding up_to
up_to_nothing x = refl

outside_none : (seen : List ℕ) → outside seen [] ≡ []
unfolding outside
outside_none seen = refl

module _ (next : ℕ → Option ℕ) where
  -- what is reached in so many steps and was not met
  unfoldable pub trail : ℕ → List ℕ → ℕ → List ℕ
  trail zero seen b = []
  trail (suc k) seen b = if has seen b then [] else b ∷ of_block (λ c. trail k (b ∷ seen) c) (next b)

  trail_met : (k : ℕ) (seen : List ℕ) (b : ℕ) → has seen b ≡ true → trail (suc k) seen b ≡ []
  unfolding trail
  trail_met k seen b met = ap (λ t. if t then [] else b ∷ of_block (λ c. trail k (b ∷ seen) c) (next b)) met

  trail_new : (k : ℕ) (seen : List ℕ) (b : ℕ) → has seen b ≡ false → trail (suc k) seen b ≡ b ∷ of_block (λ c. trail k (b ∷ seen) c) (next b)
  unfolding trail
  trail_new k seen b new = ap (λ t. if t then [] else b ∷ of_block (λ c. trail k (b ∷ seen) c) (next b)) new

  module _ (n : ℕ) (bounded : Bounded n next) where
    cut : (x k m : ℕ) (seen : List ℕ) (b : ℕ) → free seen n < k → free (seen ++ x ∷ []) n < m → up_to x (trail k seen b) ≡ trail m (seen ++ x ∷ []) b
    cut x zero m seen b few fewer = absurd (omega arith)
    cut x (suc k) zero seen b few fewer = absurd (omega arith)
    cut x (suc k) (suc m) seen b few fewer = go (λ c less lesser. cut x k m (b ∷ seen) c less lesser) (has seen b) refl (nat_eq b x) refl
      where
        go : ((c : ℕ) → free (b ∷ seen) n < k → free (b ∷ seen ++ x ∷ []) n < m → up_to x (trail k (b ∷ seen) c) ≡ trail m (b ∷ seen ++ x ∷ []) c)
            → (t : Bool) → has seen b ≡ t → (u : Bool) → nat_eq b x ≡ u → up_to x (trail (suc k) seen b) ≡ trail (suc m) (seen ++ x ∷ []) b
        go deep true met u e =
            ap (up_to x) (trail_met k seen b met) ∙ up_to_nothing x
            ∙ sym (trail_met m (seen ++ x ∷ []) b (has_behind seen x b ∙ ap (λ t. t || nat_eq b x) met))
        go deep false new true e =
            ap (up_to x) (trail_new k seen b new) ∙ up_to_here x b _ e
            ∙ sym (trail_met m (seen ++ x ∷ []) b (has_behind seen x b ∙ ap (λ t. t || nat_eq b x) new ∙ e))
        go deep false new false e =
            ap (up_to x) (trail_new k seen b new) ∙ up_to_further x b _ e ∙ ap (λ l. b ∷ l) (on (next b) refl) ∙ sym (trail_new m (seen ++ x ∷ []) b apart)
          where
            apart : has (seen ++ x ∷ []) b ≡ false
            apart = has_behind seen x b ∙ ap (λ t. t || nat_eq b x) new ∙ e

            on : (o : Option ℕ) → next b ≡ o → up_to x (of_block (λ c. trail k (b ∷ seen) c) o) ≡ of_block (λ c. trail m (b ∷ seen ++ x ∷ []) c) o
            on None to = up_to_nothing x
            on (Some c) to =
                let one = free_less seen b n (bounded b c to) new in
                let two = free_less (seen ++ x ∷ []) b n (bounded b c to) apart in
                let less : free (b ∷ seen) n < k = omega arith in
                let lesser : free (b ∷ seen ++ x ∷ []) n < m = omega arith in
                deep c less lesser

    unfoldable pub made : ℕ → List ℕ
    made b = trail (suc n) [] b

    pub made_is : IsListOf next made
    unfolding made
    made_is b = trail_new n [] b refl ∙ ap (λ l. b ∷ l) (on (next b) refl)
      where
        on : (o : Option ℕ) → next b ≡ o → of_block (λ c. trail n (b ∷ []) c) o ≡ up_to b (of_block (λ c. trail (suc n) [] c) o)
        on None to = sym (up_to_nothing b)
        on (Some c) to =
            let all = free_all n in
            let one = free_less [] b n (bounded b c to) refl in
            let less : free [] n < suc n = omega arith in
            let lesser : free (b ∷ []) n < n = omega arith in
            sym (cut b (suc n) n [] c less lesser)

    module _ (list : ℕ → List ℕ) (is : IsListOf next list) where
      is_trail : (k : ℕ) (seen : List ℕ) (b : ℕ) → free seen n < k → outside seen (list b) ≡ trail k seen b
      is_trail zero seen b few = absurd (omega arith)
      is_trail (suc k) seen b few = go (λ c less. is_trail k (b ∷ seen) c less) (has seen b) refl
        where
          go : ((c : ℕ) → free (b ∷ seen) n < k → outside (b ∷ seen) (list c) ≡ trail k (b ∷ seen) c) → (t : Bool) → has seen b ≡ t → outside seen (list b) ≡ trail (suc k) seen b
          go deep true met = ap (outside seen) (is b) ∙ outside_met seen b _ met ∙ sym (trail_met k seen b met)
          go deep false new =
              ap (outside seen) (is b) ∙ outside_new seen b _ new ∙ ap (λ l. b ∷ l) (outside_up_to seen b _ ∙ on (next b) refl) ∙ sym (trail_new k seen b new)
            where
              on : (o : Option ℕ) → next b ≡ o → outside (b ∷ seen) (of_block list o) ≡ of_block (λ c. trail k (b ∷ seen) c) o
              on None to = outside_none (b ∷ seen)
              on (Some c) to =
                  let one = free_less seen b n (bounded b c to) new in
                  let less : free (b ∷ seen) n < k = omega arith in
                  deep c less

      pub is_made : (b : ℕ) → list b ≡ made b
      unfolding made
      is_made b = sym (outside_nothing (list b)) ∙ is_trail (suc n) [] b (let all = free_all n in omega arith)
