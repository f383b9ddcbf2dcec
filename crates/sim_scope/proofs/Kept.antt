-- What stays the same of the rows of a list.
use Rattle.std.proofs.Common.{◌≡◌, ℕ, zero, suc, false, List, [], ◌∷◌, ◌++◌, length, Option, Some, None, refl, sym, ap, ◌∙◌, arith}
use Rattle.std.specs.Prelude.{nat_eq, slice_get, slice_set}
use Rattle.std.proofs.lemmas.Bool.Decides.{nat_tests}

module _ {A B : Type 0} (f : Option A → B) where
  -- a row is replaced by one that is alike
  pub kept_set : (xs : List A) (j : ℕ) (r n : A) → slice_get xs j ≡ Some r → f (Some n) ≡ f (Some r) → (k : ℕ) → f (slice_get (slice_set xs j n) k) ≡ f (slice_get xs k)
  kept_set [] j r n at alike k = absurd (cc)
  kept_set (x ∷ xs) zero r n at alike zero = alike ∙ ap f (sym at)
  kept_set (x ∷ xs) zero r n at alike (suc k) = refl
  kept_set (x ∷ xs) (suc j) r n at alike zero = refl
  kept_set (x ∷ xs) (suc j) r n at alike (suc k) = kept_set xs j r n at alike k

  -- a row is added that is like none
  pub kept_more : (xs : List A) (n : A) → f (Some n) ≡ f None → (k : ℕ) → f (slice_get (xs ++ n ∷ []) k) ≡ f (slice_get xs k)
  kept_more [] n alike zero = alike
  kept_more [] n alike (suc k) = refl
  kept_more (x ∷ xs) n alike zero = refl
  kept_more (x ∷ xs) n alike (suc k) = kept_more xs n alike k

-- the row that is replaced, and the others
pub set_here : {A : Type 0} (xs : List A) (j : ℕ) (r n : A) → slice_get xs j ≡ Some r → slice_get (slice_set xs j n) j ≡ Some n
set_here [] j r n at = absurd (cc)
set_here (x ∷ xs) zero r n at = refl
set_here (x ∷ xs) (suc j) r n at = set_here xs j r n at

pub set_other : {A : Type 0} (xs : List A) (j k : ℕ) (n : A) → nat_eq j k ≡ false → slice_get (slice_set xs j n) k ≡ slice_get xs k
set_other [] j k n other = refl
set_other (x ∷ xs) zero zero n other = absurd (cc)
set_other (x ∷ xs) zero (suc k) n other = refl
set_other (x ∷ xs) (suc j) zero n other = refl
set_other (x ∷ xs) (suc j) (suc k) n other = set_other xs j k n (let P : nat_eq j k ≡ false = grind (arith, nat_tests) in P)

-- the row that is added, and the others
pub more_here : {A : Type 0} (xs : List A) (n : A) → slice_get (xs ++ n ∷ []) (length xs) ≡ Some n
more_here [] n = refl
more_here (x ∷ xs) n = let e : length (x ∷ xs) ≡ suc (length xs) = omega arith in ap (slice_get ((x ∷ xs) ++ n ∷ [])) e ∙ more_here xs n

pub more_other : {A : Type 0} (xs : List A) (n : A) (k : ℕ) → nat_eq k (length xs) ≡ false → slice_get (xs ++ n ∷ []) k ≡ slice_get xs k
more_other [] n zero other = absurd (cc)
more_other [] n (suc k) other = refl
more_other (x ∷ xs) n zero other = refl
more_other (x ∷ xs) n (suc k) other = more_other xs n k (let P : nat_eq k (length xs) ≡ false = grind (arith, nat_tests) in P)
