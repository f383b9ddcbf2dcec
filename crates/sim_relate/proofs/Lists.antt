-- Lists read place by place, two at a time.
use Rattle.std.proofs.Common.{◌≡◌, ◌≢◌, ℕ, zero, suc, ◌<◌, List, [], ◌∷◌, ◌++◌, length, Option, Some, refl, sym, ap, subst, arith}
use Rattle.std.specs.Prelude.{slice_get, slice_index_or, slice_set}
use Rattle.sim_code.proofs.Lifts.{Both}

-- ---- one list

pub there_get : {A : Type 0} (xs : List A) (j : ℕ) → j < length xs → (x : A) × (slice_get xs j ≡ Some x)
there_get [] j lt = absurd (omega arith)
there_get (x ∷ xs) zero lt = (x, refl)
there_get (x ∷ xs) (suc j) lt = there_get xs j (omega arith)

pub set_same : {A : Type 0} (xs : List A) (i : ℕ) (old v : A) → slice_get xs i ≡ Some old → slice_get (slice_set xs i v) i ≡ Some v
set_same [] i old v h = absurd (cc)
set_same (x ∷ xs) zero old v h = refl
set_same (x ∷ xs) (suc i) old v h = set_same xs i old v h

pub set_other : {A : Type 0} (xs : List A) (i j : ℕ) (v : A) → j ≢ i → slice_get (slice_set xs i v) j ≡ slice_get xs j
set_other [] i j v h = refl
set_other (x ∷ xs) zero zero v h = absurd (h refl)
set_other (x ∷ xs) zero (suc j) v h = refl
set_other (x ∷ xs) (suc i) zero v h = refl
set_other (x ∷ xs) (suc i) (suc j) v h = set_other xs i j v (λ e. h (ap suc e))

pub append_before : {A : Type 0} (xs : List A) (y : A) (j : ℕ) → j < length xs → slice_get (xs ++ y ∷ []) j ≡ slice_get xs j
append_before [] y j h = absurd (omega arith)
append_before (x ∷ xs) y zero h = refl
append_before (x ∷ xs) y (suc j) h = append_before xs y j (omega arith)

pub append_at : {A : Type 0} (xs : List A) (y : A) → slice_get (xs ++ y ∷ []) (length xs) ≡ Some y
append_at [] y = refl
append_at (x ∷ xs) y = append_at xs y

-- what is there is read, whatever stands for nothing
pub read_there : {A : Type 0} (xs : List A) (j : ℕ) (x d : A) → slice_get xs j ≡ Some x → slice_index_or xs j d ≡ x
read_there [] j x d e = absurd (cc)
read_there (y ∷ xs) zero x d e = cc (e)
read_there (y ∷ xs) (suc j) x d e = read_there xs j x d e

-- ---- two lists

module _ {A B : Type 0} where
  -- lists that are related place by place are equally long
  pub same_length : (P : A → B → Type 0) (xs : List A) (ys : List B) → ((j : ℕ) → Both P (slice_get xs j) (slice_get ys j)) → length xs ≡ length ys
  same_length P [] [] all = refl
  same_length P [] (b ∷ ys) all = absurd (all 0)
  same_length P (a ∷ xs) [] all = absurd (all 0)
  same_length P (a ∷ xs) (b ∷ ys) all = ap suc (same_length P xs ys (λ j. all (suc j)))

  -- Related by their places too: one more on each.
  pub append_both : (P : ℕ → A → B → Type 0) (xs : List A) (ys : List B) (x : A) (y : B) → ((j : ℕ) → Both (P j) (slice_get xs j) (slice_get ys j)) → P (length xs) x y → (j : ℕ) → Both (P j) (slice_get (xs ++ x ∷ []) j) (slice_get (ys ++ y ∷ []) j)
  append_both P [] [] x y all here zero = here
  append_both P [] [] x y all here (suc j) = tt
  append_both P [] (b ∷ ys) x y all here j = absurd (all 0)
  append_both P (a ∷ xs) [] x y all here j = absurd (all 0)
  append_both P (a ∷ xs) (b ∷ ys) x y all here zero = all 0
  append_both P (a ∷ xs) (b ∷ ys) x y all here (suc j) = append_both (λ k. P (suc k)) xs ys x y (λ k. all (suc k)) here j

  -- a write at the same place
  pub set_both : (P : ℕ → A → B → Type 0) (xs : List A) (ys : List B) (i : ℕ) (x : A) (y : B) → ((j : ℕ) → Both (P j) (slice_get xs j) (slice_get ys j)) → P i x y → (j : ℕ) → Both (P j) (slice_get (slice_set xs i x) j) (slice_get (slice_set ys i y) j)
  set_both P [] [] i x y all here j = tt
  set_both P [] (b ∷ ys) i x y all here j = absurd (all 0)
  set_both P (a ∷ xs) [] i x y all here j = absurd (all 0)
  set_both P (a ∷ xs) (b ∷ ys) zero x y all here zero = here
  set_both P (a ∷ xs) (b ∷ ys) zero x y all here (suc j) = all (suc j)
  set_both P (a ∷ xs) (b ∷ ys) (suc i) x y all here zero = all 0
  set_both P (a ∷ xs) (b ∷ ys) (suc i) x y all here (suc j) = set_both (λ k. P (suc k)) xs ys i x y (λ k. all (suc k)) here j

  -- reads that have a value where nothing is
  pub read_or : (P : ℕ → A → B → Type 0) (x : A) (y : B) → ((j : ℕ) → P j x y) → (xs : List A) (ys : List B) → ((j : ℕ) → Both (P j) (slice_get xs j) (slice_get ys j)) → (j : ℕ) → P j (slice_index_or xs j x) (slice_index_or ys j y)
  read_or P x y none [] [] all j = none j
  read_or P x y none [] (b ∷ ys) all j = absurd (all 0)
  read_or P x y none (a ∷ xs) [] all j = absurd (all 0)
  read_or P x y none (a ∷ xs) (b ∷ ys) all zero = all 0
  read_or P x y none (a ∷ xs) (b ∷ ys) all (suc j) = read_or (λ k. P (suc k)) x y (λ k. none (suc k)) xs ys (λ k. all (suc k)) j

module _ {A B : Type 0} (P : A → B → Type 0) where
  pub both_as : (x x' : Option A) (y y' : Option B) → x' ≡ x → y' ≡ y → Both P x y → Both P x' y'
  both_as x x' y y' ex ey b = subst (λ z. Both P z y') (sym ex) (subst (λ z. Both P x z) (sym ey) b)
