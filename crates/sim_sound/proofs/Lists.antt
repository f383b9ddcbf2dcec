-- Lists read place by place.
use Rattle.std.proofs.Common.{◌≡◌, ◌≢◌, ℕ, zero, suc, ◌<◌, Bool, true, false, List, [], ◌∷◌, ◌++◌, length, Option, Some, None, ◌⊎◌, inl, inr, ⊎_elim, refl, ap, arith}
use Rattle.std.specs.Prelude.{◌==◌, if◌then◌else◌, slice_get, slice_set}

pub set_len : {A : Type 0} (xs : List A) (i : ℕ) (v : A) → length (slice_set xs i v) ≡ length xs
set_len [] i v = refl
set_len (x ∷ xs) zero v = refl
set_len (x ∷ xs) (suc i) v = ap suc (set_len xs i v)

pub set_same : {A : Type 0} (xs : List A) (i : ℕ) (old v : A) → slice_get xs i ≡ Some old → slice_get (slice_set xs i v) i ≡ Some v
set_same [] i old v h = absurd (cc)
set_same (x ∷ xs) zero old v h = refl
set_same (x ∷ xs) (suc i) old v h = set_same xs i old v h

pub set_other : {A : Type 0} (xs : List A) (i j : ℕ) (v : A) → j ≢ i → slice_get (slice_set xs i v) j ≡ slice_get xs j
set_other [] i j v h = refl
set_other (x ∷ xs) zero zero v h = absurd (h refl)
set_other (x ∷ xs) zero (suc j) v h = refl
set_other (x ∷ xs) (suc i) zero v h = refl
set_other (x ∷ xs) (suc i) (suc j) v h = set_other xs i j v (λ e. h (ap suc e))

pub append_before : {A : Type 0} (xs : List A) (y : A) (j : ℕ) → j < length xs → slice_get (xs ++ y ∷ []) j ≡ slice_get xs j
append_before [] y j h = absurd (omega arith)
append_before (x ∷ xs) y zero h = refl
append_before (x ∷ xs) y (suc j) h = append_before xs y j (omega arith)

pub append_at : {A : Type 0} (xs : List A) (y : A) → slice_get (xs ++ y ∷ []) (length xs) ≡ Some y
append_at [] y = refl
append_at (x ∷ xs) y = append_at xs y

pub there_is : {A : Type 0} (xs : List A) (j : ℕ) (x : A) → slice_get xs j ≡ Some x → j < length xs
there_is [] j x h = absurd (cc)
there_is (a ∷ xs) zero x h = omega arith
there_is (a ∷ xs) (suc j) x h = let e = there_is xs j x h in omega arith

pub there_get : {A : Type 0} (xs : List A) (j : ℕ) → j < length xs → (x : A) × (slice_get xs j ≡ Some x)
there_get [] j lt = absurd (omega arith)
there_get (x ∷ xs) zero lt = (x, refl)
there_get (x ∷ xs) (suc j) lt = there_get xs j (omega arith)

pub same_some : {A : Type 0} (o : Option A) (a b : A) → o ≡ Some a → o ≡ Some b → a ≡ b
same_some o a b e f = cc

pub no_some : {A : Type 0} (o : Option A) (a : A) → o ≡ None → o ≡ Some a → ⊥
no_some o a e f = cc

pub equal_numbers : (a b : ℕ) → a ≡ b → (a == b) ≡ true
equal_numbers a b e = grind (arith, e)

pub other_numbers : (a b : ℕ) → a ≢ b → (a == b) ≡ false
other_numbers a b e = grind (arith, e)

pub numbers_equal : (a b : ℕ) → (a == b) ≡ true → a ≡ b
numbers_equal a b e = grind (arith, e)

pub if_true : {A : Type 0} (b : Bool) (x y : A) → b ≡ true → (if b then x else y) ≡ x
if_true true x y e = refl
if_true false x y e = absurd (cc)

pub if_false : {A : Type 0} (b : Bool) (x y : A) → b ≡ false → (if b then x else y) ≡ y
if_false true x y e = absurd (cc)
if_false false x y e = refl

pub one_longer : {A : Type 0} (xs : List A) (x : A) → length (xs ++ x ∷ []) ≡ suc (length xs)
one_longer [] x = refl
one_longer (y ∷ xs) x = ap suc (one_longer xs x)

pub old_or_new : {A : Type 0} (xs : List A) (y : A) (j : ℕ) (x : A) → slice_get (xs ++ y ∷ []) j ≡ Some x → (slice_get xs j ≡ Some x) ⊎ ((j ≡ length xs) × (y ≡ x))
old_or_new [] y zero x e = inr (refl, same_some (Some y) y x refl e)
old_or_new [] y (suc j) x e = absurd (cc)
old_or_new (z ∷ xs) y zero x e = inl e
old_or_new (z ∷ xs) y (suc j) x e = ⊎_elim (λ old. inl old) (λ new. inr (ap suc new.0, new.1)) (old_or_new xs y j x e)
