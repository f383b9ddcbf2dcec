-- The number of an array's elements, counted up to a limit.
use Rattle.std.proofs.Common.{◌≡◌, ℕ, zero, suc, ◌*◌, ◌<◌, ◌≤◌, min, ℤ, List, [], ◌∷◌, ◌++◌, sym, ap, ◌∙◌, refl, ⊎_elim, arith}
use Rattle.std.proofs.Math.Nat.{mul_assoc, mul-le-mul, mul-zero, zero-mul}
use Rattle.std.proofs.lemmas.Bool.{cases_lt}
use Rattle.sim_values.specs.Words.{extent_of, element_count}

pub element_count-push : (xs : List (ℤ × ℤ)) (x : ℤ × ℤ) → element_count (xs ++ x ∷ []) ≡ element_count xs * extent_of x
element_count-push [] x = omega arith
element_count-push (y ∷ ys) x =
    ap (λ (n : ℕ). extent_of y * n) (element_count-push ys x) ∙ sym (mul_assoc (extent_of y) (element_count ys) (extent_of x))

le-product : (p e m : ℕ) → m ≤ p → 0 < e → m ≤ p * e
le-product p zero m large some = absurd (omega arith)
le-product p (suc e) m large some = grind (arith, mul-le-mul)

-- two numbers cut at a limit, multiplied and cut again, are their product cut at the limit
pub min-product : (p e m : ℕ) → 0 < m → min (min p m * min e m) m ≡ min (p * e) m
min-product zero e m limit = let none : min 0 m ≡ 0 = omega arith in rw none (omega (arith, zero-mul (min e m), zero-mul e))
min-product (suc p) zero m limit = let none : min 0 m ≡ 0 = omega arith in rw none (omega (arith, mul-zero (min (suc p) m), mul-zero (suc p)))
min-product (suc p) (suc e) m limit =
    ⊎_elim (λ small. ⊎_elim (λ little. within small little) (λ big. omega (arith, le-product (min (suc e) m) (min (suc p) m) m (omega arith) (omega arith), le-product (suc e) (suc p) m big (omega arith))) (cases_lt (suc e) m))
    (λ large. omega (arith, le-product (min (suc p) m) (min (suc e) m) m (omega arith) (omega arith), le-product (suc p) (suc e) m large (omega arith)))
    (cases_lt (suc p) m)
  where
    within : suc p < m → suc e < m → min (min (suc p) m * min (suc e) m) m ≡ min (suc p * suc e) m
    within small little =
        let first : min (suc p) m ≡ suc p = omega arith in
        let second : min (suc e) m ≡ suc e = omega arith in
        rw (first, second) refl
