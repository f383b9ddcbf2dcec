-- Which thunk is being written.
use Rattle.std.proofs.Common.{◌≡◌, ◌≢◌, ◌<◌, ◌+◌, ℕ, zero, suc, List, [], ◌∷◌, ◌++◌, length, Option, Some, None, refl, sym, ap, ◌∙◌, arith}
use Rattle.std.specs.Prelude.{slice_set}
use Rattle.sim_code.specs.declared.code.ThunkRecord.{ThunkRecord}
use Rattle.codegen_expr.specs.Drafts.{open_from, open_if, open_thunk}

least_open : (m j k : ℕ) (xs : List ThunkRecord) → j < m → k < j → open_from m (Some j) xs ≡ Some k → ⊥
least_open m j k [] in' lt e = let same : j ≡ k = some_is j k e in omega (arith, lt, same)
  where
    some_is : (x y : ℕ) → Some x ≡ Some y → x ≡ y
    some_is x y h = cc
least_open m j k (x ∷ xs) in' lt e = by x.room (λ h. least_open (suc m) m k xs (omega arith) (omega (arith, in', lt)) h) (λ h. least_open (suc m) j k xs (omega (arith, in')) lt h) e
  where
    by : (r : ℕ) → (open_from (suc m) (Some m) xs ≡ Some k → ⊥) → (open_from (suc m) (Some j) xs ≡ Some k → ⊥) → open_from (suc m) (open_if r m (Some j)) xs ≡ Some k → ⊥
    by zero here there e = here e
    by (suc r) here there e = there e

none_open : (m k : ℕ) (o : Option ℕ) (xs : List ThunkRecord) → k < m → open_from m (Some k) xs ≡ Some k → open_from m o xs ≡ o
none_open m k o [] lt e = refl
none_open m k o (x ∷ xs) lt e = by x.room (λ h. none_open (suc m) k o xs (omega (arith, lt)) h) e
  where
    by : (r : ℕ) → (open_from (suc m) (Some k) xs ≡ Some k → open_from (suc m) o xs ≡ o) → open_from (suc m) (open_if r m (Some k)) xs ≡ Some k → open_from (suc m) (open_if r m o) xs ≡ o
    by zero more e = absurd (least_open (suc m) m k xs (omega arith) lt e)
    by (suc r) more e = more e

not_open : (r n : ℕ) (o : Option ℕ) → r ≢ 0 → open_if r n o ≡ o
not_open zero n o some' = absurd (some' refl)
not_open (suc r) n o some' = refl

last_from : (n : ℕ) (o : Option ℕ) (xs : List ThunkRecord) (x : ThunkRecord) → x.room ≡ 0 → open_from n o (xs ++ (x ∷ [])) ≡ Some (n + length xs)
last_from n o [] x none = let e : n ≡ n + 0 = omega arith in ap (λ z. open_if z n o) none ∙ ap Some e
last_from n o (y ∷ ys) x none = let e : suc n + length ys ≡ n + suc (length ys) = omega arith in last_from (suc n) (open_if y.room n o) ys x none ∙ ap Some e

-- a thunk that begins
pub open_last : (xs : List ThunkRecord) (x : ThunkRecord) → x.room ≡ 0 → open_thunk (xs ++ (x ∷ [])) ≡ Some (length xs)
unfolding open_thunk
open_last xs x none = let e : 0 + length xs ≡ length xs = omega arith in last_from 0 None xs x none ∙ ap Some e

closed_from : (n : ℕ) (o : Option ℕ) (xs more : List ThunkRecord) (x y : ThunkRecord) → x.room ≡ 0 → y.room ≢ 0 → open_from n o ((xs ++ (x ∷ [])) ++ more) ≡ Some (n + length xs) → open_from n o (slice_set ((xs ++ (x ∷ [])) ++ more) (length xs) y) ≡ open_from n o xs
closed_from n o [] more x y none some' e =
    let z : n + 0 ≡ n = omega arith in
    ap (λ u. open_from (suc n) u more) (not_open y.room n o some') ∙ none_open (suc n) n o more (omega arith) (sym (ap (λ u. open_from (suc n) (open_if u n o) more) none) ∙ e ∙ ap Some z)
closed_from n o (u ∷ us) more x y none some' e = let z : n + suc (length us) ≡ suc n + length us = omega arith in closed_from (suc n) (open_if u.room n o) us more x y none some' (e ∙ ap Some z)

-- a thunk that ends, behind those that were written inside
pub open_ended : (xs more : List ThunkRecord) (x y : ThunkRecord) → x.room ≡ 0 → y.room ≢ 0 → open_thunk ((xs ++ (x ∷ [])) ++ more) ≡ Some (length xs) → open_thunk (slice_set ((xs ++ (x ∷ [])) ++ more) (length xs) y) ≡ open_thunk xs
unfolding open_thunk
open_ended xs more x y none some' e = let z : length xs ≡ 0 + length xs = omega arith in closed_from 0 None xs more x y none some' (e ∙ ap Some z)

within_from : (n t : ℕ) (o : Option ℕ) (xs : List ThunkRecord) → ((u : ℕ) → o ≡ Some u → u < n) → open_from n o xs ≡ Some t → t < n + length xs
within_from n t o [] before e = let lt = before t e in omega (arith, lt)
within_from n t o (x ∷ xs) before e = let lt = within_from (suc n) t (open_if x.room n o) xs (next x.room) e in omega (arith, lt)
  where
    next : (r u : ℕ) → open_if r n o ≡ Some u → u < suc n
    next zero u e = let same : n ≡ u = some_is n u e in omega (arith, same)
      where
        some_is : (x y : ℕ) → Some x ≡ Some y → x ≡ y
        some_is x y h = cc
    next (suc r) u e = let lt = before u e in omega (arith, lt)

pub open_within : (xs : List ThunkRecord) (t : ℕ) → open_thunk xs ≡ Some t → t < length xs
unfolding open_thunk
open_within xs t e = let lt = within_from 0 t None xs (λ u h. absurd (cc)) e in omega (arith, lt)
