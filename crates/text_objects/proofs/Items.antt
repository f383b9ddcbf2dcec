-- Integers in texts: the lengths of what is read, and the value of digits up to a limit.
use Rattle.std.proofs.Common.{◌≡◌, ℕ, zero, suc, ◌+◌, ◌-◌, ◌*◌, ◌<◌, ◌≤◌, min, Bool, true, false, cond, ◌==◌, ◌||◌, List, [], ◌∷◌, length, take, get_or, refl, subst, arith}
use Rattle.std.proofs.lemmas.Bool.Decides.{nat_tests}
use Rattle.std.specs.Char.{is_ascii_digit, digit_value}
use Rattle.std.specs.List.{prefix_len, AllPass}
use Rattle.sim_values.specs.Texts.{is_separator, after_separators, after_sign}

cond_le : (b : Bool) (m n k : ℕ) → m ≤ k → n ≤ k → cond b m n ≤ k
cond_le true m n k p q = p
cond_le false m n k p q = q

cond_length : (b : Bool) (xs ys : List ℕ) (k : ℕ) → length xs ≤ k → length ys ≤ k → length (cond b xs ys) ≤ k
cond_length true xs ys k p q = p
cond_length false xs ys k p q = q

length-after_separators-le : (cs : List ℕ) → length (after_separators cs) ≤ length cs
length-after_separators-le [] = omega arith
length-after_separators-le (c ∷ cs) =
    let less = length-after_separators-le cs in
    cond_length (is_separator c) (after_separators cs) (c ∷ cs) (length (c ∷ cs)) (omega arith) (omega arith)

length-after_sign-le : (cs : List ℕ) → length (after_sign cs) ≤ length cs
length-after_sign-le [] = omega arith
length-after_sign-le (c ∷ cs) = cond_length (c == 43 || c == 45) cs (c ∷ cs) (length (c ∷ cs)) (omega arith) (omega arith)

-- what is read after separators, a sign and separators is no longer than the whole
pub length-unsigned-le : (cs : List ℕ) → length (after_separators (after_sign (after_separators cs))) ≤ length cs
length-unsigned-le cs =
    omega (arith, length-after_separators-le cs, length-after_sign-le (after_separators cs), length-after_separators-le (after_sign (after_separators cs)))

-- the leading elements that pass a test all pass it
pub prefix_passes : (p : ℕ → Bool) (xs : List ℕ) → AllPass p (take (prefix_len p xs) xs)
prefix_passes p [] = λ k d within. absurd (omega arith)
prefix_passes p (x ∷ xs) = at_first (prefix_passes p xs) (1 + prefix_len p xs) (omega arith) (p x) refl
  where
    at_first : AllPass p (take (prefix_len p xs) xs) → (n : ℕ) → n ≡ suc (prefix_len p xs) → (b : Bool) → p x ≡ b → (k d : ℕ) → k < length (take (cond b n 0) (x ∷ xs)) → p (get_or (take (cond b n 0) (x ∷ xs)) k d) ≡ true
    at_first others zero is b e k d within = absurd (omega arith)
    at_first others (suc n) is true e zero d within = e
    at_first others (suc n) is true e (suc k) d within =
        let same : prefix_len p xs ≡ n = omega arith in
        let P : ℕ → Type 0 = λ m. AllPass p (take m xs) in
        subst P same others k d (omega arith)
    at_first others (suc n) is false e k d within = absurd (omega arith)

-- one digit more, each step cut at the limit
pub capped_step : (v d m : ℕ) → min (min (min v m * 10) m + d) m ≡ min (v * 10 + d) m
capped_step v d m = omega arith

pub digit_value-digit : (c : ℕ) → is_ascii_digit c ≡ true → digit_value c ≡ c - 48
digit_value-digit c digit = grind (arith, nat_tests)

pub digit_bounds : (c : ℕ) → is_ascii_digit c ≡ true → (48 ≤ c) × (c ≤ 57)
digit_bounds c digit = grind (arith, nat_tests)
