-- Trailing blanks, from the end of a list.
use Rattle.std.proofs.Common.{◌≡◌, ℕ, suc, ◌+◌, List, [], ◌∷◌, ◌++◌, ◌==◌, ◌&&◌, cond, length, refl, ap, ◌∙◌, arith}
use Rattle.std.proofs.lemmas.Bool.Decides.{nat_tests}
use Rattle.sim_values.specs.Texts.{content_length}

pub content_length-push_blank : (xs : List ℕ) → content_length (xs ++ 32 ∷ []) ≡ content_length xs
content_length-push_blank [] = refl
content_length-push_blank (x ∷ xs) = ap (λ (n : ℕ). cond (n == 0 && x == 32) 0 (suc n)) (content_length-push_blank xs)

one_more : (n x : ℕ) → cond (n + 1 == 0 && x == 32) 0 (suc (n + 1)) ≡ suc n + 1
one_more n x = grind (arith, nat_tests)

last_one : (c : ℕ) → (c ≡ 32 → ⊥) → cond (0 == 0 && c == 32) 0 (suc 0) ≡ 0 + 1
last_one c other = grind (arith, nat_tests)

pub content_length-push_other : (xs : List ℕ) (c : ℕ) → (c ≡ 32 → ⊥) → content_length (xs ++ c ∷ []) ≡ length xs + 1
content_length-push_other [] c other = last_one c other
content_length-push_other (x ∷ xs) c other =
    ap (λ (n : ℕ). cond (n == 0 && x == 32) 0 (suc n)) (content_length-push_other xs c other) ∙ one_more (length xs) x
