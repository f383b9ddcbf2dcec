-- The length of a field.
use Rattle.std.proofs.Common.{◌≡◌, ℕ, ◌-◌, ◌++◌, Bool, true, false, cond, List, ℤ, length, replicate, nat_le, refl, ◌∙◌, arith}
use borrow.Author.Tests.{leb-true}
use Rattle.std.proofs.lemmas.List.{length-append, length-replicate}
use Rattle.std.specs.Fmt.{signed_decimal}
use Rattle.sim_values.specs.Texts.{right_justified}
use Rattle.text_objects.specs.Frames.{field}

length_right_justified : (n : ℕ) (cs : List ℕ) → length (right_justified n cs) ≡ n
length_right_justified n cs = fits (nat_le (length cs) n) refl
  where
    fits : (b : Bool) → nat_le (length cs) n ≡ b → length (cond b (replicate (n - length cs) 32 ++ cs) (replicate n 42)) ≡ n
    fits true e = let blanks : List ℕ = replicate (n - length cs) 32 in length-append blanks cs ∙ omega (arith, length-replicate {A = ℕ} (n - length cs) 32, leb-true (length cs) n e)
    fits false e = length-replicate {A = ℕ} n 42

pub length_field : (n : ℕ) (i : ℤ) → length (field n i) ≡ n
unfolding field
length_field n i = length_right_justified n (signed_decimal i)
