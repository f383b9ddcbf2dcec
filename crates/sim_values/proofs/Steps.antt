-- The test of a step element where the controlled variable is above the limit.
use Rattle.std.proofs.Common.{◌≡◌, ℕ, zero, suc, ◌*◌, ◌<◌, true, false, ℤ, pos, negsuc, neg_ℤ, ◌-ℤ◌, ◌*ℤ◌, ◌<ℤ◌, int_le, refl, sym, ◌∙◌, arith, leb}
use Rattle.std.proofs.lemmas.Int.{ints}
use Rattle.std.proofs.lemmas.Bool.Decides.{nat_tests}
use Rattle.sim_values.specs.Operators.{step_goes_on}

negative_le : (k : ℕ) → int_le (neg_ℤ (pos k)) (pos 0) ≡ true
negative_le zero = refl
negative_le (suc k) = refl

positive_le : (k : ℕ) → 0 < k → leb k 0 ≡ false
positive_le zero some = grind (arith, nat_tests)
positive_le (suc k) some = grind (arith, nat_tests)

zero_le : (k : ℕ) → k ≡ 0 → leb k 0 ≡ true
zero_le k none = rw none refl

-- a product with a positive factor has the sign of the other one
product_sign : (d e : ℤ) → pos 0 <ℤ e → int_le (d *ℤ e) (pos 0) ≡ int_le d (pos 0)
product_sign (pos zero) (pos n) above = zero_le (0 * n) (grind arith)
product_sign (pos (suc m)) (pos zero) above = absurd (omega (arith, ints))
product_sign (pos (suc m)) (pos (suc n)) above = positive_le (suc m * suc n) (grind arith) ∙ sym (positive_le (suc m) (grind arith))
product_sign (negsuc m) (pos n) above = negative_le (suc m * n)
product_sign d (negsuc n) above = absurd (omega (arith, ints))

pub above_limit : (d c limit : ℤ) → limit <ℤ c → step_goes_on d c limit ≡ int_le d (pos 0)
above_limit d c limit above = product_sign d (c -ℤ limit) (omega (arith, ints))
