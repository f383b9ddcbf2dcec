-- Powers by squaring: what one step of the loop keeps, and that a product that passes a limit is no more than the power.
use Rattle.std.proofs.Common.{◌≡◌, ℕ, zero, suc, ◌+◌, ◌*◌, ◌/◌, ◌%◌, ◌^◌, ◌<◌, ◌≤◌, sym, ap, ◌∙◌, arith}
use Rattle.std.proofs.lemmas.Nat.{pow-add, mul-pow}
use Rattle.std.proofs.Math.Nat.{pow-zero, pow-suc, pow-le-pow_right, mul-le-mul_left, mul-le-mul_right, one-mul, mul-zero}

pow-one : (s : ℕ) → s ^ 1 ≡ s
pow-one s = pow-suc s 0 ∙ ap (λ (n : ℕ). n * s) (pow-zero s) ∙ one-mul s

-- one step at an even and at an odd exponent, after what is done
pub times-pow-even : (p s r : ℕ) → r % 2 ≡ 0 → p * s ^ r ≡ p * (s * s) ^ (r / 2)
times-pow-even p s r even =
    let half : r ≡ r / 2 + r / 2 = omega arith in
    ap (λ (n : ℕ). p * n) (ap (λ (k : ℕ). s ^ k) half ∙ pow-add s (r / 2) (r / 2) ∙ sym (mul-pow s s (r / 2)))

pub times-pow-odd : (p s r : ℕ) → r % 2 ≡ 1 → p * s ^ r ≡ p * s * (s * s) ^ (r / 2)
times-pow-odd p s r odd =
    let half : r ≡ 1 + (r / 2 + r / 2) = omega arith in
    let split : s ^ r ≡ s * (s * s) ^ (r / 2) =
    ap (λ (k : ℕ). s ^ k) half
    ∙ pow-add s 1 (r / 2 + r / 2)
    ∙ ap (λ (n : ℕ). n * s ^ (r / 2 + r / 2)) (pow-one s)
    ∙ ap (λ (n : ℕ). s * n) (pow-add s (r / 2) (r / 2) ∙ sym (mul-pow s s (r / 2)))
    in ap (λ (n : ℕ). p * n) split ∙ omega arith

le-power : (s r : ℕ) → 0 < s → 0 < r → s ≤ s ^ r
le-power s r positive some =
    let step : s ^ 1 ≤ s ^ r = pow-le-pow_right positive some in
    omega (arith, pow-one s)

-- where the whole power is below a limit, so is what is done times the base
pub product-below : (p s r n : ℕ) → 0 < n → 0 < r → p * s ^ r < n → p * s < n
product-below p zero r n limit some below = omega (arith, mul-zero p)
product-below p (suc s) r n limit some below =
    let more = mul-le-mul_left p (le-power (suc s) r (omega arith) some) in omega (arith, more)

-- and so is the next square, where some power of it is left
pub square-below : (p s r n : ℕ) → (0 < s → 0 < p) → 0 < n → 0 < r → p * (s * s) ^ r < n → s * s < n
square-below p zero r n positive limit some below = omega (arith, mul-zero zero)
square-below p (suc s) r n positive limit some below =
    let once : 0 < p = positive (omega arith) in
    let more = le-power (suc s * suc s) r (omega arith) some in
    let times = mul-le-mul_right {m = 1} {n = p} ((suc s * suc s) ^ r) once in
    omega (arith, more, times)

-- the loop's invariant after `rest` is halved, on either branch
pub record Halved (power square rest whole : ℕ) : Type 0 where
  pub product : power * (square * square) ^ (rest / 2) ≡ whole
  pub positive : 0 < square → 0 < power
  pub fits : power < 2 ^ 64

pub halved-even : (p s r whole q : ℕ) → p * s ^ r ≡ whole → (0 < s → 0 < p) → r % 2 ≡ 0 → q ≡ p → q < 2 ^ 64 → Halved q s r whole
halved-even p s r whole q product positive even is fits = record {
  product = ap (λ (n : ℕ). n * (s * s) ^ (r / 2)) is ∙ sym (times-pow-even p s r even) ∙ product;
  positive = λ some. let first : 0 < p = positive some in omega arith;
  fits = fits;
}

pub halved-odd : (p s r whole q : ℕ) → p * s ^ r ≡ whole → (0 < s → 0 < p) → r % 2 ≡ 1 → q ≡ p * s → q < 2 ^ 64 → Halved q s r whole
halved-odd p s r whole q product positive odd is fits = record {
  product = ap (λ (n : ℕ). n * (s * s) ^ (r / 2)) is ∙ sym (times-pow-odd p s r odd) ∙ product;
  positive = λ some. let first : 0 < p = positive some in let both = mul-le-mul_right {m = 1} {n = p} s first in omega arith;
  fits = fits;
}
