-- Arithmetic on the language's integers, which run from -2^63 to 2^63 - 1: the value over the unbounded integers where it
-- lies in that range, else integer overflow.
use Rattle.std.specs.Prelude.{zero, suc, Bool, ◌+◌, ◌-◌, ◌^◌, ℤ, pos, negsuc, neg_ℤ, ◌+ℤ◌, ◌-ℤ◌, ◌*ℤ◌, int_lt, nat_lt, ◌==◌, Result, Ok, Err, if◌then◌else◌, unsigned_abs, int_div}
use Rattle.std.specs.Int.{int_pow}
use Rattle.sim_base.specs.declared.run_error.RunError.{RunError}
use Rattle.sim_base.specs.declared.run_error.RunError.TheVariants.{IntegerOverflow, ZeroDivisor, BadExponent}

-- whether z is an integer of the language
abbrev pub is_integer : ℤ → Bool
is_integer (pos n) = nat_lt n (2 ^ 63)
is_integer (negsuc n) = nat_lt n (2 ^ 63)

-- z as a result: itself, or E1 where it lies outside the range
abbrev pub in_range : ℤ → Result ℤ RunError
in_range z = if is_integer z then Ok z else Err IntegerOverflow

-- `a + b`, `a - b` and `a * b`
abbrev pub sum_of : ℤ → ℤ → Result ℤ RunError
sum_of a b = in_range (a +ℤ b)

abbrev pub difference_of : ℤ → ℤ → Result ℤ RunError
difference_of a b = in_range (a -ℤ b)

abbrev pub product_of : ℤ → ℤ → Result ℤ RunError
product_of a b = in_range (a *ℤ b)

-- `-a` and `abs(a)`
abbrev pub negation_of : ℤ → Result ℤ RunError
negation_of a = in_range (neg_ℤ a)

abbrev pub absolute_of : ℤ → Result ℤ RunError
absolute_of a = in_range (pos (unsigned_abs a))

-- `a // b`, truncated toward zero: E2 where b is 0
abbrev pub quotient_of : ℤ → ℤ → Result ℤ RunError
quotient_of a b = if unsigned_abs b == 0 then Err ZeroDivisor else in_range (int_div a b)

-- `rem(a, b)`, which is a - (a // b) * b over the unbounded integers: E2 where b is 0
abbrev pub remainder_of : ℤ → ℤ → Result ℤ RunError
remainder_of a b = if unsigned_abs b == 0 then Err ZeroDivisor else Ok (a -ℤ int_div a b *ℤ b)

-- r moved by b where it is not 0 and its sign is not that of b
abbrev pub with_sign_of : ℤ → ℤ → ℤ
with_sign_of b (pos zero) = pos zero
with_sign_of (pos b) (pos (suc r)) = pos (suc r)
with_sign_of (pos b) (negsuc r) = negsuc r +ℤ pos b
with_sign_of (negsuc b) (pos (suc r)) = pos (suc r) +ℤ negsuc b
with_sign_of (negsuc b) (negsuc r) = negsuc r

-- `mod(a, b)`, the remainder that has the sign of b: E2 where b is 0
abbrev pub modulus_of : ℤ → ℤ → Result ℤ RunError
modulus_of a b = if unsigned_abs b == 0 then Err ZeroDivisor else Ok (with_sign_of b (a -ℤ int_div a b *ℤ b))

-- `a ** n`: E3 where the exponent is negative, and for 0 ** 0
abbrev pub power_of : ℤ → ℤ → Result ℤ RunError
power_of a (negsuc n) = Err BadExponent
power_of a (pos n) = if unsigned_abs a + n == 0 then Err BadExponent else in_range (int_pow a n)

-- `maxint` and `minint`
abbrev pub greatest : ℤ
greatest = pos (2 ^ 63 - 1)

abbrev pub least : ℤ
least = negsuc (2 ^ 63 - 1)

-- `sign(a)`: -1, 0 or 1
abbrev pub sign_of : ℤ → ℤ
sign_of (pos zero) = pos 0
sign_of (pos (suc n)) = pos 1
sign_of (negsuc n) = negsuc 0

-- `min(a, b)` and `max(a, b)`
abbrev pub smaller_of : ℤ → ℤ → ℤ
smaller_of a b = if int_lt b a then b else a

abbrev pub greater_of : ℤ → ℤ → ℤ
greater_of a b = if int_lt b a then a else b
