-- What `%` leaves is what the quotient leaves over.
use Rattle.std.proofs.Common.{◌≡◌, ℤ, ◌-ℤ◌, ◌*ℤ◌, int_div, int_rem, arith}
use Rattle.std.proofs.lemmas.Int.{ints, quot-rem}

pub int_rem-left_over : (a b : ℤ) → int_rem a b ≡ a -ℤ int_div a b *ℤ b
int_rem-left_over a b = omega (arith, ints, quot-rem a b)
