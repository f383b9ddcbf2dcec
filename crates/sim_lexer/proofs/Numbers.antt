-- Numbers that digits write grow with each digit.
use Rattle.std.proofs.Common.{ℕ, ◌*◌, ◌≤◌, ◌<◌, List, [], ◌∷◌, arith}
use Rattle.std.proofs.Math.Nat.{le-mul_of_pos_right}
use Rattle.std.specs.List.{fold}
use Rattle.sim_lexer.specs.Constants.{one_more}

-- one more digit makes a number no smaller
one_more-ge : (base value digit : ℕ) → 0 < base → value ≤ one_more base value digit
one_more-ge base value digit some =
    let times : value ≤ value * base = le-mul_of_pos_right value some in omega (arith, times)

pub number-ge : (base value : ℕ) (digits : List ℕ) → 0 < base → value ≤ fold (one_more base) value digits
number-ge base value [] some = omega arith
number-ge base value (digit ∷ digits) some =
    let here : value ≤ one_more base value digit = one_more-ge base value digit some in
    let there : one_more base value digit ≤ fold (one_more base) (one_more base value digit) digits = number-ge base (one_more base value digit) digits some in
    omega (arith, here, there)
