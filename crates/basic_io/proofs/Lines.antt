-- Lines of a list of bytes.
use Rattle.std.proofs.Common.{◌≡◌, ℕ, Bool, not, cond, ltb, List, length, Option, Some, None, unwrap_or, arith}
use Rattle.std.specs.List.{position_or_len}
use Rattle.std.proofs.lemmas.Bool.Decides.{nat_tests}
use Rattle.std.proofs.lemmas.List.Sums.{prefix_len-le-length}

-- where a line ends, by what `position` found
pub line_end : (p : ℕ → Bool) (xs : List ℕ) (found : Option ℕ) (n : ℕ) → found ≡ cond (ltb (position_or_len p xs) (length xs)) (Some (position_or_len p xs)) None → n ≡ unwrap_or found (length xs) → n ≡ position_or_len p xs
line_end p xs found n e f =
    let short = prefix_len-le-length (λ (x : ℕ). not (p x)) xs in
    grind (arith, nat_tests)
