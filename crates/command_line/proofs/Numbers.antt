-- The number that a word of digits writes, as it is parsed.
use Rattle.std.proofs.Common.{◌^◌, ◌≡◌, ◌<◌, ◌≤◌, ℕ, true, false, ◌==◌, zero, suc, List, length, Some, Result, Ok, arith}
use Rattle.std.proofs.lemmas.Str.Parse.{IsNumeralModel, digits_value_short, numerals_by_value, parse_gives, tells_all_ascii_digits}
use Rattle.std.specs.Str.{all_ascii_digits}
use Rattle.std.specs.Str.Parse.{ParsesUnsigned, digits_value}
use Rattle.command_line.specs.Options.{number_of}

own : IsNumeralModel (λ ds. all_ascii_digits ds ≡ true) (digits_value 10)
own = numerals_by_value _ tells_all_ascii_digits

pub positive : (n : ℕ) → (n == 0) ≡ false → 0 < n
positive zero is = cc is
positive (suc n) is = omega arith

pub parses : {E : Type 0} (word : List ℕ) (r : Result ℕ E) → ParsesUnsigned 64 10 word r → all_ascii_digits word ≡ true → 0 < length word → length word ≤ 19 → r ≡ Ok (digits_value 10 word)
parses word r h digits some few =
    let small : digits_value 10 word < 10 ^ 19 = digits_value_short own word 19 digits few in
    parse_gives own 64 word r h digits some (omega (arith, small))

pub numeral : (word : List ℕ) → 0 < length word → length word ≤ 19 → all_ascii_digits word ≡ true → Some (digits_value 10 word) ≡ number_of word
numeral word some few digits = grind (arith, digits)
