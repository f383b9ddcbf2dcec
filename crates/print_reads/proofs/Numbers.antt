-- Decimal numbers are read as what they write.
use Rattle.std.proofs.Common.{◌≡◌, ℕ, ◌+◌, ◌*◌, ◌/◌, ◌%◌, ◌^◌, ◌<◌, ◌≤◌, Bool, true, false, List, [], ◌∷◌, ◌++◌, length, drop, refl, ap, ◌∙◌, arith, pos, length-append, mod-lt, zero-add, Option, Some, None}
use Rattle.std.proofs.lemmas.Bool.{false≢true}
use Rattle.std.proofs.lemmas.Bool.Decides.{nat_tests}
use Rattle.std.proofs.lemmas.Fmt.{decimal_by_steps, length-decimal-le}
use Rattle.std.proofs.lemmas.List.{drop_at}
use Rattle.std.proofs.lemmas.List.Sums.{fold-append}
use Rattle.std.specs.Fmt.{decimal}
use Rattle.std.specs.List.{fold, list_all, prefix_len}
use Rattle.std.specs.Prelude.{if◌then◌else◌, nat_eq, nat_lt, slice_index, ◌&&◌, ◌||◌}
use Rattle.sim_base.specs.Lexeme.{whole_number}
use Rattle.sim_base.specs.declared.rule.Rule.TheVariants as x
use Rattle.sim_lexer.specs.Bytes.{digit_value, is_digit, is_digit_of}
use Rattle.sim_lexer.specs.Constants.{Code, closed_form, code_form, integer, number, number_in, number_value, one_more, radix, with_radix}
use Rattle.sim_lexer.specs.Piece.{Lexeme as LexemePiece, Fault}
use Rattle.sim_lexer.specs.Pieces.{piece}
use Rattle.print_reads.proofs.Behind.{Breaks, no_digit, no_radix, no_real_behind}
use Rattle.print_reads.proofs.Fronts.{number-piece, passes_all, takes_all}

-- bytes that write a number
pub record Digits (value : ℕ) (bytes : List ℕ) : Type 0 where
  pub some : 0 < length bytes
  pub first : is_digit (slice_index bytes 0) ≡ true
  pub all : list_all (is_digit_of 10) bytes ≡ true
  pub is : fold (one_more 10) 0 bytes ≡ value

all-append : (p : ℕ → Bool) (xs ys : List ℕ) → list_all p xs ≡ true → list_all p ys ≡ true → list_all p (xs ++ ys) ≡ true
all-append p [] ys a b = b
all-append p (x ∷ xs) ys a b = by (p x) refl a (λ others. all-append p xs ys others b)
  where
    by : (c : Bool) → p x ≡ c → (c && list_all p xs) ≡ true → (list_all p xs ≡ true → list_all p (xs ++ ys) ≡ true) → (p x && list_all p (xs ++ ys)) ≡ true
    by true is others behind = ap (λ c. c && list_all p (xs ++ ys)) is ∙ behind others
    by false is others behind = absurd (false≢true others)

digit_is : (n : ℕ) → n < 10 → digit_value (48 + n) ≡ n
digit_is n small = grind (arith, nat_tests)

digit_of : (n : ℕ) → n < 10 → is_digit_of 10 (48 + n) ≡ true
digit_of n small = grind (arith, nat_tests)

is_a_digit : (n : ℕ) → n < 10 → is_digit (48 + n) ≡ true
is_a_digit n small = grind (arith, nat_tests)

one_digit : (n : ℕ) → n < 10 → Digits n ((48 + n) ∷ [])
one_digit n small = record {
  some = omega arith;
  first = is_a_digit n small;
  all = ap (λ b. b && true) (digit_of n small);
  is = zero-add (digit_value (48 + n)) ∙ digit_is n small;
}

first-append : (xs ys : List ℕ) → 0 < length xs → slice_index (xs ++ ys) 0 ≡ slice_index xs 0
first-append [] ys some = absurd (omega arith)
first-append (x ∷ xs) ys some = refl

more_digits : (n : ℕ) (bytes : List ℕ) → 10 ≤ n → Digits (n / 10) bytes → Digits n (bytes ++ ((48 + n % 10) ∷ []))
more_digits n bytes large d =
    let small : n % 10 < 10 = mod-lt n (omega arith) in
    record {
      some = omega (arith, length-append bytes ((48 + n % 10) ∷ []), d.some);
      first = ap is_digit (first-append bytes ((48 + n % 10) ∷ []) d.some) ∙ d.first;
      all = all-append (is_digit_of 10) bytes ((48 + n % 10) ∷ []) d.all (ap (λ b. b && true) (digit_of (n % 10) small));
      is =
          fold-append (one_more 10) 0 bytes ((48 + n % 10) ∷ [])
          ∙ ap (λ v. v * 10 + digit_value (48 + n % 10)) d.is
          ∙ ap (λ v. n / 10 * 10 + v) (digit_is (n % 10) small)
          ∙ omega arith;
    }

pub digits : (n : ℕ) → n < 2 ^ 64 → Digits n (decimal n)
digits = decimal_by_steps Digits one_digit more_digits

-- ---- integer constants

below : (n : ℕ) → n < 2 ^ 63 → nat_lt n (2 ^ 63) ≡ true
below n small = grind (arith, nat_tests)

read-integer : (n : ℕ) (bytes rest : List ℕ) → Digits n bytes → n < 2 ^ 63 → Breaks rest → integer 10 bytes (length bytes) rest ≡ LexemePiece (whole_number (pos n)) (length bytes)
unfolding integer number_value
read-integer n bytes rest d small breaks =
    ap (λ b. if b then Fault x.RealConstant else if nat_lt (fold (one_more 10) 0 bytes) (2 ^ 63) then LexemePiece (whole_number (pos (fold (one_more 10) 0 bytes))) (length bytes) else Fault x.IntegerTooLarge) (no_real_behind rest breaks)
    ∙ ap (λ v. if nat_lt v (2 ^ 63) then LexemePiece (whole_number (pos v)) (length bytes) else Fault x.IntegerTooLarge) d.is
    ∙ ap (λ b. if b then LexemePiece (whole_number (pos n)) (length bytes) else Fault x.IntegerTooLarge) (below n small)

in_no_base : (base : Option ℕ) (bytes rest : List ℕ) → Breaks rest → number_in base bytes rest ≡ integer 10 bytes (length bytes) rest
in_no_base None bytes rest breaks = refl
in_no_base (Some base) bytes rest breaks =
    ap (λ (ds : List ℕ). if nat_eq (length ds) 0 then integer 10 bytes (length bytes) rest else with_radix base bytes ds rest) (no_radix base rest breaks)

read-number : (n : ℕ) (bytes rest : List ℕ) → Digits n bytes → n < 2 ^ 63 → Breaks rest → number (bytes ++ rest) ≡ LexemePiece (whole_number (pos n)) (length bytes)
unfolding number
read-number n bytes rest d small breaks =
    let stops = no_digit rest breaks in
    ap (λ (ds : List ℕ). number_in (radix ds) ds (drop (prefix_len (is_digit_of 10) (bytes ++ rest)) (bytes ++ rest))) (takes_all (is_digit_of 10) bytes rest d.all stops)
    ∙ ap (λ k. number_in (radix bytes) bytes (drop k (bytes ++ rest))) (passes_all (is_digit_of 10) bytes rest d.all stops)
    ∙ ap (number_in (radix bytes) bytes) (drop_at bytes rest (length bytes) refl)
    ∙ in_no_base (radix bytes) bytes rest breaks
    ∙ read-integer n bytes rest d small breaks

front-number : (n : ℕ) (bytes rest : List ℕ) → Digits n bytes → n < 2 ^ 63 → Breaks rest → (b : Bool) → piece b (bytes ++ rest) ≡ LexemePiece (whole_number (pos n)) (length bytes)
front-number n [] rest d small breaks b = absurd (false≢true d.first)
front-number n (byte ∷ bytes) rest d small breaks b = number-piece b byte (bytes ++ rest) d.first ∙ read-number n (byte ∷ bytes) rest d small breaks

wider : (n : ℕ) → n < 2 ^ 63 → n < 2 ^ 64
wider n small = omega arith

pub decimal-piece : (n : ℕ) → n < 2 ^ 63 → (rest : List ℕ) → Breaks rest → (b : Bool) → piece b (decimal n ++ rest) ≡ LexemePiece (whole_number (pos n)) (length (decimal n))
decimal-piece n small rest breaks b = front-number n (decimal n) rest (digits n (wider n small)) small breaks b

-- ---- a byte by its code

byte_wide : (n : ℕ) → n < 256 → n < 2 ^ 64
byte_wide n small = omega arith

short : (n : ℕ) → n < 256 → length (decimal n) ≤ 3
short n small = length-decimal-le 3 n (omega arith) (omega arith) (byte_wide n small)

no_other_length : (size : ℕ) → 0 < size → size ≤ 3 → (nat_eq size 0 || nat_lt 3 size || false) ≡ false
no_other_length size some few = grind (arith, nat_tests)

small_byte : (n : ℕ) → n < 256 → nat_lt n 256 ≡ true
small_byte n small = grind (arith, nat_tests)

closed : (n : ℕ) (bytes : List ℕ) → Digits n bytes → n < 256 → length bytes ≤ 3 → closed_form bytes 33 ≡ Some (record { byte = n; size = length bytes + 2 })
unfolding number_value
closed n bytes d small few =
    ap (λ b. if b then None else if nat_lt (fold (one_more 10) 0 bytes) 256 then Some (record { byte = fold (one_more 10) 0 bytes; size = length bytes + 2 }) else None) (no_other_length (length bytes) d.some few)
    ∙ ap (λ v. if nat_lt v 256 then Some (record { byte = v; size = length bytes + 2 }) else None) d.is
    ∙ ap (λ b. if b then Some (record { byte = n; size = length bytes + 2 }) else None) (small_byte n small)

abbrev pub code_of : ℕ → Code
code_of n = record { byte = n; size = length (decimal n) + 2 }

pub coded-form : (n : ℕ) → n < 256 → (rest : List ℕ) → code_form (33 ∷ (decimal n ++ 33 ∷ rest)) ≡ Some (code_of n)
coded-form n small rest =
    let d = digits n (byte_wide n small) in
    ap (λ (ds : List ℕ). closed_form ds (slice_index (decimal n ++ 33 ∷ rest) (prefix_len (is_digit_of 10) (decimal n ++ 33 ∷ rest)))) (takes_all (is_digit_of 10) (decimal n) (33 ∷ rest) d.all refl)
    ∙ ap (λ k. closed_form (decimal n) (slice_index (decimal n ++ 33 ∷ rest) k)) (passes_all (is_digit_of 10) (decimal n) (33 ∷ rest) d.all refl)
    ∙ ap (closed_form (decimal n)) (at_end (decimal n) 33 rest)
    ∙ closed n (decimal n) d small (short n small)
  where
    at_end : (front : List ℕ) (byte : ℕ) (behind : List ℕ) → slice_index (front ++ byte ∷ behind) (length front) ≡ byte
    at_end [] byte behind = refl
    at_end (first ∷ front) byte behind = at_end front byte behind
