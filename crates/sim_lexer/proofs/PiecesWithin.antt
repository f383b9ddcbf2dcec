-- What stands in front of the rest of a source takes at least one byte of it, and no more than there are.
use Rattle.sim_base.specs.declared.token.Lexeme.{Lexeme}
use Rattle.sim_base.specs.declared.token.TokenKind.{TokenKind}
use Rattle.sim_base.specs.declared.token.TokenKind.TheVariants as k
use Rattle.std.proofs.Common.{◌++◌, subst, length-append, ◌≡◌, ℕ, ◌+◌, ◌-◌, ◌<◌, ◌≤◌, Bool, true, false, List, [], ◌∷◌, zero, suc, Option, Some, None, length, drop, refl, sym, ap, length-drop, length-take, rules, arith}
use Rattle.std.proofs.lemmas.Bool.{false≢true}
use Rattle.std.proofs.lemmas.Bool.Decides.{nat_tests}
use Rattle.std.proofs.lemmas.List.Folds.{length-prefix_len}
use Rattle.std.proofs.lemmas.List.Quantifiers.{position-Some}
use Rattle.std.proofs.lemmas.List.Sums.{prefix_len-le-length}
use Rattle.std.specs.Char.{to_ascii_lowercase}
use Rattle.std.specs.Cmp.Lexicographic.{same_text}
use Rattle.std.specs.List.{position, prefix_len, starts_with, take_while}
use Rattle.std.specs.Prelude.{if◌then◌else◌, nat_eq, nat_lt, nat_le, ◌^◌, ◌&&◌, ◌||◌, codes, slice_index}
use Rattle.std.specs.Str.{bytes_eq}
use Rattle.sim_lexer.specs.Bytes.{is_digit, is_digit_of, is_in_line, is_letter, is_separator, is_word_byte}
use Rattle.sim_lexer.specs.Constants.{Code, character, code_form, coded_character, integer, is_real_behind, number, number_in, number_value, plain_character, radix, radix_digits}
use Rattle.sim_lexer.specs.Pieces.{begun_by, comment, comment_behind, comment_to, lower_word, percent_line, piece, with_comment, word, word_lexeme}
use Rattle.sim_lexer.specs.Signs.{sign_in, sign, signs_of_more, signs_of_one}
use Rattle.sim_lexer.specs.Within.{EndsWithin, IsPiece, IsWithin}
use Rattle.sim_lexer.specs.Words.{Row, is_left_out}
use Rattle.sim_lexer.specs.EndComments.{is_directive}
use Rattle.sim_lexer.specs.Piece.{Piece, Separator}
use Rattle.sim_lexer.specs.Spelling.{Writes, lexeme_writes, text_writes}
use Rattle.sim_lexer.proofs.TextLemmas.{content_within}
use Rattle.sim_lexer.proofs.EndCommentSteps.{end_comment-within}

-- one item or another, by a test
by_test : (b : Bool) (p q : Piece) (most : ℕ) → (b ≡ true → EndsWithin p most) → (b ≡ false → EndsWithin q most) → EndsWithin (if b then p else q) most
by_test true p q most here there = here refl
by_test false p q most here there = there refl

fits : (size most : ℕ) → 0 < size → size ≤ most → IsPiece size most
fits size most some within = record { some = some; within = within }

-- where the first byte is of a class, at least one is
first_passes : (p : ℕ → Bool) (byte : ℕ) (rest : List ℕ) → p byte ≡ true → 0 < prefix_len p (byte ∷ rest)
first_passes p byte rest passing = rw passing (omega arith)

-- a decimal digit is a digit of base ten
digit_of_ten : (byte : ℕ) → is_digit byte ≡ true → is_digit_of 10 byte ≡ true
digit_of_ten byte passing = grind (arith, nat_tests)

-- the bytes of a class in front, of which the first is one
class_piece : (p : ℕ → Bool) (byte : ℕ) (rest : List ℕ) → p byte ≡ true → IsPiece (prefix_len p (byte ∷ rest)) (length (byte ∷ rest))
class_piece p byte rest passing = fits _ _ (first_passes p byte rest passing) (prefix_len-le-length p (byte ∷ rest))

first_byte : (byte : ℕ) (rest : List ℕ) → IsPiece 1 (length (byte ∷ rest))
first_byte byte rest = fits _ _ (omega arith) (omega arith)

-- ---- lines, comments and words

in_line : (byte : ℕ) → nat_eq byte 37 ≡ true → is_in_line byte ≡ true
in_line byte percent = grind (arith, nat_tests)

within-percent : (byte : ℕ) (rest : List ℕ) → nat_eq byte 37 ≡ true → IsWithin (percent_line (byte ∷ rest)) (byte ∷ rest)
unfolding percent_line
within-percent byte rest percent =
    by_test (is_directive (byte ∷ rest)) _ _ _ (λ directive. tt) (λ empty. class_piece is_in_line byte rest (in_line byte percent))

within-comment : (all : List ℕ) → IsWithin (comment all) all
unfolding comment
within-comment all = by_place (position (λ byte. nat_eq byte 59) all) refl
  where
    by_place : (place : Option ℕ) → position (λ byte. nat_eq byte 59) all ≡ place → EndsWithin (comment_to place) (length all)
    by_place None is = tt
    by_place (Some place) is =
        let found = position-Some (λ byte. nat_eq byte 59) all place 0 is in
        fits _ _ (omega arith) (omega (arith, found.0))

word_begins : (byte : ℕ) → is_letter byte ≡ true → is_word_byte byte ≡ true
word_begins byte letter = ap (λ (b : Bool). b || is_digit byte || nat_eq byte 95) letter

within-behind : (kind : TokenKind) (behind : List ℕ) → comment_behind kind behind ≤ length behind
within-behind k.End behind = end_comment-within behind
within-behind _ behind = omega arith

within-lexeme : (lexeme : Lexeme) (byte : ℕ) (rest : List ℕ) → is_word_byte byte ≡ true → IsWithin (with_comment lexeme (prefix_len is_word_byte (byte ∷ rest)) (byte ∷ rest)) (byte ∷ rest)
within-lexeme lexeme byte rest passing =
    let all : List ℕ = byte ∷ rest in
    let size = prefix_len is_word_byte all in
    let letters = class_piece is_word_byte byte rest passing in
    let behind : comment_behind lexeme.kind (drop size all) ≤ length all - size = subst (λ n. comment_behind lexeme.kind (drop size all) ≤ n) (length-drop size all) (within-behind lexeme.kind (drop size all)) in
    fits _ _ (omega (arith, letters.some)) (omega (arith, letters.within, behind))

within-word : (byte : ℕ) (rest : List ℕ) → is_letter byte ≡ true → IsWithin (word (byte ∷ rest)) (byte ∷ rest)
unfolding word
within-word byte rest letter =
    by_test (bytes_eq (lower_word (byte ∷ rest)) (codes "comment")) _ _ _ (λ comment. within-comment (byte ∷ rest))
    (λ other. by_test (is_left_out (lower_word (byte ∷ rest))) _ _ _ (λ out. tt) (λ kept. within-lexeme (word_lexeme (lower_word (byte ∷ rest))) byte rest (word_begins byte letter)))

-- ---- numbers

within-integer : (base : ℕ) (digits : List ℕ) (size : ℕ) (behind : List ℕ) (most : ℕ) → IsPiece size most → EndsWithin (integer base digits size behind) most
unfolding integer
within-integer base digits size behind most short =
    by_test (is_real_behind behind) _ _ most (λ real. tt) (λ whole. by_test (nat_lt (number_value base digits) (2 ^ 63)) _ _ most (λ small. short) (λ large. tt))

-- the digits of a base stand behind an `R`
digits_behind : (base : ℕ) (behind : List ℕ) → nat_eq (length (radix_digits base behind)) 0 ≡ false → 1 + length (radix_digits base behind) ≤ length behind
digits_behind base [] some = absurd (false≢true (sym some))
digits_behind base (mark ∷ rest) some = by_mark (nat_eq (to_ascii_lowercase mark) 114) some
  where
    by_mark : (b : Bool) → nat_eq (length (if b then take_while (is_digit_of base) rest else [])) 0 ≡ false → 1 + length (if b then take_while (is_digit_of base) rest else []) ≤ length (mark ∷ rest)
    by_mark true more = omega (arith, length-prefix_len (is_digit_of base) rest, prefix_len-le-length (is_digit_of base) rest)
    by_mark false more = absurd (false≢true (sym more))

within-number_in : (base : Option ℕ) (whole behind : List ℕ) (most : ℕ) → 0 < length whole → length whole + length behind ≤ most → EndsWithin (number_in base whole behind) most
within-number_in None whole behind most some all = within-integer 10 whole (length whole) behind most (fits _ _ some (omega arith))
within-number_in (Some base) whole behind most some all =
    by_test (nat_eq (length (radix_digits base behind)) 0) _ _ most
    (λ none. within-integer 10 whole (length whole) behind most (fits _ _ some (omega arith)))
    (λ more. within-integer base (radix_digits base behind) _ _ most (fits _ _ (omega arith) (omega (arith, digits_behind base behind more))))

within-number : (byte : ℕ) (rest : List ℕ) → is_digit byte ≡ true → IsWithin (number (byte ∷ rest)) (byte ∷ rest)
unfolding number
within-number byte rest digit =
    let p = is_digit_of 10 in
    let all : List ℕ = byte ∷ rest in
    let count : length (take_while p all) ≡ prefix_len p all = length-prefix_len p all in
    let some : 0 < prefix_len p all = first_passes p byte rest (digit_of_ten byte digit) in
    let short : prefix_len p all ≤ length all = prefix_len-le-length p all in
    let left : length (drop (prefix_len p all) all) ≡ length all - prefix_len p all = length-drop (prefix_len p all) all in
    within-number_in (radix (take_while p all)) (take_while p all) (drop (prefix_len p all) all) (length all) (omega (arith, count, some)) (omega (arith, count, short, left))

-- ---- characters

-- a byte that is not 0 stands within
stands_within : (all : List ℕ) (place : ℕ) → nat_eq (slice_index all place) 39 ≡ true → place < length all
stands_within [] place quote = absurd (false≢true quote)
stands_within (byte ∷ rest) zero quote = omega arith
stands_within (byte ∷ rest) (suc place) quote = let there = stands_within rest place quote in omega arith

second : (a b : Bool) → (a && b) ≡ true → b ≡ true
second true b both = both
second false b both = absurd (false≢true both)

first : (a b : Bool) → (a && b) ≡ true → a ≡ true
first true b both = refl
first false b both = absurd (false≢true both)

within-plain : (all : List ℕ) → IsWithin (plain_character all) all
within-plain all =
    by_test (nat_le 32 (slice_index all 1) && nat_eq (slice_index all 2) 39) _ _ _
    (λ so. fits _ _ (omega arith) (omega (arith, stands_within all 2 (second _ _ so))))
    (λ other. tt)

within-coded : (form : Option Code) (all : List ℕ) → IsWithin (coded_character form all) all
within-coded None all = within-plain all
within-coded (Some form) all =
    by_test (nat_eq (slice_index all (1 + form.size)) 39) _ _ _
    (λ closed. fits _ _ (omega arith) (omega (arith, stands_within all (1 + form.size) closed)))
    (λ other. within-plain all)

within-character : (all : List ℕ) → IsWithin (character all) all
unfolding character
within-character all = within-coded (code_form (drop 1 all)) all

-- ---- signs

abbrev HasBytes : List Row → Type 0
HasBytes [] = Unit {0}
HasBytes (row ∷ rows) = (0 < length row.0) × HasBytes rows

sign_stands : (all sign : List ℕ) → starts_with nat_eq all sign ≡ true → length sign ≤ length all
sign_stands all sign stands =
    omega (arith, ap length (same_text sign _ (sym stands)), length-take (length sign) all)

within-sign_in : (rows : List Row) (all : List ℕ) (other : Piece) → HasBytes rows → IsWithin other all → IsWithin (sign_in rows all other) all
within-sign_in [] all other some there = there
within-sign_in (row ∷ rows) all other some there =
    by_test (starts_with nat_eq all row.0) _ _ _ (λ stands. fits _ _ some.0 (sign_stands all row.0 stands)) (λ none. within-sign_in rows all other some.1 there)

within-sign : (all : List ℕ) → IsWithin (sign all) all
unfolding sign
within-sign all =
    by_test (nat_eq (slice_index all 0) 46 && is_digit (slice_index all 1)) _ _ _ (λ real. tt)
    (λ sign. within-sign_in signs_of_more all _ (search rules) (within-sign_in signs_of_one all _ (search rules) tt))

-- ---- all of them

within-begun : (byte : ℕ) (rest : List ℕ) → IsWithin (begun_by byte (byte ∷ rest)) (byte ∷ rest)
unfolding begun_by
within-begun byte rest =
    let all : List ℕ = byte ∷ rest in
    by_test (is_separator byte) _ _ _ (λ blank. first_byte byte rest)
    (λ q. by_test (nat_eq byte 33) _ _ _ (λ mark. within-comment all)
    (λ q. by_test (is_letter byte) _ _ _ (λ letter. within-word byte rest letter)
    (λ q. by_test (is_digit byte) _ _ _ (λ digit. within-number byte rest digit)
    (λ q. by_test (nat_eq byte 34) _ _ _ (λ quote. tt)
    (λ q. by_test (nat_eq byte 39) _ _ _ (λ apostrophe. within-character all) (λ q. within-sign all))))))

pub within-piece : (begins_line : Bool) (all : List ℕ) → IsWithin (piece begins_line all) all
unfolding piece
within-piece begins_line [] = refl
within-piece begins_line (byte ∷ rest) =
    by_test (begins_line && nat_eq byte 37) _ _ _ (λ line. within-percent byte rest (second _ _ line)) (λ q. within-begun byte rest)

-- ---- what is written in front of the rest

pub separator-some : (begins_line : Bool) (all separator : List ℕ) → piece begins_line all ≡ Separator (length separator) → 0 < length separator
separator-some begins_line all separator is = let within = subst (λ p. IsWithin p all) is (within-piece begins_line all) in within.some

pub lexeme-some : (begins_line : Bool) (all written rest : List ℕ) {lexeme : Lexeme} → Writes (piece begins_line all) written rest lexeme → 0 < length written
lexeme-some begins_line all written rest (lexeme_writes is) = let within = subst (λ p. IsWithin p all) is (within-piece begins_line all) in within.some
lexeme-some begins_line all written rest (text_writes is d) =
    omega (arith, content_within d, length-drop 1 (written ++ rest), length-append written rest)
