-- What a source of bytes spells can be written.
use Rattle.std.proofs.Common.{◌≡◌, ℕ, ◌+◌, ◌<◌, ◌^◌, Bool, true, false, List, [], ◌∷◌, ◌++◌, zero, suc, length, drop, map, Option, Some, None, refl, ap, ◌∙◌, subst, arith, cond}
use Rattle.std.proofs.lemmas.Bool.{false≢true}
use Rattle.std.proofs.lemmas.Bool.Decides.{nat_tests}
use Rattle.std.proofs.lemmas.List.Sums.{take_while-cons}
use Rattle.std.specs.Char.{to_ascii_lowercase}
use Rattle.std.specs.List.{AllByRecursion, fold, list_all, position, prefix_len, starts_with, take_while}
use Rattle.std.specs.Option.{option_map_or}
use Rattle.std.specs.Prelude.{if◌then◌else◌, nat_eq, nat_lt, nat_le, ◌&&◌, ◌||◌, not, codes, slice_index}
use Rattle.std.specs.Str.{bytes_eq}
use Rattle.sim_base.specs.Lexeme.{bare, bytes_of, named, text}
use Rattle.sim_base.specs.declared.token.Lexeme.{Lexeme}
use Rattle.sim_base.specs.declared.token.Token.{Token}
use Rattle.sim_base.specs.declared.token.TokenKind.{TokenKind}
use Rattle.sim_base.specs.declared.token.TokenKind.TheVariants as k
use Rattle.sim_lexer.specs.Bytes.{is_digit, is_digit_of, is_letter, is_separator, is_word_byte}
use Rattle.sim_lexer.specs.Constants.{Code, character, closed_form, code_form, coded_character, integer, is_real_behind, number, number_in, number_value, plain_character, radix, radix_digits}
use Rattle.sim_lexer.specs.EndComments.{is_directive}
use Rattle.sim_lexer.specs.Piece.{Piece, Nothing, Separator, Lexeme as LexemePiece, Quote, Fault}
use Rattle.sim_lexer.specs.Pieces.{begun_by, comment, comment_to, lower_word, percent_line, piece, word}
use Rattle.sim_lexer.specs.Signs.{sign, sign_in, signs_of_more, signs_of_one}
use Rattle.sim_lexer.specs.Spelling.{Broken, Lexed, Reads, Spelled, Spells, Writes, begins_line, breaks, ends, gives, joined_by, joined_lexeme, lexeme_writes, neighbours, passes, reads, text_writes, token, too_long, with_joined, with_next, with_token}
use Rattle.sim_lexer.specs.Texts.{Content, closes, coded, doubled, plain}
use Rattle.sim_lexer.specs.Words.{Row, is_left_out, keyword, keywords, look_up}
use Rattle.sim_print.specs.Words.{word as spelled_word}
use Rattle.print_reads.specs.Writable.{CanBeWritten, IsByte, IsWritable, IsWritableOrEnd, the_end, writable, writes_character, writes_name, writes_number, writes_text, writes_word}

abbrev AreBytes : List ℕ → Type 0
AreBytes bytes = AllByRecursion IsByte bytes

abbrev GivesWritable : Piece → Type 0
GivesWritable Nothing = Unit {0}
GivesWritable (Separator size) = Unit {0}
GivesWritable Quote = Unit {0}
GivesWritable (LexemePiece lexeme size) = IsWritable lexeme
GivesWritable (Fault rule) = Unit {0}

either : (b : Bool) (p q : Piece) → (b ≡ true → GivesWritable p) → (b ≡ false → GivesWritable q) → GivesWritable (if b then p else q)
either true p q here there = here refl
either false p q here there = there refl

bytes_behind : (front rest : List ℕ) → AreBytes (front ++ rest) → AreBytes rest
bytes_behind [] rest all = all
bytes_behind (byte ∷ front) rest all = bytes_behind front rest all.1

bytes_drop : (n : ℕ) (bytes : List ℕ) → AreBytes bytes → AreBytes (drop n bytes)
bytes_drop zero bytes all = all
bytes_drop (suc n) [] all = tt
bytes_drop (suc n) (byte ∷ bytes) all = bytes_drop n bytes all.1

byte_at : (n : ℕ) (bytes : List ℕ) → AreBytes bytes → IsByte (slice_index bytes n)
byte_at n [] all = omega arith
byte_at zero (byte ∷ bytes) all = all.0
byte_at (suc n) (byte ∷ bytes) all = byte_at n bytes all.1

pub below : (n most : ℕ) → nat_lt n most ≡ true → n < most
below n most is = grind (arith, nat_tests)

-- ---- words and signs

abbrev has_word : Row → Bool
has_word row = nat_lt 0 (length (spelled_word row.1))

abbrev IsWordIf : Option TokenKind → Type 0
IsWordIf None = Unit {0}
IsWordIf (Some kind) = 0 < length (spelled_word kind)

both : (a b : Bool) → (a && b) ≡ true → (a ≡ true) × (b ≡ true)
both true b so = (refl, so)
both false b so = absurd (false≢true so)

looked_up : (rows : List Row) (bytes : List ℕ) → list_all has_word rows ≡ true → IsWordIf (look_up rows bytes)
looked_up [] bytes words = tt
looked_up (row ∷ rows) bytes words =
    let halves = both (has_word row) (list_all has_word rows) words in
    by (bytes_eq bytes row.0) halves.0 (looked_up rows bytes halves.1)
  where
    by : (b : Bool) → has_word row ≡ true → IsWordIf (look_up rows bytes) → IsWordIf (if b then Some row.1 else look_up rows bytes)
    by true here others = below 0 (length (spelled_word row.1)) here
    by false here others = others

keyword_is_word : (bytes : List ℕ) → IsWordIf (keyword bytes)
unfolding keyword spelled_word
keyword_is_word bytes = looked_up keywords bytes refl

letter_in_word : (byte : ℕ) → is_letter byte ≡ true → is_word_byte byte ≡ true
letter_in_word byte is = grind (arith, nat_tests)

lower_letter : (byte : ℕ) → is_letter byte ≡ true → is_letter (to_ascii_lowercase byte) ≡ true
lower_letter byte is = grind (arith, nat_tests)

lower_word_byte : (byte : ℕ) → is_word_byte byte ≡ true → is_word_byte (to_ascii_lowercase byte) ≡ true
lower_word_byte byte is = grind (arith, nat_tests)

lower_twice : (byte : ℕ) → to_ascii_lowercase (to_ascii_lowercase byte) ≡ to_ascii_lowercase byte
lower_twice byte = grind (arith, nat_tests)

all_lower_twice : (bytes : List ℕ) → map to_ascii_lowercase (map to_ascii_lowercase bytes) ≡ map to_ascii_lowercase bytes
all_lower_twice [] = refl
all_lower_twice (byte ∷ bytes) =
    ap (λ b. b ∷ map to_ascii_lowercase (map to_ascii_lowercase bytes)) (lower_twice byte) ∙ ap (λ (l : List ℕ). to_ascii_lowercase byte ∷ l) (all_lower_twice bytes)

all_word_bytes : (all : List ℕ) → list_all is_word_byte (lower_word all) ≡ true
all_word_bytes [] = refl
all_word_bytes (byte ∷ rest) = ap (λ (l : List ℕ). list_all is_word_byte (map to_ascii_lowercase l)) (take_while-cons is_word_byte byte rest) ∙ by (is_word_byte byte) refl (all_word_bytes rest)
  where
    by : (b : Bool) → is_word_byte byte ≡ b → list_all is_word_byte (lower_word rest) ≡ true → list_all is_word_byte (map to_ascii_lowercase (cond b (byte ∷ take_while is_word_byte rest) [])) ≡ true
    by true is behind = ap (λ c. c && list_all is_word_byte (lower_word rest)) (lower_word_byte byte is) ∙ behind
    by false is behind = refl

first_is_letter : (byte : ℕ) (rest : List ℕ) → is_letter byte ≡ true → is_letter (slice_index (lower_word (byte ∷ rest)) 0) ≡ true
first_is_letter byte rest is =
    ap (λ (l : List ℕ). is_letter (slice_index (map to_ascii_lowercase l) 0))
    (take_while-cons is_word_byte byte rest ∙ ap (λ b. cond b (byte ∷ take_while is_word_byte rest) []) (letter_in_word byte is))
    ∙ lower_letter byte is

gives_comment : (all : List ℕ) → GivesWritable (comment all)
unfolding comment
gives_comment all = by_place (position (λ byte. nat_eq byte 59) all)
  where
    by_place : (place : Option ℕ) → GivesWritable (comment_to place)
    by_place None = tt
    by_place (Some place) = tt

gives_word : (byte : ℕ) (rest : List ℕ) → is_letter byte ≡ true → GivesWritable (word (byte ∷ rest))
unfolding word
gives_word byte rest is =
    either (bytes_eq (lower_word (byte ∷ rest)) (codes "comment")) _ _ (λ so. gives_comment (byte ∷ rest))
    (λ no_comment. either (is_left_out (lower_word (byte ∷ rest))) _ _ (λ so. tt) (λ kept. by no_comment kept (keyword (lower_word (byte ∷ rest))) refl (keyword_is_word (lower_word (byte ∷ rest)))))
  where
    all : List ℕ
    all = byte ∷ rest

    by : bytes_eq (lower_word all) (codes "comment") ≡ false → is_left_out (lower_word all) ≡ false
        → (found : Option TokenKind) → keyword (lower_word all) ≡ found → IsWordIf found → IsWritable (option_map_or bare found (named (lower_word all)))
    by no_comment kept None none word_if = writes_name (lower_word all) (record {
      letter = first_is_letter byte rest is;
      all = all_word_bytes all;
      lower = all_lower_twice (take_while is_word_byte all);
      keyword = none;
      comments = no_comment;
      left_out = kept;
    })
    by no_comment kept (Some kind) found word_if = writes_word kind word_if

gives_sign_in : (rows : List Row) (all : List ℕ) (other : Piece) → list_all has_word rows ≡ true → GivesWritable other → GivesWritable (sign_in rows all other)
gives_sign_in [] all other words there = there
gives_sign_in (row ∷ rows) all other words there =
    let halves = both (has_word row) (list_all has_word rows) words in
    either (starts_with nat_eq all row.0) _ _ (λ so. writes_word row.1 (below 0 (length (spelled_word row.1)) halves.0)) (λ so. gives_sign_in rows all other halves.1 there)

gives_sign : (all : List ℕ) → GivesWritable (sign all)
unfolding sign spelled_word
gives_sign all =
    either (nat_eq (slice_index all 0) 46 && is_digit (slice_index all 1)) _ _ (λ so. tt)
    (λ so. gives_sign_in signs_of_more all _ refl (gives_sign_in signs_of_one all _ refl tt))

-- ---- constants

gives_integer : (base : ℕ) (digits : List ℕ) (size : ℕ) (behind : List ℕ) → GivesWritable (integer base digits size behind)
unfolding integer
gives_integer base digits size behind =
    either (is_real_behind behind) _ _ (λ so. tt)
    (λ so. either (nat_lt (number_value base digits) (2 ^ 63)) _ _ (λ small. writes_number (number_value base digits) (below (number_value base digits) (2 ^ 63) small)) (λ large. tt))

gives_number_in : (base : Option ℕ) (whole behind : List ℕ) → GivesWritable (number_in base whole behind)
gives_number_in None whole behind = gives_integer 10 whole (length whole) behind
gives_number_in (Some base) whole behind =
    either (nat_eq (length (radix_digits base behind)) 0) _ _ (λ so. gives_integer 10 whole (length whole) behind) (λ so. gives_integer base (radix_digits base behind) _ _)

gives_number : (all : List ℕ) → GivesWritable (number all)
unfolding number
gives_number all = gives_number_in (radix (take_while (is_digit_of 10) all)) _ _

abbrev SmallCode : Option Code → Type 0
SmallCode None = Unit {0}
SmallCode (Some code) = IsByte code.byte

small_code : (all : List ℕ) → SmallCode (code_form all)
small_code [] = tt
small_code (mark ∷ rest) = by_mark (nat_eq mark 33)
  where
    digits : List ℕ
    digits = take_while (is_digit_of 10) rest

    next : ℕ
    next = slice_index rest (prefix_len (is_digit_of 10) rest)

    by_form : (long : Bool) (small : Bool) → nat_lt (number_value 10 digits) 256 ≡ small
        → SmallCode (if long then None else if small then Some (record { byte = number_value 10 digits; size = length digits + 2 }) else None)
    by_form true small is = tt
    by_form false true is = below (number_value 10 digits) 256 is
    by_form false false is = tt

    by_mark : (b : Bool) → SmallCode (if b then closed_form digits next else None)
    by_mark true = by_form (nat_eq (length digits) 0 || nat_lt 3 (length digits) || not (nat_eq next 33)) (nat_lt (number_value 10 digits) 256) refl
    by_mark false = tt

gives_plain : (all : List ℕ) → AreBytes all → GivesWritable (plain_character all)
gives_plain all bytes = either (nat_le 32 (slice_index all 1) && nat_eq (slice_index all 2) 39) _ _ (λ so. writes_character (slice_index all 1) (byte_at 1 all bytes)) (λ so. tt)

gives_coded : (form : Option Code) (all : List ℕ) → SmallCode form → AreBytes all → GivesWritable (coded_character form all)
gives_coded None all small bytes = gives_plain all bytes
gives_coded (Some form) all small bytes = either (nat_eq (slice_index all (1 + form.size)) 39) _ _ (λ so. writes_character form.byte small) (λ so. gives_plain all bytes)

gives_character : (all : List ℕ) → AreBytes all → GivesWritable (character all)
unfolding character
gives_character all bytes = gives_coded (code_form (drop 1 all)) all (small_code (drop 1 all)) bytes

content_bytes : {all bytes rest : List ℕ} → Content all bytes rest → AreBytes all → AreBytes bytes
content_bytes (closes q n) all = tt
content_bytes (doubled q s d) all = (omega arith, content_bytes d all.1.1)
content_bytes {all = source} (coded code is d) all = (subst SmallCode is (small_code source), content_bytes d (bytes_drop code.size source all))
content_bytes (plain n none printed d) all = (all.0, content_bytes d all.1)

-- ---- pieces

gives_begun : (byte : ℕ) (rest : List ℕ) → AreBytes (byte ∷ rest) → GivesWritable (begun_by byte (byte ∷ rest))
unfolding begun_by
gives_begun byte rest bytes =
    either (is_separator byte) _ _ (λ so. tt)
    (λ so. either (nat_eq byte 33) _ _ (λ so. gives_comment (byte ∷ rest))
    (λ so. either (is_letter byte) _ _ (λ is. gives_word byte rest is)
    (λ so. either (is_digit byte) _ _ (λ so. gives_number (byte ∷ rest))
    (λ so. either (nat_eq byte 34) _ _ (λ so. tt)
    (λ so. either (nat_eq byte 39) _ _ (λ so. gives_character (byte ∷ rest) bytes) (λ so. gives_sign (byte ∷ rest)))))))

gives_percent : (line : List ℕ) → GivesWritable (percent_line line)
unfolding percent_line
gives_percent line = either (is_directive line) _ _ (λ so. tt) (λ so. tt)

gives_piece : (begins_line : Bool) (all : List ℕ) → AreBytes all → GivesWritable (piece begins_line all)
unfolding piece
gives_piece begins_line [] bytes = tt
gives_piece begins_line (byte ∷ rest) bytes = either (begins_line && nat_eq byte 37) _ _ (λ so. gives_percent (byte ∷ rest)) (λ so. gives_begun byte rest bytes)

written_lexeme : (begins_line : Bool) (all : List ℕ) {written rest : List ℕ} {lexeme : Lexeme} → all ≡ written ++ rest → AreBytes all → Writes (piece begins_line all) written rest lexeme → IsWritable lexeme
written_lexeme begins_line all split bytes (lexeme_writes is) = subst GivesWritable is (gives_piece begins_line all bytes)
written_lexeme begins_line all {written} {rest} split bytes (text_writes {bytes = meant} is d) =
    writes_text meant (content_bytes d (bytes_drop 1 (written ++ rest) (subst AreBytes split bytes)))

-- ---- tokens

abbrev OnSpelled : Lexed → Type 0
OnSpelled (Spelled tokens) = AllByRecursion CanBeWritten tokens
OnSpelled (Broken rule place) = Unit {0}

with_one : (t : Token) (answer : Lexed) → CanBeWritten t → OnSpelled answer → OnSpelled (with_token t answer)
with_one t (Spelled tokens) here behind = (here, behind)
with_one t (Broken rule place) here behind = tt

all_spelled : {before all : List ℕ} {answer : Lexed} → Spells before all answer → AreBytes all → OnSpelled answer
all_spelled ends bytes = (the_end, tt)
all_spelled (passes separator rest split is s) bytes = all_spelled s (bytes_behind separator rest (subst AreBytes split bytes))
all_spelled {before = before} {all = all} (gives {answer = answer} lexeme written rest split writes s) bytes =
    with_one (token before lexeme) answer (writable (written_lexeme (begins_line before) all split bytes writes)) (all_spelled s (bytes_behind written rest (subst AreBytes split bytes)))
all_spelled (breaks rule b) bytes = tt

-- ---- joined

abbrev OnJoined : Option Lexeme → Type 0
OnJoined None = Unit {0}
OnJoined (Some lexeme) = IsWritable lexeme

both_bytes : (front rest : List ℕ) → AreBytes front → AreBytes rest → AreBytes (front ++ rest)
both_bytes [] rest here there = there
both_bytes (byte ∷ front) rest here there = (here.0, both_bytes front rest here.1 there)

joins_words : (first second : TokenKind) (more : List ℕ) → 0 < length (spelled_word first) → OnJoined (joined_by first second [] more)
unfolding spelled_word
joins_words k.Text k.Text more some = absurd (omega (arith, some))
joins_words k.And k.Then more some = writes_word k.AndThen (omega arith)
joins_words k.Or k.Else more some = writes_word k.OrElse (omega arith)
joins_words first second more some = tt

no_text : (second : TokenKind) (bytes : List ℕ) → 0 < length (spelled_word second) → OnJoined (joined_by k.Text second bytes [])
unfolding spelled_word
no_text k.Text bytes some = absurd (omega (arith, some))
no_text second bytes some = tt

joins_text : (bytes : List ℕ) → AreBytes bytes → (y : Lexeme) → IsWritableOrEnd y → OnJoined (joined_lexeme (text bytes) y)
joins_text bytes all y the_end = tt
joins_text bytes all y (writable (writes_word kind some)) = no_text kind bytes some
joins_text bytes all y (writable (writes_name name is)) = tt
joins_text bytes all y (writable (writes_number value small)) = tt
joins_text bytes all y (writable (writes_character code small)) = tt
joins_text bytes all y (writable (writes_text more small)) = writes_text (bytes ++ more) (both_bytes bytes more all small)

joins : (x y : Lexeme) → IsWritableOrEnd x → IsWritableOrEnd y → OnJoined (joined_lexeme x y)
joins x y the_end h = tt
joins x y (writable (writes_word kind some)) h = joins_words kind y.kind (bytes_of y.value) some
joins x y (writable (writes_name name is)) h = tt
joins x y (writable (writes_number value small)) h = tt
joins x y (writable (writes_character code small)) h = tt
joins x y (writable (writes_text bytes small)) h = joins_text bytes small y h

all_neighbours : (made : Option Lexeme) (first next : Token) → OnJoined made → CanBeWritten first → CanBeWritten next → AllByRecursion CanBeWritten (neighbours made first next)
all_neighbours None first next made here there = (here, (there, tt))
all_neighbours (Some lexeme) first next made here there = (writable made, tt)

one_more : (tokens : List Token) (next : Token) → AllByRecursion CanBeWritten tokens → CanBeWritten next → AllByRecursion CanBeWritten (with_next tokens next)
one_more [] next before here = (here, tt)
one_more (last ∷ []) next before here = all_neighbours (joined_lexeme last.lexeme next.lexeme) last next (joins last.lexeme next.lexeme before.0 here) before.0 here
one_more (first ∷ second ∷ rest) next before here = (before.0, one_more (second ∷ rest) next before.1 here)

all_joined : (tokens before : List Token) → AllByRecursion CanBeWritten before → AllByRecursion CanBeWritten tokens → AllByRecursion CanBeWritten (fold with_next before tokens)
all_joined [] before so_far left = so_far
all_joined (t ∷ tokens) before so_far left = all_joined tokens (with_next before t) (one_more before t so_far left.0) left.1

on_joined : (answer : Lexed) → OnSpelled answer → OnSpelled (with_joined answer)
on_joined (Spelled tokens) all = all_joined tokens [] tt all
on_joined (Broken rule place) all = tt

on_reading : {source : List ℕ} {answer : Lexed} → Reads source answer → AreBytes source → OnSpelled answer
on_reading (too_long long) bytes = tt
on_reading (reads {answer = answer} within s) bytes = on_joined answer (all_spelled s bytes)

pub spelled_are_writable : (source : List ℕ) (tokens : List Token) → AllByRecursion IsByte source → Reads source (Spelled tokens) → AllByRecursion CanBeWritten tokens
spelled_are_writable source tokens bytes reading = on_reading reading bytes
