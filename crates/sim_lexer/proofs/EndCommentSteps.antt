-- The comment behind an `end`, passed over by empty lines, words and other bytes.
use Rattle.std.proofs.Common.{◌≡◌, ℕ, ◌+◌, ◌<◌, ◌≤◌, Bool, true, false, List, [], ◌∷◌, suc, length, drop, take, refl, ap, ◌∙◌, arith, cond}
use Rattle.std.proofs.lemmas.Bool.{false≢true}
use Rattle.std.proofs.lemmas.Bool.Decides.{nat_tests}
use Rattle.std.proofs.lemmas.List.Sums.{prefix_len-le-length}
use Rattle.std.specs.List.{prefix_len, take_while}
use Rattle.std.specs.Prelude.{if◌then◌else◌, nat_eq, not, ◌&&◌, ◌||◌, slice_index}
use Rattle.sim_lexer.specs.Bytes.{is_in_line, is_line_feed, is_word_byte}
use Rattle.sim_lexer.specs.EndComments.{Spot, LineStart, InWord, InEmptyLine, Elsewhere, behind_byte, comment_from, end_comment, is_directive, next_spot, stands_stop, stops}
use Rattle.sim_lexer.specs.Scanning.{spot}
use Rattle.sim_lexer.specs.Words.{is_stop_word}

or_false : (b : Bool) → (b || false) ≡ b
or_false true = refl
or_false false = refl

-- ---- bytes

not_semicolon : (byte : ℕ) → is_word_byte byte ≡ true → nat_eq byte 59 ≡ false
not_semicolon byte word = grind (arith, nat_tests)

not_line_feed : (byte : ℕ) → is_word_byte byte ≡ true → is_line_feed byte ≡ false
not_line_feed byte word = grind (arith, nat_tests)

not_percent : (byte : ℕ) → is_word_byte byte ≡ true → nat_eq byte 37 ≡ false
not_percent byte word = grind (arith, nat_tests)

percent_no_feed : (byte : ℕ) → nat_eq byte 37 ≡ true → is_line_feed byte ≡ false
percent_no_feed byte percent = grind (arith, nat_tests)

line_feed_no_word : (byte : ℕ) → is_line_feed byte ≡ true → is_word_byte byte ≡ false
line_feed_no_word byte feed = grind (arith, nat_tests)

line_feed_no_stop : (byte : ℕ) → is_line_feed byte ≡ true → nat_eq byte 59 ≡ false
line_feed_no_stop byte feed = grind (arith, nat_tests)

word_behind : (byte : ℕ) → is_word_byte byte ≡ true → behind_byte byte ≡ InWord
word_behind byte word =
    ap (λ b. if b then LineStart else if is_word_byte byte then InWord else Elsewhere) (not_line_feed byte word) ∙ ap (λ b. if b then InWord else Elsewhere) word

feed_behind : (byte : ℕ) → is_line_feed byte ≡ true → behind_byte byte ≡ LineStart
feed_behind byte feed = ap (λ b. if b then LineStart else if is_word_byte byte then InWord else Elsewhere) feed

other_behind : (byte : ℕ) → is_word_byte byte ≡ false → behind_byte byte ≡ spot (is_line_feed byte)
other_behind byte other = ap (λ b. if is_line_feed byte then LineStart else if b then InWord else Elsewhere) other ∙ by (is_line_feed byte)
  where
    by : (b : Bool) → (if b then LineStart else Elsewhere) ≡ spot b
    by true = refl
    by false = refl

-- where no word stands in front, none of the four does
no_word : (byte : ℕ) (rest : List ℕ) → is_word_byte byte ≡ false → stands_stop (byte ∷ rest) ≡ nat_eq byte 59
no_word byte rest other =
    let none : take_while is_word_byte (byte ∷ rest) ≡ [] = ap (λ b. take (cond b (1 + prefix_len is_word_byte rest) 0) (byte ∷ rest)) other in
    ap (λ bytes. nat_eq byte 59 || is_stop_word bytes) none ∙ or_false (nat_eq byte 59)

-- ---- a step in front

goes_on : (s : Spot) (byte : ℕ) (rest : List ℕ) → stops s (byte ∷ rest) ≡ false → comment_from s (byte ∷ rest) ≡ 1 + comment_from (next_spot s byte) rest
goes_on s byte rest on = ap (λ b. if b then 0 else 1 + comment_from (next_spot s byte) rest) on

pub stopped : (s : Spot) (all : List ℕ) → stops s all ≡ true → comment_from s all ≡ 0
stopped s [] stop = refl
stopped s (byte ∷ rest) stop = ap (λ b. if b then 0 else 1 + comment_from (next_spot s byte) rest) stop

-- more bytes of a class in front
one_more : (p : ℕ → Bool) (byte : ℕ) (rest : List ℕ) → p byte ≡ true → prefix_len p (byte ∷ rest) ≡ suc (prefix_len p rest)
one_more p byte rest passing = ap (λ b. cond b (1 + prefix_len p rest) 0) passing ∙ omega arith

none_more : (p : ℕ → Bool) (byte : ℕ) (rest : List ℕ) → p byte ≡ false → prefix_len p (byte ∷ rest) ≡ 0
none_more p byte rest other = ap (λ b. cond b (1 + prefix_len p rest) 0) other

-- ---- the rest of a word, and of an empty line

in_word : (all : List ℕ) → comment_from InWord all ≡ prefix_len is_word_byte all + comment_from Elsewhere (drop (prefix_len is_word_byte all) all)
in_word [] = refl
in_word (byte ∷ rest) = by (is_word_byte byte) refl (in_word rest)
  where
    by : (b : Bool) → is_word_byte byte ≡ b
        → comment_from InWord rest ≡ prefix_len is_word_byte rest + comment_from Elsewhere (drop (prefix_len is_word_byte rest) rest)
        → comment_from InWord (byte ∷ rest) ≡ prefix_len is_word_byte (byte ∷ rest) + comment_from Elsewhere (drop (prefix_len is_word_byte (byte ∷ rest)) (byte ∷ rest))
    by true word others =
        let len = one_more is_word_byte byte rest word in
        let there : comment_from Elsewhere (drop (prefix_len is_word_byte (byte ∷ rest)) (byte ∷ rest)) ≡ comment_from Elsewhere (drop (prefix_len is_word_byte rest) rest) =
        ap (λ n. comment_from Elsewhere (drop n (byte ∷ rest))) len in
        let here : comment_from InWord (byte ∷ rest) ≡ 1 + comment_from InWord rest =
        goes_on InWord byte rest (not_semicolon byte word) ∙ ap (λ s. 1 + comment_from s rest) (word_behind byte word) in
        omega (arith, len, there, here, others)
    by false other others =
        let len = none_more is_word_byte byte rest other in
        let there : comment_from Elsewhere (drop (prefix_len is_word_byte (byte ∷ rest)) (byte ∷ rest)) ≡ comment_from Elsewhere (byte ∷ rest) =
        ap (λ n. comment_from Elsewhere (drop n (byte ∷ rest))) len in
        let here : comment_from Elsewhere (byte ∷ rest) ≡ comment_from InWord (byte ∷ rest) =
        ap (λ b. if b then 0 else 1 + comment_from (behind_byte byte) rest) (no_word byte rest other) in
        omega (arith, len, there, here)

in_empty_line : (all : List ℕ) → comment_from InEmptyLine all ≡ prefix_len is_in_line all + comment_from Elsewhere (drop (prefix_len is_in_line all) all)
in_empty_line [] = refl
in_empty_line (byte ∷ rest) = by (is_line_feed byte) refl (in_empty_line rest)
  where
    by : (b : Bool) → is_line_feed byte ≡ b
        → comment_from InEmptyLine rest ≡ prefix_len is_in_line rest + comment_from Elsewhere (drop (prefix_len is_in_line rest) rest)
        → comment_from InEmptyLine (byte ∷ rest) ≡ prefix_len is_in_line (byte ∷ rest) + comment_from Elsewhere (drop (prefix_len is_in_line (byte ∷ rest)) (byte ∷ rest))
    by true feed others =
        let len = none_more is_in_line byte rest (ap not feed) in
        let there : comment_from Elsewhere (drop (prefix_len is_in_line (byte ∷ rest)) (byte ∷ rest)) ≡ comment_from Elsewhere (byte ∷ rest) =
        ap (λ n. comment_from Elsewhere (drop n (byte ∷ rest))) len in
        let on : stands_stop (byte ∷ rest) ≡ false = no_word byte rest (line_feed_no_word byte feed) ∙ line_feed_no_stop byte feed in
        let here : comment_from Elsewhere (byte ∷ rest) ≡ 1 + comment_from LineStart rest =
        goes_on Elsewhere byte rest on ∙ ap (λ s. 1 + comment_from s rest) (feed_behind byte feed) in
        let line : comment_from InEmptyLine (byte ∷ rest) ≡ 1 + comment_from LineStart rest =
        ap (λ b. 1 + comment_from (if b then LineStart else InEmptyLine) rest) feed in
        omega (arith, len, there, here, line)
    by false other others =
        let len = one_more is_in_line byte rest (ap not other) in
        let there : comment_from Elsewhere (drop (prefix_len is_in_line (byte ∷ rest)) (byte ∷ rest)) ≡ comment_from Elsewhere (drop (prefix_len is_in_line rest) rest) =
        ap (λ n. comment_from Elsewhere (drop n (byte ∷ rest))) len in
        let here : comment_from InEmptyLine (byte ∷ rest) ≡ 1 + comment_from InEmptyLine rest =
        ap (λ b. 1 + comment_from (if b then LineStart else InEmptyLine) rest) other in
        omega (arith, len, there, here, others)

-- ---- what is passed over together

abbrev pub Passed : (begins_line : Bool) → List ℕ → ℕ → Type 0
Passed begins_line all size =
    (0 < size) × (size ≤ length all)
    × (comment_from (spot begins_line) all ≡ size + comment_from (spot (is_line_feed (slice_index all 0))) (drop size all))

pub line_passed : (b : Bool) (all : List ℕ) → 0 < length all → (b && nat_eq (slice_index all 0) 37) ≡ true → stops (spot b) all ≡ false → Passed b all (prefix_len is_in_line all)
line_passed b [] some line on = absurd (omega arith)
line_passed false (byte ∷ rest) some line on = absurd (false≢true line)
line_passed true (byte ∷ rest) some percent on =
    let no_feed : is_line_feed byte ≡ false = percent_no_feed byte percent in
    let len = one_more is_in_line byte rest (ap not no_feed) in
    let here : comment_from LineStart (byte ∷ rest) ≡ 1 + comment_from InEmptyLine rest =
    goes_on LineStart byte rest on ∙ ap (λ c. 1 + comment_from (if c then InEmptyLine else behind_byte byte) rest) percent in
    let there : comment_from (spot (is_line_feed byte)) (drop (prefix_len is_in_line (byte ∷ rest)) (byte ∷ rest)) ≡ comment_from Elsewhere (drop (prefix_len is_in_line rest) rest) =
    ap (λ c. comment_from (spot c) (drop (prefix_len is_in_line (byte ∷ rest)) (byte ∷ rest))) no_feed ∙ ap (λ n. comment_from Elsewhere (drop n (byte ∷ rest))) len in
    (omega (arith, len), prefix_len-le-length is_in_line (byte ∷ rest), omega (arith, len, here, there, in_empty_line rest))

word_spot : (b : Bool) (byte : ℕ) → is_word_byte byte ≡ true → next_spot (spot b) byte ≡ InWord
word_spot true byte word = ap (λ c. if c then InEmptyLine else behind_byte byte) (not_percent byte word) ∙ word_behind byte word
word_spot false byte word = word_behind byte word

pub word_passed : (b : Bool) (all : List ℕ) → 0 < length all → is_word_byte (slice_index all 0) ≡ true → stops (spot b) all ≡ false → Passed b all (prefix_len is_word_byte all)
word_passed b [] some word on = absurd (omega arith)
word_passed b (byte ∷ rest) some word on =
    let len = one_more is_word_byte byte rest word in
    let here : comment_from (spot b) (byte ∷ rest) ≡ 1 + comment_from InWord rest = goes_on (spot b) byte rest on ∙ ap (λ s. 1 + comment_from s rest) (word_spot b byte word) in
    let there : comment_from (spot (is_line_feed byte)) (drop (prefix_len is_word_byte (byte ∷ rest)) (byte ∷ rest)) ≡ comment_from Elsewhere (drop (prefix_len is_word_byte rest) rest) =
    ap (λ c. comment_from (spot c) (drop (prefix_len is_word_byte (byte ∷ rest)) (byte ∷ rest))) (not_line_feed byte word) ∙ ap (λ n. comment_from Elsewhere (drop n (byte ∷ rest))) len in
    (omega (arith, len), prefix_len-le-length is_word_byte (byte ∷ rest), omega (arith, len, here, there, in_word rest))

byte_spot : (b : Bool) (byte : ℕ) → (b && nat_eq byte 37) ≡ false → is_word_byte byte ≡ false → next_spot (spot b) byte ≡ spot (is_line_feed byte)
byte_spot true byte line other = ap (λ c. if c then InEmptyLine else behind_byte byte) line ∙ other_behind byte other
byte_spot false byte line other = other_behind byte other

pub byte_passed : (b : Bool) (all : List ℕ) → 0 < length all → (b && nat_eq (slice_index all 0) 37) ≡ false → is_word_byte (slice_index all 0) ≡ false → stops (spot b) all ≡ false → Passed b all 1
byte_passed b [] some line other on = absurd (omega arith)
byte_passed b (byte ∷ rest) some line other on =
    (omega arith, omega arith, goes_on (spot b) byte rest on ∙ ap (λ s. 1 + comment_from s rest) (byte_spot b byte line other))

pub stops_here : (b : Bool) (rest : List ℕ) → ((b && is_directive rest) || stands_stop rest) ≡ stops (spot b) rest
stops_here true rest = refl
stops_here false rest = refl

-- ---- the comment lies in what stands behind the `end`

from_within : (s : Spot) (all : List ℕ) → comment_from s all ≤ length all
from_within s [] = omega arith
from_within s (byte ∷ rest) = by (stops s (byte ∷ rest)) (from_within (next_spot s byte) rest)
  where
    by : (b : Bool) → comment_from (next_spot s byte) rest ≤ length rest → (if b then 0 else 1 + comment_from (next_spot s byte) rest) ≤ suc (length rest)
    by true short = omega arith
    by false short = omega (arith, short)

pub end_comment-within : (rest : List ℕ) → end_comment rest ≤ length rest
unfolding end_comment
end_comment-within rest = from_within Elsewhere rest
