-- Texts as frames of bytes. A text is a frame, the place of its first character there, its length, and a position; places and
-- positions count from 1. What a text procedure does is one function of the frames before it and its operands.
use Rattle.std.specs.Prelude.{◌≡◌, ℕ, suc, ◌+◌, ◌-◌, ◌≤◌, ◌<◌, ◌≢◌, Bool, true, false, ◌||◌, ◌&&◌, ◌==◌, nat_lt, nat_le, if◌then◌else◌, ℤ, pos, negsuc, neg_ℤ, List, [], ◌∷◌, ◌++◌, length, take, drop, map, replicate, slice_index, slice_index_or, slice_set, slice_get, take_while, Option, Some, None, Result, Ok, Err}
use Rattle.std.specs.Ordering.{nat_cmp}
use Rattle.std.specs.Cmp.Lexicographic.{slice_cmp}
use Rattle.std.specs.declared.cmp.Ordering.{Ordering}
use Rattle.std.specs.Char.{is_ascii_digit, to_ascii_uppercase, to_ascii_lowercase}
use Rattle.std.specs.Fmt.{signed_decimal}
use Rattle.std.specs.Str.Parse.{digits_value}
use Rattle.sim_base.specs.declared.run_error.RunError.{RunError}
use Rattle.sim_base.specs.declared.run_error.RunError.TheVariants.{IntegerOverflow, SubtextOutOfRange, TextTooLong, TextIsConstant, GetcharPastEnd, PutcharPastEnd, NoIntegerItem, PutintOnNotext, NegativeLength, IntegerItemTooLarge}
use Rattle.sim_values.specs.declared.value.TextVal.{TextVal}
use Rattle.sim_values.specs.Arithmetic.{is_integer}
use Rattle.sim_values.specs.Words.{text_words}

-- ---- frames

pub record Frame : Type 0 where
  pub bytes : List ℕ
  pub constant : Bool

-- the frame of this number; an empty constant where there is none
abbrev pub frame_at : List Frame → ℕ → Frame
frame_at frames n = slice_index_or frames n (record { bytes = []; constant = true })

-- the bytes with these ones in place of those from `at` on
abbrev pub replaced : List ℕ → ℕ → List ℕ → List ℕ
replaced bytes at new = take at bytes ++ (new ++ drop (at + length new) bytes)

-- the frames with these bytes written into one frame from `at` on
abbrev pub written : List Frame → ℕ → ℕ → List ℕ → List Frame
written frames n at new = slice_set frames n (record { bytes = replaced (frame_at frames n).bytes at new; constant = (frame_at frames n).constant })

-- every frame but the one of this number is the same before and after
abbrev pub SameBut : ℕ → List Frame → List Frame → Type 0
SameBut n old new = (k : ℕ) → k ≢ n → slice_get new k ≡ slice_get old k

-- ---- texts

-- a text lies in a frame that was made
pub record LiesIn (frames : List Frame) (t : TextVal) : Type 0 where
  pub made : t.text_frame < length frames
  pub within : t.start + t.length ≤ length (frame_at frames t.text_frame).bytes + 1

-- a text of these frames. One of length 0 that starts at place 1 needs no frame
pub record IsText (frames : List Frame) (t : TextVal) : Type 0 where
  pub starts : 1 ≤ t.start
  pub position : 1 ≤ t.pos
  pub position_end : t.pos ≤ t.length + 1
  pub lies : 1 < t.start + t.length → LiesIn frames t

-- every text of the old frames is one of the new frames
abbrev pub KeepsTexts : List Frame → List Frame → Type 0
KeepsTexts old new = (t : TextVal) → IsText old t → IsText new t

-- the text of no characters
abbrev pub notext : TextVal
notext = record { text_frame = 0; start = 1; length = 0; pos = 1 }

-- `==`: the same frame, start and length, whatever the position; any two texts of length 0 are the same
abbrev pub same_text : TextVal → TextVal → Bool
same_text a b = (a.length == 0 && b.length == 0) || (a.text_frame == b.text_frame && a.start == b.start && a.length == b.length)

abbrev pub characters : List Frame → TextVal → List ℕ
characters frames t = take t.length (drop (t.start - 1) (frame_at frames t.text_frame).bytes)

-- the frames with these characters in place of a text's first ones
abbrev pub with_characters : List Frame → TextVal → List ℕ → List Frame
with_characters frames t new = written frames t.text_frame (t.start - 1) new

-- ---- what a call does

-- What a call on a text leaves and answers: the frames, the text with its position, and the value or the run-time error.
pub record TextStep (A : Type 0) : Type 0 where
  pub frames : List Frame
  pub text : TextVal
  pub answer : Result A RunError

abbrev pub done : {A : Type 0} → List Frame → TextVal → A → TextStep A
done frames t a = record { frames = frames; text = t; answer = Ok a }

abbrev pub refused : {A : Type 0} → List Frame → TextVal → RunError → TextStep A
refused frames t e = record { frames = frames; text = t; answer = Err e }

-- what a call has left and answered
abbrev pub outcome : {A : Type 0} → List Frame → TextVal → Result A RunError → TextStep A
outcome frames t answer = record { frames = frames; text = t; answer = answer }

-- refused where an error is given, and then nothing has changed; else this
abbrev pub unless : {A : Type 0} → Option RunError → List Frame → TextVal → TextStep A → TextStep A
unless None frames t step = step
unless (Some e) frames t step = refused frames t e

-- What a call that makes a text does: the words that it asks for first, and where it gets them the frames that it leaves and
-- its text. Where it is refused it asks for none.
pub record Making : Type 0 where
  pub wanted : ℕ
  pub frames : List Frame
  pub answer : Result TextVal RunError

-- `t.constant`; a text of length 0 is constant
abbrev pub is_constant : List Frame → TextVal → Bool
is_constant frames t = t.length == 0 || (frame_at frames t.text_frame).constant

-- E22 where the text is a constant of positive length
abbrev pub constant_refusal : List Frame → TextVal → Option RunError
constant_refusal frames t = if nat_lt 0 t.length && (frame_at frames t.text_frame).constant then Some TextIsConstant else None

-- ---- new texts

-- the text of n characters that a new frame after these holds
abbrev pub new_text : List Frame → ℕ → TextVal
new_text frames n = if n == 0 then notext else record { text_frame = length frames; start = 1; length = n; pos = 1 }

-- the frames with a new frame of these bytes; no frame for no bytes
abbrev pub with_new : List Frame → List ℕ → List Frame
with_new frames [] = frames
with_new frames (c ∷ cs) = frames ++ (record { bytes = c ∷ cs; constant = false }) ∷ []

-- a new text of these characters, with its words
abbrev pub making : List Frame → List ℕ → Making
making frames cs = record { wanted = text_words (length cs); frames = with_new frames cs; answer = Ok (new_text frames (length cs)) }

-- `blanks(n)`: E27 where n is negative
abbrev pub blanks : List Frame → ℤ → Making
blanks frames (pos n) = making frames (replicate n 32)
blanks frames (negsuc n) = record { wanted = 0; frames = frames; answer = Err NegativeLength }

-- `copy(t)`, and the text of the characters of two
abbrev pub copy : List Frame → TextVal → Making
copy frames t = making frames (characters frames t)

abbrev pub join : List Frame → TextVal → TextVal → Making
join frames a b = making frames (characters frames a ++ characters frames b)

-- the text constant that is all of a frame
abbrev pub constant_text : List Frame → ℕ → TextVal
constant_text frames n = record { text_frame = n; start = 1; length = length (frame_at frames n).bytes; pos = 1 }

-- ---- assignment and comparison

-- these characters with blanks behind them, n in all
abbrev pub padded : ℕ → List ℕ → List ℕ
padded n cs = cs ++ replicate (n - length cs) 32

-- `left := right`: E21 where the right text is longer, then E22; else its characters, and blanks behind them
abbrev pub assign_refusal : List Frame → TextVal → TextVal → Option RunError
assign_refusal frames left right = if nat_lt left.length right.length then Some TextTooLong else constant_refusal frames left

abbrev pub assigned : List Frame → TextVal → TextVal → List Frame
assigned frames left right = with_characters frames left (padded left.length (characters frames right))

abbrev pub assign : List Frame → TextVal → TextVal → TextStep (Unit {0})
assign frames left right = unless (assign_refusal frames left right) frames left (done (assigned frames left right) left tt)

-- character by character, and a proper prefix is less
abbrev pub compare_texts : List Frame → TextVal → TextVal → Ordering
compare_texts frames a b = slice_cmp nat_cmp (characters frames a) (characters frames b)

-- ---- parts

-- n characters from the place i of a text on, at position 1; `notext` for none
abbrev pub part : TextVal → ℕ → ℕ → TextVal
part t i n = if n == 0 then notext else record { text_frame = t.text_frame; start = t.start + i - 1; length = n; pos = 1 }

-- `t.sub(i, n)`: E20 unless 1 <= i, 0 <= n and i + n <= length + 1
abbrev pub sub : TextVal → ℤ → ℤ → Result TextVal RunError
sub t (pos i) (pos n) = if nat_lt 0 i && nat_le (i + n) (t.length + 1) then Ok (part t i n) else Err SubtextOutOfRange
sub t (pos i) (negsuc n) = Err SubtextOutOfRange
sub t (negsuc i) n = Err SubtextOutOfRange

-- how many characters there are without trailing blanks
abbrev pub content_length : List ℕ → ℕ
content_length [] = 0
content_length (c ∷ cs) = if content_length cs == 0 && c == 32 then 0 else suc (content_length cs)

-- `t.strip`
abbrev pub strip : List Frame → TextVal → TextVal
strip frames t = part t 1 (content_length (characters frames t))

-- `t.main`: the whole frame
abbrev pub main_text : List Frame → TextVal → TextVal
main_text frames t = if t.length == 0 then notext else record { text_frame = t.text_frame; start = 1; length = length (frame_at frames t.text_frame).bytes; pos = 1 }

-- ---- `&`

-- the frames with a text assigned to a new one, and another to the part behind it
abbrev pub both_assigned : List Frame → TextVal → (a b : TextVal) → List Frame
both_assigned frames t a b = assigned (assigned frames t a) (part t (a.length + 1) b.length) b

abbrev pub with_both : Making → Result TextVal RunError → (a b : TextVal) → Making
with_both m (Ok t) a b = record m { frames = both_assigned m.frames t a b }
with_both m (Err e) a b = m

-- `a & b`: a new text of both lengths, to which a is assigned, and b to the part behind a. E1 where no integer is the place behind it
abbrev pub concatenated : List Frame → (a b : TextVal) → Making
concatenated frames a b =
    let new = blanks frames (pos (a.length + b.length)) in
    if is_integer (pos (a.length + 1 + b.length)) then with_both new new.answer a b else record { wanted = 0; frames = frames; answer = Err IntegerOverflow }

-- ---- positions and single characters

abbrev pub at_position : TextVal → ℕ → TextVal
at_position t p = record { text_frame = t.text_frame; start = t.start; length = t.length; pos = p }

-- `t.setpos(i)`: a place of no character puts the position behind the last one
abbrev pub moved : TextVal → ℤ → TextVal
moved t (pos i) = at_position t (if nat_lt 0 i && nat_le i t.length then i else t.length + 1)
moved t (negsuc i) = at_position t (t.length + 1)

abbrev pub setpos : List Frame → TextVal → ℤ → TextStep (Unit {0})
setpos frames t i = done frames (moved t i) tt

-- `t.getchar`: E23 where the position is behind the last character; else that at the position, which moves one on
abbrev pub getchar_refusal : TextVal → Option RunError
getchar_refusal t = if nat_lt t.length t.pos then Some GetcharPastEnd else None

abbrev pub next_character : List Frame → TextVal → ℕ
next_character frames t = slice_index (characters frames t) (t.pos - 1)

abbrev pub getchar : List Frame → TextVal → TextStep ℕ
getchar frames t = unless (getchar_refusal t) frames t (done frames (at_position t (t.pos + 1)) (next_character frames t))

-- `t.putchar(c)`: E24 where the position is behind the last character, then E22; the position moves one on
abbrev pub putchar_refusal : List Frame → TextVal → Option RunError
putchar_refusal frames t = if nat_lt t.length t.pos then Some PutcharPastEnd else constant_refusal frames t

abbrev pub with_character : List Frame → TextVal → ℕ → List Frame
with_character frames t c = written frames t.text_frame (t.start + t.pos - 2) (c ∷ [])

abbrev pub putchar : List Frame → TextVal → ℕ → TextStep (Unit {0})
putchar frames t c = unless (putchar_refusal frames t) frames t (done (with_character frames t c) (at_position t (t.pos + 1)) tt)

-- ---- letters

abbrev pub upcased : List Frame → TextVal → List Frame
upcased frames t = with_characters frames t (map to_ascii_uppercase (characters frames t))

abbrev pub lowcased : List Frame → TextVal → List Frame
lowcased frames t = with_characters frames t (map to_ascii_lowercase (characters frames t))

-- `upcase(t)` and `lowcase(t)`: E22 for a constant of positive length; they give the text at position 1
abbrev pub upcase : List Frame → TextVal → TextStep TextVal
upcase frames t = unless (constant_refusal frames t) frames t (done (upcased frames t) t (at_position t 1))

abbrev pub lowcase : List Frame → TextVal → TextStep TextVal
lowcase frames t = unless (constant_refusal frames t) frames t (done (lowcased frames t) t (at_position t 1))

-- ---- integers in texts

-- a blank or a tab
abbrev pub is_separator : ℕ → Bool
is_separator c = c == 32 || c == 9

-- what follows leading blanks and tabs
abbrev pub after_separators : List ℕ → List ℕ
after_separators [] = []
after_separators (c ∷ cs) = if is_separator c then after_separators cs else c ∷ cs

-- whether a minus sign stands first, and what follows a leading sign
abbrev pub has_minus : List ℕ → Bool
has_minus [] = false
has_minus (c ∷ cs) = c == 45

abbrev pub after_sign : List ℕ → List ℕ
after_sign [] = []
after_sign (c ∷ cs) = if c == 43 || c == 45 then cs else c ∷ cs

-- the integer that these characters begin with, and how many characters it takes: blanks or tabs, an optional sign, blanks or
-- tabs, then digits. E25 where no digit follows, E28 where the integer is outside the range
abbrev pub integer_item : List ℕ → Result (ℤ × ℕ) RunError
integer_item cs =
    let signed = after_separators cs in
    let unsigned = after_separators (after_sign signed) in
    let digits = take_while is_ascii_digit unsigned in
    let size = digits_value 10 digits in
    let value = if has_minus signed then neg_ℤ (pos size) else pos size in
    if length digits == 0 then Err NoIntegerItem
    else if is_integer value then Ok (value, length cs - length unsigned + length digits)
    else Err IntegerItemTooLarge

-- `t.getint`: the integer that the text begins with; the position is then behind its last digit
abbrev pub integer_taken : List Frame → TextVal → Result (ℤ × ℕ) RunError → TextStep ℤ
integer_taken frames t (Ok (value, used)) = done frames (at_position t (used + 1)) value
integer_taken frames t (Err e) = refused frames t e

abbrev pub getint : List Frame → TextVal → TextStep ℤ
getint frames t = integer_taken frames t (integer_item (characters frames t))

-- `t.putint(i)`: E26 for a text of length 0, then E22; the position is then behind the last character
abbrev pub putint_refusal : List Frame → TextVal → Option RunError
putint_refusal frames t = if t.length == 0 then Some PutintOnNotext else constant_refusal frames t

-- these characters at the right end of n places, with blanks before them; n stars where they do not fit
abbrev pub right_justified : ℕ → List ℕ → List ℕ
right_justified n cs = if nat_le (length cs) n then replicate (n - length cs) 32 ++ cs else replicate n 42

abbrev pub with_integer : List Frame → TextVal → ℤ → List Frame
with_integer frames t i = with_characters frames t (right_justified t.length (signed_decimal i))

abbrev pub putint : List Frame → TextVal → ℤ → TextStep (Unit {0})
putint frames t i = unless (putint_refusal frames t) frames t (done (with_integer frames t i) (at_position t (t.length + 1)) tt)
