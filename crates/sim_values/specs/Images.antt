-- Input and output by images. An image is a text whose characters are a whole frame; its position is that of the text.
use Rattle.std.specs.Prelude.{ℕ, zero, suc, ◌+◌, ◌-◌, Bool, true, false, ◌==◌, nat_lt, nat_le, if◌then◌else◌, ℤ, pos, negsuc, List, [], ◌∷◌, ◌++◌, length, take, drop, replicate, slice_index, Result, Ok, Err}
use Rattle.std.specs.List.{before_first, after_first}
use Rattle.std.specs.Fmt.{signed_decimal}
use Rattle.sim_base.specs.declared.run_error.RunError.{RunError}
use Rattle.sim_base.specs.declared.run_error.RunError.TheVariants.{NegativeLength, FieldTooLong, InputLineTooLong, InputAtEnd, NoItemBeforeEnd}
use Rattle.sim_values.specs.declared.value.TextVal.{TextVal}
use Rattle.sim_values.specs.Words.{text_words}
use Rattle.sim_values.specs.Texts.{Frame, characters, with_characters, with_character, new_text, next_character, padded, content_length, at_position, after_separators, integer_item, right_justified, with_new}

-- whether the position is behind the last character of the image
abbrev pub is_used_up : TextVal → Bool
is_used_up image = nat_lt image.length image.pos

-- the characters of the image from its position on
abbrev pub characters_left : List Frame → TextVal → List ℕ
characters_left frames image = drop (image.pos - 1) (characters frames image)

-- ---- input

-- the texts, the image of the input, whether the end was met, and the bytes that are left
pub record InputState : Type 0 where
  pub frames : List Frame
  pub image : TextVal
  pub endfile : Bool
  pub left : List ℕ

-- what a call leaves, and its answer or its run-time error
pub record InputStep (A : Type 0) : Type 0 where
  pub after : InputState
  pub answer : Result A RunError

abbrev pub answers : {A : Type 0} → InputState → A → InputStep A
answers s a = record { after = s; answer = Ok a }

abbrev pub refuses : {A : Type 0} → InputState → RunError → InputStep A
refuses s e = record { after = s; answer = Err e }

-- one call after another: where the first is refused, so are both
abbrev pub go_on : {A B : Type 0} → InputState → Result A RunError → (InputState → A → InputStep B) → InputStep B
go_on s (Ok a) next = next s a
go_on s (Err e) next = refuses s e

abbrev pub and_then : {A B : Type 0} → InputStep A → (InputState → A → InputStep B) → InputStep B
and_then first next = go_on first.after first.answer next

-- the image moved to another position
abbrev pub with_position : InputState → ℕ → InputState
with_position s p = record { frames = s.frames; image = at_position s.image p; endfile = s.endfile; left = s.left }

-- other texts
abbrev pub with_frames : InputState → List Frame → InputState
with_frames s frames = record { frames = frames; image = s.image; endfile = s.endfile; left = s.left }

abbrev pub is_line_feed : ℕ → Bool
is_line_feed c = c == 10

-- the image filled with these characters and blanks, at position 1
abbrev pub filled : InputState → List ℕ → Bool → List ℕ → InputState
filled s cs endfile left = record {
  frames = with_characters s.frames s.image (padded s.image.length cs);
  image = at_position s.image 1;
  endfile = endfile;
  left = left;
}

-- `inimage`: the bytes up to the next line feed, or the rest; E31 where they are more than the image holds. At the end of the
-- input the image gets code 25 and blanks, and another call is E32. A refusal changes nothing
abbrev pub inimage : InputState → InputStep (Unit {0})
inimage s =
    let line = before_first is_line_feed s.left in
    if s.endfile then refuses s InputAtEnd
    else if length s.left == 0 then answers (filled s (25 ∷ []) true []) tt
    else if nat_lt s.image.length (length line) then refuses s InputLineTooLong
    else answers (filled s line false (after_first is_line_feed s.left)) tt

-- the call where the image is used up, else nothing
abbrev pub inimage_if_used_up : InputState → InputStep (Unit {0})
inimage_if_used_up s = if is_used_up s.image then inimage s else answers s tt

-- `inchar`: the next character; `inimage` first where the image is used up
abbrev pub inchar : InputState → InputStep ℕ
inchar s = and_then (inimage_if_used_up s) (λ (r : InputState) (done : Unit {0}). answers (with_position r (r.image.pos + 1)) (next_character r.frames r.image))

-- the image moved behind the blanks and tabs at its position
abbrev pub behind_separators : InputState → InputState
behind_separators s =
    let rest = characters_left s.frames s.image in
    with_position s (s.image.pos + (length rest - length (after_separators rest)))

-- `lastitem`: true at the end of the input; else the image moved behind blanks and tabs, and on to the next image where it
-- is used up. The number bounds the images: each of them takes a byte that is left, but for the one at the end
abbrev pub next_item : ℕ → InputState → InputStep Bool
next_item zero s = answers s s.endfile
next_item (suc images) s =
    let r = behind_separators s in
    let line = inimage r in
    if s.endfile then answers s true
    else if is_used_up r.image then go_on line.after line.answer (λ (q : InputState) (done : Unit {0}). next_item images q)
    else answers r false

abbrev pub lastitem : InputState → InputStep Bool
lastitem s = next_item (length s.left + 2) s

-- an integer from the position of the image on
abbrev pub item_taken : InputState → Result (ℤ × ℕ) RunError → InputStep ℤ
item_taken s (Ok (value, used)) = answers (with_position s (s.image.pos + used)) value
item_taken s (Err e) = refuses s e

-- `inint`: E34 where `lastitem` is true, else the integer from the position on, as `getint` reads it
abbrev pub inint : InputState → InputStep ℤ
inint s = and_then (lastitem s) (λ (r : InputState) (last : Bool). if last then refuses r NoItemBeforeEnd else item_taken r (integer_item (characters_left r.frames r.image)))

-- the next n characters, each as `inchar` reads it, are put into a text from its position on
abbrev pub characters_read : ℕ → TextVal → InputState → InputStep (Unit {0})
characters_read zero t s = answers s tt
characters_read (suc n) t s = and_then (inchar s) (λ (r : InputState) (c : ℕ). characters_read n (at_position t (t.pos + 1)) (with_frames r (with_character r.frames t c)))

-- What `intext(n)` does: the words that it asks for first, and where it gets them what it leaves and its text, or its error.
pub record TextReading : Type 0 where
  pub wanted : ℕ
  pub step : InputStep TextVal

-- a new text of n characters, with its words, and then they are read into it
abbrev pub text_read : ℕ → InputState → InputStep TextVal
text_read n s =
    let t = new_text s.frames n in
    and_then (characters_read n t (with_frames s (with_new s.frames (replicate n 32)))) (λ (r : InputState) (done : Unit {0}). answers r t)

-- `intext(n)`: E27 where n is negative
abbrev pub intext : InputState → ℤ → TextReading
intext s (pos n) = record { wanted = text_words n; step = text_read n s }
intext s (negsuc n) = record { wanted = 0; step = refuses s NegativeLength }

-- ---- output

-- the texts, the image of the output, and the bytes written so far
pub record OutputState : Type 0 where
  pub frames : List Frame
  pub image : TextVal
  pub written : List ℕ

-- `outimage`: the image without trailing blanks and a line feed are written; the image is blank then, at position 1
abbrev pub outimage : OutputState → OutputState
outimage s =
    let cs = characters s.frames s.image in
    record {
      frames = with_characters s.frames s.image (replicate s.image.length 32);
      image = at_position s.image 1;
      written = s.written ++ (take (content_length cs) cs ++ 10 ∷ []);
    }

-- `outchar(c)`: the character at the position; `outimage` first where the image is full
abbrev pub placed : OutputState → ℕ → OutputState
placed s c = record {
  frames = with_character s.frames s.image c;
  image = at_position s.image (s.image.pos + 1);
  written = s.written;
}

abbrev pub outchar : OutputState → ℕ → OutputState
outchar s c = placed (if is_used_up s.image then outimage s else s) c

-- `outimage` where n characters do not fit in the rest of the image
abbrev pub with_room : OutputState → ℕ → OutputState
with_room s n = if nat_lt (s.image.length + 1) (s.image.pos + n) then outimage s else s

-- n characters of a text from the k-th on, each read when it is written
abbrev pub outchars : ℕ → ℕ → TextVal → OutputState → OutputState
outchars zero k t s = s
outchars (suc n) k t s = outchars n (suc k) t (outchar s (slice_index (characters s.frames t) k))

-- `outtext(t)`: `outimage` first where the position is above 1 and t does not fit in the rest
abbrev pub outtext : OutputState → TextVal → OutputState
outtext s t = outchars t.length 0 t (if nat_lt 1 s.image.pos then with_room s t.length else s)

-- these characters at the left end of n places, with blanks behind them; n stars where they do not fit
abbrev pub left_justified : ℕ → List ℕ → List ℕ
left_justified n cs = if nat_le (length cs) n then padded n cs else replicate n 42

-- the field of `outint(i, w)`: right-justified in w places, exactly i where w is 0, left-justified in -w places where w < 0
abbrev pub integer_field : ℤ → ℤ → List ℕ
integer_field i (pos zero) = signed_decimal i
integer_field i (pos (suc w)) = right_justified (suc w) (signed_decimal i)
integer_field i (negsuc w) = left_justified (suc w) (signed_decimal i)

abbrev pub all_placed : OutputState → List ℕ → OutputState
all_placed s [] = s
all_placed s (c ∷ cs) = all_placed (placed s c) cs

-- `outint(i, w)`: E30 where the field is longer than the image, before anything is written; else `outimage` first where the
-- field does not fit in the rest
abbrev pub outint : OutputState → ℤ → ℤ → Result OutputState RunError
outint s i w =
    let field = integer_field i w in
    if nat_lt s.image.length (length field) then Err FieldTooLong else Ok (all_placed (with_room s (length field)) field)

-- the end of a run: the image is written where its position is above 1
abbrev pub last_image : OutputState → OutputState
last_image s = if nat_lt 1 s.image.pos then outimage s else s
