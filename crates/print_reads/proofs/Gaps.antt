-- What stands between a lexeme and the next one, and with what bytes it begins.
use Rattle.std.proofs.Common.{◌≡◌, ℕ, ◌-◌, ◌*◌, ◌<◌, Bool, true, false, List, [], ◌∷◌, ◌++◌, zero, suc, length, replicate, refl, sym, ap, ◌∙◌, subst, arith}
use Rattle.std.proofs.lemmas.Bool.{false≢true}
use Rattle.std.proofs.lemmas.Bool.Decides.{nat_tests}
use Rattle.std.specs.List.{AllByRecursion}
use Rattle.std.specs.Prelude.{if◌then◌else◌, slice_index, ◌||◌}
use Rattle.sim_base.specs.declared.token.Lexeme.{Lexeme}
use Rattle.sim_base.specs.declared.token.TokenKind.{TokenKind}
use Rattle.sim_base.specs.declared.token.TokenKind.TheVariants as k
use Rattle.sim_lexer.specs.Bytes.{is_digit, is_letter}
use Rattle.sim_print.specs.Layout.{behind, between, ends_line, holds_back, holds_on, is_applied, is_end, line_of, open_at, open_behind, text_of}
use Rattle.sim_print.specs.Spelling.{spelling}
use Rattle.sim_print.specs.Words.{word}
use Rattle.print_reads.specs.Writable.{IsWritable, writes_word, writes_name, writes_number, writes_character, writes_text, StandBehind, may_stand}
use Rattle.print_reads.proofs.Behind.{Blank, Line, Semicolon, Comma, Close, Open, Dot, Breaks}

-- in front of the next lexeme, and at the end of the text
abbrev pub gap_of : ℕ → TokenKind → List Lexeme → List ℕ
gap_of depth last [] = 10 ∷ []
gap_of depth last (x ∷ xs) = between (line_of (open_at x.kind depth)) last x.kind

-- from the next lexeme on
abbrev pub text_from : ℕ → List Lexeme → List ℕ
text_from depth [] = []
text_from depth (x ∷ xs) =
    spelling x ++ (gap_of (open_behind x.kind (open_at x.kind depth)) x.kind xs ++ text_from (open_behind x.kind (open_at x.kind depth)) xs)

abbrev pub text_behind : ℕ → TokenKind → List Lexeme → List ℕ
text_behind depth last xs = gap_of depth last xs ++ text_from depth xs

is_behind : (depth : ℕ) (last : TokenKind) (xs : List Lexeme) → behind depth last xs ≡ text_behind depth last xs
is_behind depth last [] = refl
is_behind depth last (x ∷ xs) =
    let at = open_at x.kind depth in
    ap (λ (l : List ℕ). between (line_of at) last x.kind ++ (spelling x ++ l)) (is_behind (open_behind x.kind at) x.kind xs)

none_open : (kind : TokenKind) → 0 ≡ open_at kind 0
none_open kind = by (is_end kind)
  where
    by : (b : Bool) → 0 ≡ (if b then 0 - 1 else 0)
    by true = refl
    by false = refl

pub whole_text : (x : Lexeme) (xs : List Lexeme) → text_of (x ∷ xs) ≡ text_from 0 (x ∷ xs)
whole_text x xs =
    ap (λ n. spelling x ++ behind (open_behind x.kind n) x.kind xs) (none_open x.kind)
    ∙ ap (λ (l : List ℕ). spelling x ++ l) (is_behind (open_behind x.kind (open_at x.kind 0)) x.kind xs)

-- ---- gaps are blanks and line feeds

pub data IsGap : List ℕ → Type 0 where
  none : IsGap []
  line : {rest : List ℕ} → IsGap rest → IsGap (10 ∷ rest)
  blank : {rest : List ℕ} → IsGap rest → IsGap (32 ∷ rest)

blanks : (n : ℕ) → IsGap (replicate n 32)
blanks zero = none
blanks (suc n) = blank (blanks n)

between-gap : (depth : ℕ) (last next : TokenKind) → IsGap (between (line_of depth) last next)
unfolding between
between-gap depth last next = by (ends_line last || is_end next) (holds_back next || (holds_on last || is_applied last next))
  where
    by : (a b : Bool) → IsGap (if a then line_of depth else if b then [] else 32 ∷ [])
    by true b = line (blanks (2 * depth))
    by false true = none
    by false false = blank none

pub gap-is : (depth : ℕ) (last : TokenKind) (xs : List Lexeme) → IsGap (gap_of depth last xs)
gap-is depth last [] = line none
gap-is depth last (x ∷ xs) = between-gap (open_at x.kind depth) last x.kind

-- ---- no digit behind a dot

word_no_digit : (kind : TokenKind) → is_digit (slice_index (word kind) 0) ≡ false
unfolding word
word_no_digit k.Activate = refl
word_no_digit _ = refl

first_of : (xs ys : List ℕ) → 0 < length xs → slice_index (xs ++ ys) 0 ≡ slice_index xs 0
first_of [] ys some = absurd (omega arith)
first_of (x ∷ xs) ys some = refl

letter_no_digit : (byte : ℕ) → is_letter byte ≡ true → is_digit byte ≡ false
letter_no_digit byte is = grind (arith, nat_tests)

name_first : (bytes tail : List ℕ) → is_letter (slice_index bytes 0) ≡ true → is_digit (slice_index (bytes ++ tail) 0) ≡ false
name_first [] tail letter = absurd (false≢true letter)
name_first (byte ∷ bytes) tail letter = letter_no_digit byte letter

no_digit_first : (y : Lexeme) → IsWritable y → may_stand k.Dot y.kind ≡ true → (tail : List ℕ) → is_digit (slice_index (spelling y ++ tail) 0) ≡ false
unfolding spelling
no_digit_first y (writes_word kind some) stand tail = ap is_digit (first_of (word kind) tail some) ∙ word_no_digit kind
no_digit_first y (writes_name bytes is) stand tail = name_first bytes tail is.letter
no_digit_first y (writes_number value small) stand tail = absurd (false≢true stand)
no_digit_first y (writes_character code small) stand tail = refl
no_digit_first y (writes_text bytes small) stand tail = refl

pub no_digit_behind : (depth : ℕ) (xs : List Lexeme) → AllByRecursion IsWritable xs → StandBehind k.Dot xs → is_digit (slice_index (text_behind depth k.Dot xs) 0) ≡ false
unfolding between
no_digit_behind depth [] all stand = refl
no_digit_behind depth (y ∷ ys) all stand = by (is_end y.kind) (holds_back y.kind)
  where
    here : ℕ
    here = open_at y.kind depth

    tail : List ℕ
    tail = text_behind (open_behind y.kind here) y.kind ys

    by : (a b : Bool) → is_digit (slice_index ((if a then line_of here else if b || (true || is_applied k.Dot y.kind) then [] else 32 ∷ []) ++ (spelling y ++ tail)) 0) ≡ false
    by true b = refl
    by false true = no_digit_first y all.0 stand.0 tail
    by false false = no_digit_first y all.0 stand.0 tail

-- ---- what stands behind a lexeme that holds nothing on

held_word : (kind : TokenKind) → holds_back kind ≡ true → (tail : List ℕ) → (kind ≡ k.Dot → is_digit (slice_index tail 0) ≡ false) → Breaks (word kind ++ tail)
unfolding word
held_word k.Semicolon held tail dot = record { break = Semicolon; rest = tail; is = refl; no_real = tt }
held_word k.Comma held tail dot = record { break = Comma; rest = tail; is = refl; no_real = tt }
held_word k.Close held tail dot = record { break = Close; rest = tail; is = refl; no_real = tt }
held_word k.Dot held tail dot = record { break = Dot; rest = tail; is = refl; no_real = dot refl }
held_word _ held tail dot = absurd (false≢true held)

held : (y : Lexeme) → IsWritable y → holds_back y.kind ≡ true → (tail : List ℕ) → (y.kind ≡ k.Dot → is_digit (slice_index tail 0) ≡ false) → Breaks (spelling y ++ tail)
unfolding spelling
held y (writes_word kind some) is tail dot = held_word kind is tail dot
held y (writes_name bytes name) is tail dot = absurd (false≢true is)
held y (writes_number value small) is tail dot = absurd (false≢true is)
held y (writes_character code small) is tail dot = absurd (false≢true is)
held y (writes_text bytes small) is tail dot = absurd (false≢true is)

applied_word : (last kind : TokenKind) → is_applied last kind ≡ true → (tail : List ℕ) → Breaks (word kind ++ tail)
unfolding word
applied_word k.Identifier k.Open is tail = record { break = Open; rest = tail; is = refl; no_real = tt }
applied_word _ _ is tail = absurd (false≢true is)

applied : (last : TokenKind) (y : Lexeme) → IsWritable y → is_applied last y.kind ≡ true → (tail : List ℕ) → Breaks (spelling y ++ tail)
unfolding spelling
applied last y (writes_word kind some) is tail = applied_word last kind is tail
applied last y (writes_name bytes name) is tail = absurd (false≢true (never last is))
  where
    never : (last : TokenKind) → is_applied last k.Identifier ≡ true → false ≡ true
    never k.Identifier h = h
    never _ h = h
applied last y (writes_number value small) is tail = absurd (false≢true (never last is))
  where
    never : (last : TokenKind) → is_applied last k.Integer ≡ true → false ≡ true
    never k.Identifier h = h
    never _ h = h
applied last y (writes_character code small) is tail = absurd (false≢true (never last is))
  where
    never : (last : TokenKind) → is_applied last k.Character ≡ true → false ≡ true
    never k.Identifier h = h
    never _ h = h
applied last y (writes_text bytes small) is tail = absurd (false≢true (never last is))
  where
    never : (last : TokenKind) → is_applied last k.Text ≡ true → false ≡ true
    never k.Identifier h = h
    never _ h = h

pub breaks_behind : (depth : ℕ) (last : TokenKind) (xs : List Lexeme) → AllByRecursion IsWritable xs → StandBehind last xs → holds_on last ≡ false → Breaks (text_behind depth last xs)
unfolding between
breaks_behind depth last [] all stand loose = record { break = Line; rest = []; is = refl; no_real = tt }
breaks_behind depth last (y ∷ ys) all stand loose = by (ends_line last || is_end y.kind) (holds_back y.kind) refl (holds_on last) loose (is_applied last y.kind) refl
  where
    here : ℕ
    here = open_at y.kind depth

    below : ℕ
    below = open_behind y.kind here

    tail : List ℕ
    tail = text_behind below y.kind ys

    at_dot : y.kind ≡ k.Dot → is_digit (slice_index tail 0) ≡ false
    at_dot dot =
        ap (λ (kind : TokenKind). is_digit (slice_index (text_behind below kind ys) 0)) dot
        ∙ no_digit_behind below ys all.1 (subst (λ (kind : TokenKind). StandBehind kind ys) dot stand.1)

    by : (a b : Bool) → holds_back y.kind ≡ b → (c : Bool) → c ≡ false → (d : Bool) → is_applied last y.kind ≡ d
        → Breaks ((if a then line_of here else if b || (c || d) then [] else 32 ∷ []) ++ (spelling y ++ tail))
    by true b is c so d app = record { break = Line; rest = replicate (2 * here) 32 ++ (spelling y ++ tail); is = refl; no_real = tt }
    by false true is c so d app = held y all.0 is tail at_dot
    by false false is true so d app = absurd (false≢true (sym so))
    by false false is false so true app = applied last y all.0 app tail
    by false false is false so false app = record { break = Blank; rest = spelling y ++ tail; is = refl; no_real = tt }
