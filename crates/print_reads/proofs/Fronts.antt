-- Bytes of a class in front, and what a word, or another lexeme, is read as.
use Rattle.std.proofs.Common.{◌≡◌, ℕ, ◌+◌, Bool, true, false, List, [], ◌∷◌, ◌++◌, length, take, map, refl, sym, ap, ◌∙◌, arith, cond}
use Rattle.std.proofs.lemmas.Bool.{false≢true}
use Rattle.std.proofs.lemmas.Bool.Decides.{nat_tests}
use Rattle.std.proofs.lemmas.List.{take_at, drop_at}
use Rattle.std.specs.Char.{to_ascii_lowercase}
use Rattle.std.specs.List.{list_all, prefix_len, take_while}
use Rattle.std.specs.Prelude.{if◌then◌else◌, codes, nat_eq, slice_index, ◌&&◌}
use Rattle.std.specs.Str.{bytes_eq}
use Rattle.sim_base.specs.declared.token.Lexeme.{Lexeme}
use Rattle.sim_base.specs.declared.rule.Rule.TheVariants as x
use Rattle.sim_lexer.specs.Bytes.{is_digit, is_letter, is_separator, is_word_byte}
use Rattle.sim_lexer.specs.Constants.{character, number}
use Rattle.sim_lexer.specs.Piece.{Piece, Separator, Lexeme as LexemePiece, Quote, Fault}
use Rattle.sim_lexer.specs.Pieces.{begun_by, comment, comment_behind, lower_word, percent_line, piece, with_comment, word, word_lexeme, word_piece}
use Rattle.sim_lexer.specs.Signs.{sign}
use Rattle.sim_lexer.specs.Words.{is_left_out}

and_both : (a b : Bool) → (a && b) ≡ true → (a ≡ true) × (b ≡ true)
and_both true b so = (refl, so)
and_both false b so = absurd (false≢true so)

-- ---- bytes of a class in front

pub passes_all : (p : ℕ → Bool) (front rest : List ℕ) → list_all p front ≡ true → p (slice_index rest 0) ≡ false → prefix_len p (front ++ rest) ≡ length front
passes_all p [] [] all stops = refl
passes_all p [] (byte ∷ rest) all stops = ap (λ b. cond b (1 + prefix_len p rest) 0) stops
passes_all p (byte ∷ front) rest all stops =
    let both = and_both (p byte) (list_all p front) all in
    let others : prefix_len p (front ++ rest) ≡ length front = passes_all p front rest both.1 stops in
    ap (λ b. cond b (1 + prefix_len p (front ++ rest)) 0) both.0 ∙ omega (arith, others)

pub takes_all : (p : ℕ → Bool) (front rest : List ℕ) → list_all p front ≡ true → p (slice_index rest 0) ≡ false → take_while p (front ++ rest) ≡ front
takes_all p front rest all stops = ap (λ n. take n (front ++ rest)) (passes_all p front rest all stops) ∙ take_at front rest (length front) refl

-- ---- by the first byte

-- where the first byte is no `%`, it does not matter whether a line begins
pub front-piece : (b : Bool) (byte : ℕ) (rest : List ℕ) → nat_eq byte 37 ≡ false → piece b (byte ∷ rest) ≡ begun_by byte (byte ∷ rest)
unfolding piece
front-piece true byte rest other = ap (λ c. if c then percent_line (byte ∷ rest) else begun_by byte (byte ∷ rest)) other
front-piece false byte rest other = refl

begun-separator : (byte : ℕ) (all : List ℕ) → is_separator byte ≡ true → begun_by byte all ≡ Separator 1
unfolding begun_by
begun-separator byte all is =
    ap (λ a. choose byte all a (nat_eq byte 33) (is_letter byte) (is_digit byte) (nat_eq byte 34) (nat_eq byte 39)) is
  where
    choose : (byte : ℕ) (all : List ℕ) (a b c d e f : Bool) → Piece
    choose byte all a b c d e f =
        if a then Separator 1 else if b then comment all else if c then word all else if d then number all else if e then Quote else if f then character all else sign all

begun-letter : (byte : ℕ) (all : List ℕ) → is_letter byte ≡ true → begun_by byte all ≡ word all
unfolding begun_by
begun-letter byte all is = by (is_separator byte) (nat_eq byte 33) (is_letter byte) no_separator no_mark is
  where
    no_separator : is_separator byte ≡ false
    no_separator = grind (arith, nat_tests)

    no_mark : nat_eq byte 33 ≡ false
    no_mark = grind (arith, nat_tests)

    by : (a b c : Bool) → a ≡ false → b ≡ false → c ≡ true
        → (if a then Separator 1 else if b then comment all else if c then word all else if is_digit byte then number all else if nat_eq byte 34 then Quote else if nat_eq byte 39 then character all else sign all) ≡ word all
    by true b c p q r = absurd (false≢true (sym p))
    by false true c p q r = absurd (false≢true (sym q))
    by false false true p q r = refl
    by false false false p q r = absurd (false≢true r)

begun-digit : (byte : ℕ) (all : List ℕ) → is_digit byte ≡ true → begun_by byte all ≡ number all
unfolding begun_by
begun-digit byte all is = by (is_separator byte) (nat_eq byte 33) (is_letter byte) (is_digit byte) no_separator no_mark no_letter is
  where
    no_separator : is_separator byte ≡ false
    no_separator = grind (arith, nat_tests)

    no_mark : nat_eq byte 33 ≡ false
    no_mark = grind (arith, nat_tests)

    no_letter : is_letter byte ≡ false
    no_letter = grind (arith, nat_tests)

    by : (a b c d : Bool) → a ≡ false → b ≡ false → c ≡ false → d ≡ true
        → (if a then Separator 1 else if b then comment all else if c then word all else if d then number all else if nat_eq byte 34 then Quote else if nat_eq byte 39 then character all else sign all) ≡ number all
    by true b c d p q r s = absurd (false≢true (sym p))
    by false true c d p q r s = absurd (false≢true (sym q))
    by false false true d p q r s = absurd (false≢true (sym r))
    by false false false true p q r s = refl
    by false false false false p q r s = absurd (false≢true s)

-- ---- separators, words and numbers

pub separator-piece : (b : Bool) (byte : ℕ) (rest : List ℕ) → is_separator byte ≡ true → piece b (byte ∷ rest) ≡ Separator 1
separator-piece b byte rest is = front-piece b byte rest no_percent ∙ begun-separator byte (byte ∷ rest) is
  where
    no_percent : nat_eq byte 37 ≡ false
    no_percent = grind (arith, nat_tests)

pub number-piece : (b : Bool) (byte : ℕ) (rest : List ℕ) → is_digit byte ≡ true → piece b (byte ∷ rest) ≡ number (byte ∷ rest)
number-piece b byte rest is = front-piece b byte rest no_percent ∙ begun-digit byte (byte ∷ rest) is
  where
    no_percent : nat_eq byte 37 ≡ false
    no_percent = grind (arith, nat_tests)

letter-piece : (b : Bool) (byte : ℕ) (rest : List ℕ) → is_letter byte ≡ true → piece b (byte ∷ rest) ≡ word (byte ∷ rest)
letter-piece b byte rest is = front-piece b byte rest no_percent ∙ begun-letter byte (byte ∷ rest) is
  where
    no_percent : nat_eq byte 37 ≡ false
    no_percent = grind (arith, nat_tests)

-- bytes that are read as a lexeme where they are a word
pub record Worded (bytes : List ℕ) (lexeme : Lexeme) : Type 0 where
  pub letter : is_letter (slice_index bytes 0) ≡ true
  pub all : list_all is_word_byte bytes ≡ true
  pub lower : map to_ascii_lowercase bytes ≡ bytes
  pub comments : bytes_eq bytes (codes "comment") ≡ false
  pub left_out : is_left_out bytes ≡ false
  pub is : word_lexeme bytes ≡ lexeme

-- what is read in front of what is no part of the word
read-word : {bytes : List ℕ} {lexeme : Lexeme} → Worded bytes lexeme → (rest : List ℕ) → is_word_byte (slice_index rest 0) ≡ false
    → word (bytes ++ rest) ≡ LexemePiece lexeme (length bytes + comment_behind lexeme.kind rest)
unfolding word
read-word {bytes} {lexeme} w rest stops =
    ap (λ (l : List ℕ). word_piece l (bytes ++ rest)) lower ∙ by (bytes_eq bytes (codes "comment")) (is_left_out bytes) w.comments w.left_out
  where
    lower : lower_word (bytes ++ rest) ≡ bytes
    lower = ap (λ (l : List ℕ). map to_ascii_lowercase l) (takes_all is_word_byte bytes rest w.all stops) ∙ w.lower

    plain : with_comment (word_lexeme bytes) (prefix_len is_word_byte (bytes ++ rest)) (bytes ++ rest) ≡ LexemePiece lexeme (length bytes + comment_behind lexeme.kind rest)
    plain =
        ap (λ n. with_comment (word_lexeme bytes) n (bytes ++ rest)) (passes_all is_word_byte bytes rest w.all stops)
        ∙ ap (λ (l : List ℕ). LexemePiece (word_lexeme bytes) (length bytes + comment_behind (word_lexeme bytes).kind l)) (drop_at bytes rest (length bytes) refl)
        ∙ ap (λ (found : Lexeme). LexemePiece found (length bytes + comment_behind found.kind rest)) w.is

    by : (comments left : Bool) → comments ≡ false → left ≡ false
        → (if comments then comment (bytes ++ rest) else if left then Fault x.WordLeftOut else with_comment (word_lexeme bytes) (prefix_len is_word_byte (bytes ++ rest)) (bytes ++ rest))
        ≡ LexemePiece lexeme (length bytes + comment_behind lexeme.kind rest)
    by true left p q = absurd (false≢true (sym p))
    by false true p q = absurd (false≢true (sym q))
    by false false p q = plain

pub word-piece : {bytes : List ℕ} {lexeme : Lexeme} → Worded bytes lexeme → (rest : List ℕ) → is_word_byte (slice_index rest 0) ≡ false
    → (b : Bool) → piece b (bytes ++ rest) ≡ LexemePiece lexeme (length bytes + comment_behind lexeme.kind rest)
word-piece {bytes = []} w rest stops b = absurd (false≢true w.letter)
word-piece {bytes = byte ∷ bytes} w rest stops b = letter-piece b byte (bytes ++ rest) w.letter ∙ read-word w rest stops
