-- Character and text constants are read as the bytes that they write.
use Rattle.std.proofs.Common.{◌≡◌, ℕ, ◌+◌, ◌<◌, Bool, true, false, List, [], ◌∷◌, ◌++◌, length, drop, refl, sym, ap, ◌∙◌, subst, arith, append_assoc, length-append, None}
use Rattle.std.proofs.lemmas.Bool.Decides.{nat_tests}
use Rattle.std.proofs.lemmas.List.{drop_at}
use Rattle.std.specs.Fmt.{decimal}
use Rattle.std.specs.List.{AllByRecursion, prefix_len, take_while}
use Rattle.std.specs.Prelude.{if◌then◌else◌, nat_eq, nat_le, slice_index, ◌&&◌, Option}
use Rattle.sim_base.specs.Lexeme.{character as character_lexeme, text}
use Rattle.sim_base.specs.declared.rule.Rule.TheVariants as x
use Rattle.sim_lexer.specs.Bytes.{is_digit_of, is_text_byte}
use Rattle.sim_lexer.specs.Constants.{Code, character, closed_form, code_form, coded_character, plain_character}
use Rattle.sim_lexer.specs.Piece.{Lexeme as LexemePiece, Fault, Quote}
use Rattle.sim_lexer.specs.Pieces.{begun_by, piece}
use Rattle.sim_lexer.specs.Spelling.{Writes, text_writes}
use Rattle.sim_lexer.specs.Texts.{Content, closes, coded, doubled, plain}
use Rattle.sim_print.specs.Spelling.{character_constant, coded as by_code, each, in_character, in_text, is_plain, text_constant}
use Rattle.print_reads.specs.Writable.{IsByte}
use Rattle.print_reads.proofs.Fronts.{front-piece}
use Rattle.print_reads.proofs.Numbers.{code_of, coded-form}

-- a byte by its code, in front of other bytes
code_behind : (n : ℕ) (rest : List ℕ) → by_code n ++ rest ≡ 33 ∷ (decimal n ++ 33 ∷ rest)
code_behind n rest = ap (λ (l : List ℕ). 33 ∷ l) (append_assoc (decimal n) (33 ∷ []) rest)

no_form : (byte : ℕ) (rest : List ℕ) → nat_eq byte 33 ≡ false → code_form (byte ∷ rest) ≡ None
no_form byte rest other =
    ap (λ b. if b then closed_form (take_while (is_digit_of 10) rest) (slice_index rest (prefix_len (is_digit_of 10) rest)) else None) other

plain_no_mark : (byte : ℕ) → is_plain byte ≡ true → nat_eq byte 33 ≡ false
plain_no_mark byte is = grind (arith, nat_tests)

plain_is_text : (byte : ℕ) → is_plain byte ≡ true → is_text_byte byte ≡ true
plain_is_text byte is = grind (arith, nat_tests)

plain_is_printed : (byte : ℕ) → is_plain byte ≡ true → nat_le 32 byte ≡ true
plain_is_printed byte is = grind (arith, nat_tests)

at_length : (front : List ℕ) (byte : ℕ) (behind : List ℕ) (n : ℕ) → n ≡ length front → slice_index (front ++ byte ∷ behind) n ≡ byte
at_length front byte behind n is = ap (slice_index (front ++ byte ∷ behind)) is ∙ by front
  where
    by : (front : List ℕ) → slice_index (front ++ byte ∷ behind) (length front) ≡ byte
    by [] = refl
    by (first ∷ front) = by front

-- ---- character constants

quoted-piece : (b : Bool) (rest : List ℕ) → piece b (39 ∷ rest) ≡ character (39 ∷ rest)
unfolding begun_by
quoted-piece b rest = front-piece b 39 rest refl

-- by its code: behind the opening quote stand the code and the closing quote
read-coded : (code : ℕ) → code < 256 → (rest : List ℕ) → character (39 ∷ (33 ∷ (decimal code ++ 33 ∷ 39 ∷ rest))) ≡ LexemePiece (character_lexeme code) (length (decimal code) + 2 + 2)
unfolding character
read-coded code small rest =
    ap (λ (form : Option Code). coded_character form all) (coded-form code small (39 ∷ rest)) ∙ ap (λ b. if b then LexemePiece (character_lexeme code) (length (decimal code) + 2 + 2) else plain_character all) closing
  where
    all : List ℕ
    all = 39 ∷ (33 ∷ (decimal code ++ 33 ∷ 39 ∷ rest))

    place : 1 + (length (decimal code) + 2) ≡ length (39 ∷ 33 ∷ (decimal code ++ 33 ∷ []))
    place = omega (arith, length-append (decimal code) (33 ∷ []))

    split : all ≡ (39 ∷ 33 ∷ (decimal code ++ 33 ∷ [])) ++ 39 ∷ rest
    split = ap (λ (l : List ℕ). 39 ∷ 33 ∷ l) (sym (append_assoc (decimal code) (33 ∷ []) (39 ∷ rest)))

    closing : nat_eq (slice_index all (1 + (length (decimal code) + 2))) 39 ≡ true
    closing =
        ap (λ (l : List ℕ). nat_eq (slice_index l (1 + (length (decimal code) + 2))) 39) split
        ∙ ap (λ byte. nat_eq byte 39) (at_length (39 ∷ 33 ∷ (decimal code ++ 33 ∷ [])) 39 rest (1 + (length (decimal code) + 2)) place)

read-plain : (code : ℕ) → is_plain code ≡ true → (rest : List ℕ) → character (39 ∷ code ∷ 39 ∷ rest) ≡ LexemePiece (character_lexeme code) 3
unfolding character
read-plain code is rest =
    ap (λ (form : Option Code). coded_character form (39 ∷ code ∷ 39 ∷ rest)) (no_form code (39 ∷ rest) (plain_no_mark code is))
    ∙ ap (λ b. if b && true then LexemePiece (character_lexeme code) 3 else Fault x.BadCharacterConstant) (plain_is_printed code is)

-- either form
data Formed (code : ℕ) : List ℕ → Type 0 where
  as_itself : is_plain code ≡ true → Formed code (code ∷ [])
  as_code : Formed code (by_code code)

formed : (code : ℕ) → Formed code (in_character code)
formed code = by (nat_eq code 39) refl (is_plain code) refl
  where
    constant : (plainly : Bool) → is_plain code ≡ plainly → Formed code (if plainly then code ∷ [] else by_code code)
    constant true is = as_itself is
    constant false is = as_code

    apostrophe : nat_eq code 39 ≡ true → Formed code (by_code 39)
    apostrophe is = subst (λ n. Formed code (by_code n)) same as_code
      where
        same : code ≡ 39
        same = grind (arith, nat_tests)

    by : (quote : Bool) → nat_eq code 39 ≡ quote → (plainly : Bool) → is_plain code ≡ plainly → Formed code (if quote then by_code 39 else if plainly then code ∷ [] else by_code code)
    by true is plainly p = apostrophe is
    by false is plainly p = constant plainly p

formed-piece : (code : ℕ) → code < 256 → (form : List ℕ) → Formed code form → (rest : List ℕ) → character (39 ∷ (form ++ 39 ∷ rest)) ≡ LexemePiece (character_lexeme code) (length (39 ∷ (form ++ 39 ∷ [])))
formed-piece code small form (as_itself is) rest = read-plain code is rest
formed-piece code small form as_code rest =
    ap (λ (l : List ℕ). character (39 ∷ l)) (code_behind code (39 ∷ rest)) ∙ read-coded code small rest ∙ ap (LexemePiece (character_lexeme code)) size
  where
    size : length (decimal code) + 2 + 2 ≡ length (39 ∷ (by_code code ++ 39 ∷ []))
    size = omega (arith, length-append (by_code code) (39 ∷ []), length-append (decimal code) (33 ∷ []))

pub character-piece : (code : ℕ) → code < 256 → (rest : List ℕ) (b : Bool)
    → piece b (character_constant code ++ rest) ≡ LexemePiece (character_lexeme code) (length (character_constant code))
character-piece code small rest b =
    quoted-piece b ((in_character code ++ 39 ∷ []) ++ rest)
    ∙ ap (λ (l : List ℕ). character (39 ∷ l)) (append_assoc (in_character code) (39 ∷ []) rest)
    ∙ formed-piece code small (in_character code) (formed code) rest

-- ---- text constants

-- one byte of a text, in front of the rest of the constant
one_byte : (byte : ℕ) → byte < 256 → {all bytes rest : List ℕ} → Content all bytes rest → Content (in_text byte ++ all) (byte ∷ bytes) rest
one_byte byte small {all} {bytes} {rest} content = by (nat_eq byte 34) refl (is_plain byte) refl
  where
    quote : nat_eq byte 34 ≡ true → Content (34 ∷ 34 ∷ all) (byte ∷ bytes) rest
    quote is = subst (λ n. Content (34 ∷ 34 ∷ all) (n ∷ bytes) rest) same (doubled refl refl content)
      where
        same : 34 ≡ byte
        same = grind (arith, nat_tests)

    behind : (front : List ℕ) → drop (length (decimal byte) + 2) (33 ∷ (decimal byte ++ 33 ∷ all)) ≡ all
    behind front =
        ap (λ (l : List ℕ). drop (length (decimal byte) + 2) l) (sym (code_behind byte all))
        ∙ drop_at (by_code byte) all (length (decimal byte) + 2) (omega (arith, length-append (decimal byte) (33 ∷ [])))

    code : Content (by_code byte ++ all) (byte ∷ bytes) rest
    code =
        subst (λ (l : List ℕ). Content l (byte ∷ bytes) rest) (sym (code_behind byte all))
        (coded (code_of byte) (coded-form byte small all) (subst (λ (l : List ℕ). Content l bytes rest) (sym (behind [])) content))

    by : (quoted : Bool) → nat_eq byte 34 ≡ quoted → (plainly : Bool) → is_plain byte ≡ plainly
        → Content ((if quoted then 34 ∷ 34 ∷ [] else if plainly then byte ∷ [] else by_code byte) ++ all) (byte ∷ bytes) rest
    by true is plainly p = quote is
    by false is true p = plain is (no_form byte all (plain_no_mark byte p)) (plain_is_text byte p) content
    by false is false p = code

content : (bytes : List ℕ) → AllByRecursion IsByte bytes → (rest : List ℕ) → nat_eq (slice_index rest 0) 34 ≡ false → Content (each in_text bytes ++ 34 ∷ rest) bytes rest
content [] small rest stops = closes refl stops
content (byte ∷ bytes) small rest stops =
    subst (λ (l : List ℕ). Content l (byte ∷ bytes) rest) (sym (append_assoc (in_text byte) (each in_text bytes) (34 ∷ rest)))
    (one_byte byte small.0 (content bytes small.1 rest stops))

quote-piece : (b : Bool) (rest : List ℕ) → piece b (34 ∷ rest) ≡ Quote
unfolding begun_by
quote-piece b rest = front-piece b 34 rest refl

pub text-writes : (bytes : List ℕ) → AllByRecursion IsByte bytes → (rest : List ℕ) → nat_eq (slice_index rest 0) 34 ≡ false → (b : Bool)
    → Writes (piece b (text_constant bytes ++ rest)) (text_constant bytes) rest (text bytes)
text-writes bytes small rest stops b =
    text_writes (quote-piece b ((each in_text bytes ++ 34 ∷ []) ++ rest))
    (subst (λ (l : List ℕ). Content l bytes rest) (sym (append_assoc (each in_text bytes) (34 ∷ []) rest)) (content bytes small rest stops))
