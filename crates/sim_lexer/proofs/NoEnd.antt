-- No lexeme is the end of the source.
use Rattle.std.proofs.Common.{ℕ, ◌+◌, Bool, true, false, subst, List, [], ◌∷◌, Option, Some, None, length, drop, rules}
use Rattle.std.specs.List.{All, position, starts_with, take_while}
use Rattle.std.specs.Prelude.{if◌then◌else◌, nat_eq, nat_lt, nat_le, ◌^◌, ◌&&◌, codes, slice_index}
use Rattle.std.specs.Option.{option_map_or}
use Rattle.std.specs.Str.{bytes_eq}
use Rattle.std.proofs.lemmas.List.Elements.{All-cons, All-nil, All-head, All-tail}
use Rattle.sim_base.specs.Lexeme.{bare, named}
use Rattle.sim_base.specs.declared.token.Lexeme.{Lexeme}
use Rattle.sim_base.specs.declared.token.Token.{Token}
use Rattle.sim_base.specs.declared.token.TokenKind.{TokenKind}
use Rattle.sim_base.specs.declared.token.TokenKind.TheVariants as k
use Rattle.sim_lexer.specs.Bytes.{is_digit, is_digit_of, is_letter, is_separator}
use Rattle.sim_lexer.specs.Claims.{IsNoEnd}
use Rattle.sim_lexer.specs.Constants.{Code, character, code_form, coded_character, integer, is_real_behind, number, number_in, number_value, plain_character, radix, radix_digits}
use Rattle.sim_lexer.specs.Pieces.{begun_by, comment, comment_to, lower_word, percent_line, piece, word}
use Rattle.sim_lexer.specs.Signs.{sign_in, sign, signs_of_more, signs_of_one}
use Rattle.sim_lexer.specs.Spelling.{Writes, lexeme_writes, text_writes, joined_by, joined_lexeme, neighbours, with_next}
use Rattle.sim_lexer.specs.EndComments.{is_directive}
use Rattle.sim_lexer.specs.Piece.{Piece, Nothing, Separator, Lexeme as LexemePiece, Quote, Fault}
use Rattle.sim_lexer.specs.Words.{Row, is_left_out, keyword, keywords, look_up}

abbrev pub GivesNoEnd : Piece → Type 0
GivesNoEnd Nothing = Unit {0}
GivesNoEnd (Separator size) = Unit {0}
GivesNoEnd Quote = Unit {0}
GivesNoEnd (LexemePiece lexeme size) = IsNoEnd lexeme.kind
GivesNoEnd (Fault rule) = Unit {0}

abbrev IsNoEndIf : Option TokenKind → Type 0
IsNoEndIf None = Unit {0}
IsNoEndIf (Some kind) = IsNoEnd kind

abbrev HasNoEnd : List Row → Type 0
HasNoEnd [] = Unit {0}
HasNoEnd (row ∷ rows) = IsNoEnd row.1 × HasNoEnd rows

either : (b : Bool) (p q : Piece) → GivesNoEnd p → GivesNoEnd q → GivesNoEnd (if b then p else q)
either true p q here there = here
either false p q here there = there

looked_up : (rows : List Row) (bytes : List ℕ) → HasNoEnd rows → IsNoEndIf (look_up rows bytes)
looked_up [] bytes none = tt
looked_up (row ∷ rows) bytes none =
    elim (bytes_eq bytes row.0) as (λ b. IsNoEndIf (if b then Some row.1 else look_up rows bytes)) [ true ↦ none.0 | false ↦ looked_up rows bytes none.1 ]

no_end-keyword : (bytes : List ℕ) → IsNoEndIf (keyword bytes)
unfolding keyword
no_end-keyword bytes = looked_up keywords bytes (search rules)

or_identifier : (kind : Option TokenKind) (bytes : List ℕ) → IsNoEndIf kind → IsNoEnd (option_map_or bare kind (named bytes)).kind
or_identifier None bytes none = tt
or_identifier (Some kind) bytes none = none

no_end-comment : (all : List ℕ) → GivesNoEnd (comment all)
unfolding comment
no_end-comment all = by_place (position (λ byte. nat_eq byte 59) all)
  where
    by_place : (place : Option ℕ) → GivesNoEnd (comment_to place)
    by_place None = tt
    by_place (Some place) = tt

no_end-word : (all : List ℕ) → GivesNoEnd (word all)
unfolding word
no_end-word all =
    either (bytes_eq (lower_word all) (codes "comment")) _ _ (no_end-comment all)
    (either (is_left_out (lower_word all)) _ _ tt (or_identifier (keyword (lower_word all)) (lower_word all) (no_end-keyword (lower_word all))))

no_end-integer : (base : ℕ) (digits : List ℕ) (size : ℕ) (behind : List ℕ) → GivesNoEnd (integer base digits size behind)
unfolding integer
no_end-integer base digits size behind =
    either (is_real_behind behind) _ _ tt (either (nat_lt (number_value base digits) (2 ^ 63)) _ _ tt tt)

no_end-number_in : (base : Option ℕ) (whole behind : List ℕ) → GivesNoEnd (number_in base whole behind)
no_end-number_in None whole behind = no_end-integer 10 whole (length whole) behind
no_end-number_in (Some base) whole behind =
    either (nat_eq (length (radix_digits base behind)) 0) _ _ (no_end-integer 10 whole (length whole) behind) (no_end-integer base (radix_digits base behind) _ _)

no_end-number : (all : List ℕ) → GivesNoEnd (number all)
unfolding number
no_end-number all = no_end-number_in (radix (take_while (is_digit_of 10) all)) _ _

no_end-plain : (all : List ℕ) → GivesNoEnd (plain_character all)
no_end-plain all = either (nat_le 32 (slice_index all 1) && nat_eq (slice_index all 2) 39) _ _ tt tt

no_end-coded : (form : Option Code) (all : List ℕ) → GivesNoEnd (coded_character form all)
no_end-coded None all = no_end-plain all
no_end-coded (Some form) all = either (nat_eq (slice_index all (1 + form.size)) 39) _ _ tt (no_end-plain all)

no_end-character : (all : List ℕ) → GivesNoEnd (character all)
unfolding character
no_end-character all = no_end-coded (code_form (drop 1 all)) all

no_end-sign_in : (rows : List Row) (all : List ℕ) (other : Piece) → HasNoEnd rows → GivesNoEnd other → GivesNoEnd (sign_in rows all other)
no_end-sign_in [] all other none there = there
no_end-sign_in (row ∷ rows) all other none there = either (starts_with nat_eq all row.0) _ _ none.0 (no_end-sign_in rows all other none.1 there)

no_end-sign : (all : List ℕ) → GivesNoEnd (sign all)
unfolding sign
no_end-sign all =
    either (nat_eq (slice_index all 0) 46 && is_digit (slice_index all 1)) _ _ tt
    (no_end-sign_in signs_of_more all _ (search rules) (no_end-sign_in signs_of_one all _ (search rules) tt))

no_end-percent : (all : List ℕ) → GivesNoEnd (percent_line all)
unfolding percent_line
no_end-percent all = either (is_directive all) _ _ tt tt

no_end-begun : (byte : ℕ) (all : List ℕ) → GivesNoEnd (begun_by byte all)
unfolding begun_by
no_end-begun byte all =
    either (is_separator byte) _ _ tt
    (either (nat_eq byte 33) _ _ (no_end-comment all)
    (either (is_letter byte) _ _ (no_end-word all)
    (either (is_digit byte) _ _ (no_end-number all)
    (either (nat_eq byte 34) _ _ tt
    (either (nat_eq byte 39) _ _ (no_end-character all) (no_end-sign all))))))

no_end-piece : (begins_line : Bool) (all : List ℕ) → GivesNoEnd (piece begins_line all)
unfolding piece
no_end-piece begins_line [] = tt
no_end-piece begins_line (byte ∷ rest) = either (begins_line && nat_eq byte 37) _ _ (no_end-percent (byte ∷ rest)) (no_end-begun byte (byte ∷ rest))

-- a lexeme writes no end of the source
pub no_end-written : (begins_line : Bool) (all : List ℕ) {written rest : List ℕ} {lexeme : Lexeme} → Writes (piece begins_line all) written rest lexeme → IsNoEnd lexeme.kind
no_end-written begins_line all (lexeme_writes is) = subst GivesNoEnd is (no_end-piece begins_line all)
no_end-written begins_line all (text_writes is d) = tt

-- Tokens that are joined are no end of the source.

abbrev pub IsInside : Token → Type 0
IsInside token = IsNoEnd token.lexeme.kind

abbrev JoinsNoEnd : Option Lexeme → Type 0
JoinsNoEnd None = Unit {0}
JoinsNoEnd (Some lexeme) = IsNoEnd lexeme.kind

no_end-joined : (first second : TokenKind) (bytes more : List ℕ) → JoinsNoEnd (joined_by first second bytes more)
no_end-joined k.Text k.Text bytes more = tt
no_end-joined k.And k.Then bytes more = tt
no_end-joined k.Or k.Else bytes more = tt
no_end-joined first second bytes more = tt

inside-neighbours : (made : Option Lexeme) (first next : Token) → JoinsNoEnd made → IsInside first → IsInside next → All IsInside (neighbours made first next)
inside-neighbours None first next none here there = All-cons IsInside first (next ∷ []) here (All-cons IsInside next [] there (All-nil IsInside))
inside-neighbours (Some lexeme) first next none here there = All-cons IsInside (record first { lexeme = lexeme }) [] none (All-nil IsInside)

-- one more token
pub inside-next : (tokens : List Token) (next : Token) → All IsInside tokens → IsInside next → All IsInside (with_next tokens next)
inside-next [] next before here = All-cons IsInside next [] here (All-nil IsInside)
inside-next (last ∷ []) next before here = inside-neighbours (joined_lexeme last.lexeme next.lexeme) last next (no_end-joined last.lexeme.kind next.lexeme.kind _ _) (All-head IsInside last [] before) here
inside-next (first ∷ second ∷ rest) next before here =
    All-cons IsInside first (with_next (second ∷ rest) next) (All-head IsInside first (second ∷ rest) before)
    (inside-next (second ∷ rest) next (All-tail IsInside first (second ∷ rest) before) here)
