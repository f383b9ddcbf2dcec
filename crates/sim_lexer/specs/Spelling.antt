-- The spelling of a source: the tokens that it spells, or the rule of spelling that it breaks first.
--
-- From its first byte on a source is written as separators and lexemes, one behind the other. A separator is a blank, a line
-- feed, a comment or an empty line; it spells nothing. A lexeme is a word, a number, a character or text constant or a sign,
-- the longest that stands there; it spells a token. `Pieces` says which of them stands in front of the rest of a source.
use Rattle.std.specs.Prelude.{ℕ, ◌≡◌, ◌+◌, ◌<◌, ◌≤◌, List, [], ◌∷◌, ◌++◌, Option, Some, None, Bool, true, drop, length, nat_eq}
use Rattle.std.specs.List.{count_by, fold}
use Rattle.sim_base.specs.Lexeme.{bare, bytes_of, text}
use Rattle.sim_base.specs.declared.rule.Rule.{Rule}
use Rattle.sim_base.specs.declared.rule.Rule.TheVariants.{SourceTooLong, TextConstantNotClosed}
use Rattle.sim_base.specs.declared.token.Lexeme.{Lexeme}
use Rattle.sim_base.specs.declared.token.Token.{Token}
use Rattle.sim_base.specs.declared.token.TokenKind.{TokenKind}
use Rattle.sim_base.specs.declared.token.TokenKind.TheVariants as k
use Rattle.sim_lexer.specs.Bytes.{is_line_feed}
use Rattle.sim_lexer.specs.Piece.{Piece, Separator, Lexeme as LexemePiece, Quote, Fault}
use Rattle.sim_lexer.specs.Pieces.{piece}
use Rattle.sim_lexer.specs.Texts.{Content}

-- what a source reads as: the tokens that it spells, or the rule that it breaks and the place
pub data Lexed : Type 0 where
  Spelled : List Token → Lexed
  Broken : Rule → ℕ → Lexed

-- a line begins at the start and behind each line feed
abbrev pub begins_line : (before : List ℕ) → Bool
begins_line before = fold (λ begins byte. is_line_feed byte) true before

-- the line behind these bytes: one more than their line feeds
abbrev pub line_behind : (before : List ℕ) → ℕ
line_behind before = 1 + count_by (nat_eq 10) before

-- the token of this lexeme that begins behind these bytes: its place is their number
abbrev pub token : (before : List ℕ) → Lexeme → Token
token before lexeme = record { lexeme = lexeme; place = length before; line = record { 0 = line_behind before } }

-- a token in front of what the rest reads as
abbrev pub with_token : Token → Lexed → Lexed
with_token token (Spelled tokens) = Spelled (token ∷ tokens)
with_token token (Broken rule place) = Broken rule place

-- the bytes in front of the rest write a lexeme; a text constant is a quote, what it means and its closing quote
pub data Writes (front : Piece) (written rest : List ℕ) : Lexeme → Type 0 where
  lexeme_writes : {lexeme : Lexeme} → front ≡ LexemePiece lexeme (length written) → Writes front written rest lexeme
  text_writes : {bytes : List ℕ} → front ≡ Quote → Content (drop 1 (written ++ rest)) bytes rest → Writes front written rest (text bytes)

-- a rule is broken in front
pub data Breaks (front : Piece) (all : List ℕ) : Rule → Type 0 where
  piece_breaks : {rule : Rule} → front ≡ Fault rule → Breaks front all rule
  text_breaks : front ≡ Quote → ((bytes rest : List ℕ) → Content (drop 1 all) bytes rest → ⊥) → Breaks front all TextConstantNotClosed

-- what the rest of a source reads as, with the bytes before it: at its end it spells the last token; a separator is passed
-- over; a lexeme spells a token in front of those of what stands behind it; and a broken rule ends all
pub data Spells : (before all : List ℕ) → Lexed → Type 0 where
  ends : {before : List ℕ} → Spells before [] (Spelled (token before (bare k.EndOfSource) ∷ []))
  passes : {before all : List ℕ} {answer : Lexed} (separator rest : List ℕ)
      → all ≡ separator ++ rest → piece (begins_line before) all ≡ Separator (length separator)
      → Spells (before ++ separator) rest answer
      → Spells before all answer
  gives : {before all : List ℕ} {answer : Lexed} (lexeme : Lexeme) (written rest : List ℕ)
      → all ≡ written ++ rest → Writes (piece (begins_line before) all) written rest lexeme
      → Spells (before ++ written) rest answer
      → Spells before all (with_token (token before lexeme) answer)
  breaks : {before all : List ℕ} (rule : Rule)
      → Breaks (piece (begins_line before) all) all rule
      → Spells before all (Broken rule (length before))

-- the one lexeme that two neighbours of these kinds and bytes make: two text constants with only separators between them,
-- `and` and `then`, `or` and `else`
abbrev pub joined_by : (first second : TokenKind) (bytes more : List ℕ) → Option Lexeme
joined_by k.Text k.Text bytes more = Some (text (bytes ++ more))
joined_by k.And k.Then bytes more = Some (bare k.AndThen)
joined_by k.Or k.Else bytes more = Some (bare k.OrElse)
joined_by first second bytes more = None

abbrev pub joined_lexeme : Lexeme → Lexeme → Option Lexeme
joined_lexeme first next = joined_by first.kind next.kind (bytes_of first.value) (bytes_of next.value)

-- two neighbours, or the one token that they make, at the place of the first
abbrev pub neighbours : Option Lexeme → Token → Token → List Token
neighbours None first next = first ∷ next ∷ []
neighbours (Some lexeme) first next = record first { lexeme = lexeme } ∷ []

-- tokens with one more behind them, which is joined to the last where the two make one
abbrev pub with_next : List Token → Token → List Token
with_next [] next = next ∷ []
with_next (last ∷ []) next = neighbours (joined_lexeme last.lexeme next.lexeme) last next
with_next (first ∷ second ∷ rest) next = first ∷ with_next (second ∷ rest) next

-- the tokens with neighbours joined
abbrev pub joined : List Token → List Token
joined tokens = fold with_next [] tokens

abbrev pub with_joined : Lexed → Lexed
with_joined (Spelled tokens) = Spelled (joined tokens)
with_joined (Broken rule place) = Broken rule place

-- what a source reads as
pub data Reads (source : List ℕ) : Lexed → Type 0 where
  too_long : 1048576 < length source → Reads source (Broken SourceTooLong 1048576)
  reads : {answer : Lexed} → length source ≤ 1048576 → Spells [] source answer → Reads source (with_joined answer)
