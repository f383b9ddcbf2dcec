-- How the code hands on what it has scanned.
use Rattle.std.specs.Prelude.{ℕ, ◌≡◌, ◌+◌, ◌<◌, ◌≤◌, List, [], ◌∷◌, Option, Some, None, Bool, true, false, drop, length, nat_eq, not, slice_index, if◌then◌else◌}
use Rattle.std.specs.List.{fold}
use Rattle.sim_base.specs.Lexeme.{text}
use Rattle.sim_base.specs.declared.rule.Rule.TheVariants as x
use Rattle.sim_base.specs.declared.token.Lexeme.{Lexeme}
use Rattle.sim_base.specs.declared.token.Token.{Token}
use Rattle.sim_base.specs.declared.token.TokenKind.{TokenKind}
use Rattle.sim_base.specs.declared.token.TokenKind.TheVariants as k
use Rattle.sim_lexer.specs.Bytes.{is_between, is_line_feed, is_text_byte}
use Rattle.sim_lexer.specs.Constants.{Code, code_form}
use Rattle.sim_lexer.specs.EndComments.{Spot, LineStart, Elsewhere}
use Rattle.sim_lexer.specs.Piece.{Piece, Separator, Lexeme as LexemePiece, Quote, Fault}
use Rattle.sim_lexer.specs.Texts.{Content}
use Rattle.sim_lexer.specs.declared.constants.CodeForm.{CodeForm}
use Rattle.sim_lexer.specs.declared.item.Item.{Item}
use Rattle.sim_lexer.specs.declared.item.Item.TheVariants as item
use Rattle.sim_lexer.specs.declared.position.Position.{Position}
use Rattle.sim_lexer.specs.declared.texts.TextPiece.{TextPiece}
use Rattle.sim_lexer.specs.declared.texts.TextPiece.TheVariants.{Closing, Means, Bad}

-- ---- places

-- the position one byte further
abbrev pub past_byte : Position → ℕ → Position
past_byte at byte =
    record {
      place = at.place + 1;
      line = if is_line_feed byte then at.line + 1 else at.line;
      begins_line = is_line_feed byte;
    }

abbrev pub past : Position → List ℕ → Position
past at bytes = fold past_byte at bytes

abbrev pub token_at : Position → Lexeme → Token
token_at at lexeme = record { lexeme = lexeme; place = at.place; line = record { 0 = at.line } }

-- ---- pieces

-- the piece that an item is
abbrev pub piece_of : Item → Piece
piece_of (item.Skipped size) = Separator size
piece_of (item.Lexeme lexeme size) = LexemePiece lexeme size
piece_of (item.Fault rule) = Fault rule

-- what stands in front of all these bytes, behind an opening quote: a text constant, or none
pub data IsText (all : List ℕ) : Item → Type 0 where
  closed : (bytes : List ℕ) (size : ℕ) → size ≤ length all → Content (drop 1 all) bytes (drop size all) → IsText all (item.Lexeme (text bytes) size)
  unclosed : ((bytes rest : List ℕ) → Content (drop 1 all) bytes rest → ⊥) → IsText all (item.Fault x.TextConstantNotClosed)

-- the item is what stands in front
pub data IsItem (front : Piece) (all : List ℕ) (found : Item) : Type 0 where
  is_piece : front ≡ piece_of found → IsItem front all found
  is_text : front ≡ Quote → IsText all found → IsItem front all found

-- ---- the comment behind an `end`

-- a place that is not inside a word or an empty line
abbrev pub spot : (begins_line : Bool) → Spot
spot true = LineStart
spot false = Elsewhere

-- ---- constants

abbrev pub code_of : Option CodeForm → Option Code
code_of None = None
code_of (Some form) = Some (record { byte = form.byte; size = form.size })

-- a byte behind an opening quote that is no quote, with what stands in front of the rest from it on
abbrev pub text_byte : Option Code → ℕ → TextPiece
text_byte (Some code) byte = Means code.byte code.size
text_byte None byte = if is_text_byte byte then Means byte 1 else Bad

-- what stands in front behind an opening quote
abbrev pub text_piece : List ℕ → TextPiece
text_piece [] = Bad
text_piece (byte ∷ rest) =
    if nat_eq byte 34 then (if nat_eq (slice_index rest 0) 34 then Means 34 2 else Closing)
    else text_byte (code_form (byte ∷ rest)) byte

abbrev pub IsPieceOf : TextPiece → List ℕ → Type 0
IsPieceOf Closing all = 0 < length all
IsPieceOf (Means byte size) all = (0 < size) × (size ≤ length all)
IsPieceOf Bad all = Unit {0}

-- ---- neighbours

-- a token of this kind may be one with the next
abbrev pub may_join : TokenKind → Bool
may_join k.Text = true
may_join k.And = true
may_join k.Or = true
may_join kind = false

abbrev pub last_may_join : List Token → Bool
last_may_join [] = false
last_may_join (last ∷ []) = may_join last.lexeme.kind
last_may_join (first ∷ second ∷ rest) = last_may_join (second ∷ rest)

-- ---- words

abbrev pub is_no_capital : ℕ → Bool
is_no_capital byte = not (is_between 65 90 byte)
