-- Which lexemes a canonical text can hold, and which of them may stand side by side in it.
use Rattle.std.specs.Prelude.{ℕ, ◌≡◌, ◌<◌, ◌^◌, List, [], ◌∷◌, None, Bool, true, false, codes, length, map, pos, slice_index}
use Rattle.std.specs.Char.{to_ascii_lowercase}
use Rattle.std.specs.List.{AllByRecursion, list_all}
use Rattle.std.specs.Str.{bytes_eq}
use Rattle.sim_base.specs.Lexeme.{bare, character, named, text, whole_number}
use Rattle.sim_base.specs.declared.token.Lexeme.{Lexeme}
use Rattle.sim_base.specs.declared.token.Token.{Token}
use Rattle.sim_base.specs.declared.token.TokenKind.{TokenKind}
use Rattle.sim_base.specs.declared.token.TokenKind.TheVariants as k
use Rattle.sim_lexer.specs.Bytes.{is_letter, is_word_byte}
use Rattle.sim_lexer.specs.Words.{is_left_out, keyword}
use Rattle.sim_print.specs.Words.{word}

-- an identifier: a letter, and then letters, digits and underscores, without capitals, and no word of the language
pub record IsName (name : List ℕ) : Type 0 where
  pub letter : is_letter (slice_index name 0) ≡ true
  pub all : list_all is_word_byte name ≡ true
  pub lower : map to_ascii_lowercase name ≡ name
  pub keyword : keyword name ≡ None
  pub comments : bytes_eq name (codes "comment") ≡ false
  pub left_out : is_left_out name ≡ false

abbrev pub IsByte : ℕ → Type 0
IsByte byte = byte < 256

-- a word or a sign, an identifier, an integer from 0 to 2^63 - 1, a byte as a character, or bytes as a text
pub data IsWritable : Lexeme → Type 0 where
  writes_word : (kind : TokenKind) → 0 < length (word kind) → IsWritable (bare kind)
  writes_name : (bytes : List ℕ) → IsName bytes → IsWritable (named bytes)
  writes_number : (value : ℕ) → value < 2 ^ 63 → IsWritable (whole_number (pos value))
  writes_character : (code : ℕ) → IsByte code → IsWritable (character code)
  writes_text : (bytes : List ℕ) → AllByRecursion IsByte bytes → IsWritable (text bytes)

-- a lexeme that can be written, or the end of the source
pub data IsWritableOrEnd : Lexeme → Type 0 where
  writable : {x : Lexeme} → IsWritable x → IsWritableOrEnd x
  the_end : IsWritableOrEnd (bare k.EndOfSource)

abbrev pub CanBeWritten : Token → Type 0
CanBeWritten token = IsWritableOrEnd token.lexeme

-- the comment behind an `end` stops in front of these
abbrev pub ends_comment : TokenKind → Bool
ends_comment k.Semicolon = true
ends_comment k.End = true
ends_comment k.Else = true
ends_comment k.When = true
ends_comment k.Otherwise = true
ends_comment kind = false

-- Two neighbours that are read as the two that they are. Two texts are one, `and` before `then` and `or` before `else` are one, an `end`
-- takes along what stands behind it, and a dot before a digit is no sign.
abbrev pub may_stand : (first second : TokenKind) → Bool
may_stand k.End second = ends_comment second
may_stand k.Text k.Text = false
may_stand k.And k.Then = false
may_stand k.Or k.Else = false
may_stand k.Dot k.Integer = false
may_stand first second = true

-- behind a lexeme of this kind, side by side
abbrev pub StandBehind : TokenKind → List Lexeme → Type 0
StandBehind last [] = Unit {0}
StandBehind last (x ∷ xs) = (may_stand last x.kind ≡ true) × StandBehind x.kind xs

abbrev pub Stand : List Lexeme → Type 0
Stand [] = Unit {0}
Stand (x ∷ xs) = StandBehind x.kind xs
