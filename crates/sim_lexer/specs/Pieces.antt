-- Separators, lexemes and broken rules, by the first byte.
use Rattle.std.specs.Prelude.{ℕ, ◌+◌, List, [], ◌∷◌, Option, Some, None, Bool, drop, ◌&&◌, codes, map, nat_eq, if◌then◌else◌}
use Rattle.std.specs.Char.{to_ascii_lowercase}
use Rattle.std.specs.List.{position, prefix_len, take_while}
use Rattle.std.specs.Option.{option_map_or}
use Rattle.std.specs.Str.{bytes_eq}
use Rattle.sim_base.specs.Lexeme.{bare, named}
use Rattle.sim_base.specs.declared.rule.Rule.TheVariants as x
use Rattle.sim_base.specs.declared.token.Lexeme.{Lexeme}
use Rattle.sim_base.specs.declared.token.TokenKind.{TokenKind}
use Rattle.sim_base.specs.declared.token.TokenKind.TheVariants as k
use Rattle.sim_lexer.specs.Bytes.{is_digit, is_in_line, is_letter, is_separator, is_word_byte}
use Rattle.sim_lexer.specs.Constants.{character, number}
use Rattle.sim_lexer.specs.EndComments.{end_comment, is_directive}
use Rattle.sim_lexer.specs.Piece.{Piece, Nothing, Separator, Lexeme as LexemePiece, Quote, Fault}
use Rattle.sim_lexer.specs.Signs.{sign}
use Rattle.sim_lexer.specs.Words.{is_left_out, keyword}

-- a line that begins with `%`: an empty line, or a directive, which is left out
unfoldable pub percent_line : List ℕ → Piece
percent_line line = if is_directive line then Fault x.Directive else Separator (prefix_len is_in_line line)

-- a comment, up to the next `;` and with it
abbrev pub comment_to : Option ℕ → Piece
comment_to None = Fault x.CommentNotClosed
comment_to (Some place) = Separator (place + 1)

unfoldable pub comment : List ℕ → Piece
comment all = comment_to (position (λ byte. nat_eq byte 59) all)

-- the longest word in front, in lower case
abbrev pub lower_word : List ℕ → List ℕ
lower_word all = map to_ascii_lowercase (take_while is_word_byte all)

-- a keyword or an identifier
abbrev pub word_lexeme : List ℕ → Lexeme
word_lexeme word = option_map_or bare (keyword word) (named word)

-- how many bytes behind a word belong to it: behind `end` its comment
abbrev pub comment_behind : TokenKind → List ℕ → ℕ
comment_behind k.End behind = end_comment behind
comment_behind kind behind = 0

-- the lexeme of a word of so many bytes, with what belongs to it
abbrev pub with_comment : Lexeme → (size : ℕ) → List ℕ → Piece
with_comment lexeme size all = LexemePiece lexeme (size + comment_behind lexeme.kind (drop size all))

-- a word: it begins a comment, is left out, is a keyword or is an identifier
abbrev pub word_piece : (lower : List ℕ) → List ℕ → Piece
word_piece lower all =
    if bytes_eq lower (codes "comment") then comment all
    else if is_left_out lower then Fault x.WordLeftOut
    else with_comment (word_lexeme lower) (prefix_len is_word_byte all) all

unfoldable pub word : List ℕ → Piece
word all = word_piece (lower_word all) all

-- what a byte begins, with all that stands from it on
unfoldable pub begun_by : ℕ → List ℕ → Piece
begun_by byte all =
    if is_separator byte then Separator 1
    else if nat_eq byte 33 then comment all
    else if is_letter byte then word all
    else if is_digit byte then number all
    else if nat_eq byte 34 then Quote
    else if nat_eq byte 39 then character all
    else sign all

-- what stands in front, also where a line begins there
unfoldable pub piece : (begins_line : Bool) → List ℕ → Piece
piece begins_line [] = Nothing
piece begins_line (byte ∷ rest) = if begins_line && nat_eq byte 37 then percent_line (byte ∷ rest) else begun_by byte (byte ∷ rest)
