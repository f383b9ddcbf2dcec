-- The comment behind an `end`: all that stands up to the first `;` or the first whole word `end`, `else`, `when` or
-- `otherwise`, or up to the end of the source. A line in it that begins with `%` is read as anywhere: it is empty, or else a
-- directive, before which the comment stops.
use Rattle.std.specs.Prelude.{ℕ, ◌+◌, List, [], ◌∷◌, Bool, true, false, drop, ◌&&◌, ◌||◌, not, nat_eq, slice_index, if◌then◌else◌}
use Rattle.std.specs.List.{take_while}
use Rattle.sim_lexer.specs.Bytes.{is_line_feed, is_separator, is_word_byte}
use Rattle.sim_lexer.specs.Words.{is_stop_word}

-- the line ends here, or a blank stands here
abbrev pub ends_or_blank : List ℕ → Bool
ends_or_blank [] = true
ends_or_blank (byte ∷ rest) = is_separator byte

-- whether a line that begins with `%` is a directive: it is an empty line where its second byte is a blank or the line ends there
abbrev pub is_directive : List ℕ → Bool
is_directive line = nat_eq (slice_index line 0) 37 && not (ends_or_blank (drop 1 line))

-- a place in the comment: where a line begins, inside a word, inside an empty line, or elsewhere
pub data Spot : Type 0 where
  LineStart : Spot
  InWord : Spot
  InEmptyLine : Spot
  Elsewhere : Spot

abbrev pub behind_byte : ℕ → Spot
behind_byte byte = if is_line_feed byte then LineStart else if is_word_byte byte then InWord else Elsewhere

-- the place one byte further
abbrev pub next_spot : Spot → ℕ → Spot
next_spot LineStart byte = if nat_eq byte 37 then InEmptyLine else behind_byte byte
next_spot InWord byte = behind_byte byte
next_spot InEmptyLine byte = if is_line_feed byte then LineStart else InEmptyLine
next_spot Elsewhere byte = behind_byte byte

-- a `;` stands here, or a word begins here that stops the comment
abbrev pub stands_stop : List ℕ → Bool
stands_stop rest = nat_eq (slice_index rest 0) 59 || is_stop_word (take_while is_word_byte rest)

-- whether the comment stops at a place, in front of the rest
abbrev pub stops : Spot → List ℕ → Bool
stops LineStart rest = is_directive rest || stands_stop rest
stops InWord rest = nat_eq (slice_index rest 0) 59
stops InEmptyLine rest = false
stops Elsewhere rest = stands_stop rest

-- how many bytes from a place on stand before the first at which the comment stops
abbrev pub comment_from : Spot → List ℕ → ℕ
comment_from spot [] = 0
comment_from spot (byte ∷ rest) = if stops spot (byte ∷ rest) then 0 else 1 + comment_from (next_spot spot byte) rest

-- the number of bytes behind an `end` that are its comment
unfoldable pub end_comment : List ℕ → ℕ
end_comment rest = comment_from Elsewhere rest
