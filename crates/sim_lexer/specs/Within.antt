-- How far a piece reaches.
use Rattle.std.specs.Prelude.{ℕ, ◌≡◌, ◌<◌, ◌≤◌, List, length}
use Rattle.sim_lexer.specs.Piece.{Piece, Nothing, Separator, Lexeme, Quote, Fault}

-- at least one byte, and at most so many
pub record IsPiece (size most : ℕ) : Type 0 where
  pub some : 0 < size
  pub within : size ≤ most

-- the piece ends within so many bytes, of which there are none where it is none
abbrev pub EndsWithin : Piece → ℕ → Type 0
EndsWithin Nothing most = most ≡ 0
EndsWithin (Separator size) most = IsPiece size most
EndsWithin (Lexeme lexeme size) most = IsPiece size most
EndsWithin Quote most = Unit {0}
EndsWithin (Fault rule) most = Unit {0}

abbrev pub IsWithin : Piece → List ℕ → Type 0
IsWithin piece all = EndsWithin piece (length all)
