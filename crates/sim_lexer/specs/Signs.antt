-- The tokens that are written by signs.
use Rattle.std.specs.Prelude.{ℕ, ◌≡◌, ◌≤◌, List, [], ◌∷◌, ◌++◌, true, ◌&&◌, codes, length, nat_eq, slice_index, if◌then◌else◌}
use Rattle.std.specs.List.{starts_with}
use Rattle.sim_base.specs.Lexeme.{bare}
use Rattle.sim_base.specs.declared.rule.Rule.TheVariants as x
use Rattle.sim_base.specs.declared.token.TokenKind.TheVariants as k
use Rattle.sim_lexer.specs.Bytes.{is_digit}
use Rattle.sim_lexer.specs.Words.{Row}
use Rattle.sim_lexer.specs.Piece.{Piece, Fault, Lexeme}

-- the signs, those of more bytes first, so that the first that stands in front is the longest
abbrev pub signs_of_more : List Row
signs_of_more =
    (codes "=/=", k.OtherReference) ∷
    (codes "**", k.Power) ∷
    (codes "//", k.Divide) ∷
    (codes ":=", k.Assign) ∷
    (codes ":-", k.AssignReference) ∷
    (codes "==", k.SameReference) ∷
    (codes "<=", k.LessEqual) ∷
    (codes ">=", k.GreaterEqual) ∷
    (codes "<>", k.NotEqual) ∷
    []

abbrev pub signs_of_one : List Row
signs_of_one =
    (codes "(", k.Open) ∷
    (codes ")", k.Close) ∷
    (codes ",", k.Comma) ∷
    (codes ";", k.Semicolon) ∷
    (codes ":", k.Colon) ∷
    (codes ".", k.Dot) ∷
    (codes "+", k.Plus) ∷
    (codes "-", k.Minus) ∷
    (codes "*", k.Times) ∷
    (codes "&", k.Ampersand) ∷
    (codes "=", k.Equal) ∷
    (codes "<", k.Less) ∷
    (codes ">", k.Greater) ∷
    []

-- all signs
abbrev pub signs : List Row
signs = signs_of_more ++ signs_of_one

-- a sign that stands in front has no more than so many bytes
abbrev pub IsNoLonger : List ℕ → ℕ → Row → Type 0
IsNoLonger all size row = starts_with nat_eq all row.0 ≡ true → length row.0 ≤ size

-- the first sign of a table that stands in front, else the piece that another table gives
abbrev pub sign_in : List Row → (all : List ℕ) → Piece → Piece
sign_in [] all other = other
sign_in (row ∷ rows) all other = if starts_with nat_eq all row.0 then Lexeme (bare row.1) (length row.0) else sign_in rows all other

-- the longest sign in front; a `.` with a digit behind it is a real constant
unfoldable pub sign : List ℕ → Piece
sign all =
    if nat_eq (slice_index all 0) 46 && is_digit (slice_index all 1) then Fault x.RealConstant
    else sign_in signs_of_more all (sign_in signs_of_one all (Fault x.ByteBeginsNoToken))
