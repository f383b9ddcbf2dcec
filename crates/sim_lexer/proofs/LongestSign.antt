-- The first sign of the table that stands in front is the longest.
use Rattle.std.proofs.Common.{◌≡◌, ℕ, ◌≤◌, Bool, true, false, List, [], ◌∷◌, refl, sym, ◌∙◌, length, nat_eq, cond, arith, rules}
use Rattle.std.proofs.lemmas.Bool.{false≢true}
use Rattle.std.proofs.lemmas.List.Elements.{All-from_recursion}
use Rattle.std.specs.List.{All, AllByRecursion, starts_with}
use Rattle.std.specs.Prelude.{◌&&◌, slice_index}
use Rattle.sim_lexer.specs.Bytes.{is_digit}
use Rattle.sim_base.specs.Lexeme.{bare}
use Rattle.sim_base.specs.declared.token.Lexeme.{Lexeme}
use Rattle.sim_base.specs.declared.rule.Rule.TheVariants as x
use Rattle.sim_lexer.specs.Signs.{IsNoLonger, sign_in, sign, signs}
use Rattle.sim_lexer.specs.Words.{Row}
use Rattle.sim_lexer.specs.Piece.{Lexeme as LexemePiece, Fault}

-- no row is longer
abbrev NoneLonger : ℕ → List Row → Type 0
NoneLonger most [] = Unit {0}
NoneLonger most (row ∷ rows) = (length row.0 ≤ most) × NoneLonger most rows

-- no row is longer than one before it
abbrev pub IsFalling : List Row → Type 0
IsFalling [] = Unit {0}
IsFalling (row ∷ rows) = NoneLonger (length row.0) rows × IsFalling rows

none_longer : (all : List ℕ) (most size : ℕ) (rows : List Row) → most ≡ size → NoneLonger most rows → AllByRecursion (IsNoLonger all size) rows
none_longer all most size [] same short = tt
none_longer all most size (row ∷ rows) same short = ((λ stands. omega (arith, short.0)), none_longer all most size rows same short.1)

-- the piece in front by whether the first row stands there
longest_by : (all : List ℕ) (row : Row) (rows : List Row) (lexeme : Lexeme) (size : ℕ) (stands : Bool) → starts_with nat_eq all row.0 ≡ stands
    → IsFalling (row ∷ rows)
    → (sign_in rows all (Fault x.ByteBeginsNoToken) ≡ LexemePiece lexeme size → AllByRecursion (IsNoLonger all size) rows)
    → cond stands (LexemePiece (bare row.1) (length row.0)) (sign_in rows all (Fault x.ByteBeginsNoToken)) ≡ LexemePiece lexeme size
    → AllByRecursion (IsNoLonger all size) (row ∷ rows)
longest_by all row rows lexeme size true is falling others front =
    let same : length row.0 ≡ size = cc in
    ((λ stands. omega (arith, same)), none_longer all (length row.0) size rows same falling.0)
longest_by all row rows lexeme size false is falling others front =
    ((λ stands. absurd (false≢true (sym is ∙ stands))), others front)

pub longest : (all : List ℕ) (rows : List Row) (lexeme : Lexeme) (size : ℕ) → IsFalling rows → sign_in rows all (Fault x.ByteBeginsNoToken) ≡ LexemePiece lexeme size
    → AllByRecursion (IsNoLonger all size) rows
longest all [] lexeme size falling front = tt
longest all (row ∷ rows) lexeme size falling front =
    longest_by all row rows lexeme size (starts_with nat_eq all row.0) refl falling (longest all rows lexeme size falling.1) front

-- the table is in order
signs-falling : IsFalling signs
signs-falling = search rules

behind_dot : (all : List ℕ) (lexeme : Lexeme) (size : ℕ) (is_real : Bool)
    → cond is_real (Fault x.RealConstant) (sign_in signs all (Fault x.ByteBeginsNoToken)) ≡ LexemePiece lexeme size → AllByRecursion (IsNoLonger all size) signs
behind_dot all lexeme size true front = cc
behind_dot all lexeme size false front = longest all signs lexeme size signs-falling front

pub longest_sign : (all : List ℕ) (lexeme : Lexeme) (size : ℕ) → sign all ≡ LexemePiece lexeme size → All (IsNoLonger all size) signs
unfolding sign
longest_sign all lexeme size front =
    All-from_recursion (IsNoLonger all size) signs
    (behind_dot all lexeme size (nat_eq (slice_index all 0) 46 && is_digit (slice_index all 1)) front)
