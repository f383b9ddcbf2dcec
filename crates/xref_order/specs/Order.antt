-- Rows and the lines of uses, in the order of the text.
use Rattle.std.specs.Prelude.{◌≡◌, ◌<◌, ℕ, List}
use Rattle.std.specs.List.{AllPairs, Contains}
use Rattle.sim_base.specs.declared.numbering.TokenNo.{TokenNo}
use Rattle.sim_scope.specs.Source.{Source}
use Rattle.sim_xref.specs.Rows.{RowOf}
use Rattle.sim_xref.specs.Text.{token_line}

-- the lines are exactly those of the uses, ascending and each once
pub record AreTheirLines (s : Source) (uses : List TokenNo) (lines : List ℕ) : Type 0 where
  pub all : (token : TokenNo) → Contains uses token → Contains lines (token_line s token)
  pub only : (line : ℕ) → Contains lines line → (token : TokenNo) × Contains uses token × (token_line s token ≡ line)
  pub once : AllPairs (λ (a b : ℕ). a < b) lines

-- a row whose declaration stands in front of that of another
abbrev pub InFront : RowOf → RowOf → Type 0
InFront r q = r.token.0 < q.token.0
