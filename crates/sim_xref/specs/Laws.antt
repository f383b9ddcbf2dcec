-- What the definitions of cross references mean, in relations that do not compute.
use Rattle.std.specs.Prelude.{◌≡◌, ◌<◌, ◌≤◌, ℕ, true, List, Some, slice_get}
use Rattle.std.specs.List.{AllPairs, Contains}
use Rattle.sim_base.specs.declared.numbering.DeclNo.{DeclNo}
use Rattle.sim_base.specs.declared.numbering.TokenNo.{TokenNo}
use Rattle.sim_scope.specs.declared.scopes.Declaration.{Declaration}
use Rattle.sim_scope.specs.declared.scopes.Denotation.TheVariants as denotation
use Rattle.sim_scope.specs.Source.{Source, denoted}
use Rattle.sim_xref.specs.Rows.{RowOf, is_of_source, row}
use Rattle.sim_xref.specs.Text.{token_line}

-- the tokens are exactly those that denote a declaration, in the order of the text and each once
pub record AreItsUses (s : Source) (d : DeclNo) (uses : List TokenNo) : Type 0 where
  pub all : (token : TokenNo) → denoted s token.0 ≡ Some (denotation.Declared d) → Contains uses token
  pub only : (token : TokenNo) → Contains uses token → denoted s token.0 ≡ Some (denotation.Declared d)
  pub once : AllPairs (λ (t u : TokenNo). t.0 < u.0) uses

-- the rows are exactly those of the declarations of the source, by their numbers and each once
pub record AreItsRows (s : Source) (rows : List RowOf) : Type 0 where
  pub all : (d : DeclNo) (x : Declaration) → slice_get s.tables.declarations d.0 ≡ Some x → is_of_source s.tables d ≡ true → Contains rows (row s d.0 x)
  pub only : (r : RowOf) → Contains rows r → (is_of_source s.tables r.decl ≡ true) × (x : Declaration) × (slice_get s.tables.declarations r.decl.0 ≡ Some x) × (r ≡ row s r.decl.0 x)
  pub once : AllPairs (λ (r q : RowOf). r.decl.0 < q.decl.0) rows

-- The lines are exactly those of the uses; where the lines of uses do not fall, ascending and each once.
pub record AreTheirLines (s : Source) (uses : List TokenNo) (lines : List ℕ) : Type 0 where
  pub all : (token : TokenNo) → Contains uses token → Contains lines (token_line s token)
  pub only : (line : ℕ) → Contains lines line → (token : TokenNo) × Contains uses token × (token_line s token ≡ line)
  pub once : AllPairs (λ (t u : TokenNo). token_line s t ≤ token_line s u) uses → AllPairs (λ (a b : ℕ). a < b) lines
