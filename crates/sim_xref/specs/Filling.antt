-- How the rows of declarations come to their uses, token by token.
use Rattle.std.specs.Prelude.{◌≡◌, ℕ, ◌+◌, List, [], ◌∷◌, ◌++◌, Option, Some, None, drop, slice_get, slice_set}
use Rattle.sim_base.specs.declared.numbering.TokenNo.{TokenNo}
use Rattle.sim_scope.specs.declared.scopes.Declaration.{Declaration}
use Rattle.sim_scope.specs.declared.scopes.Denotation.{Denotation}
use Rattle.sim_scope.specs.declared.scopes.Denotation.TheVariants as denotation
use Rattle.sim_xref.specs.Rows.{RowOf, uses_from}

-- a declaration without uses
abbrev pub unused : (number : ℕ) → Declaration → RowOf
unused number d = record { name = d.name; decl = record { 0 = number }; token = d.token; uses = [] }

-- declarations that are numbered from one on, without uses
abbrev pub unused_from : (number : ℕ) → List Declaration → List RowOf
unused_from number [] = []
unused_from number (d ∷ ds) = unused number d ∷ unused_from (number + 1) ds

-- rows that are numbered from one on, with their uses among tokens that are numbered from one on
unfoldable pub with_uses : (token : ℕ) → List (Option Denotation) → (number : ℕ) → List RowOf → List RowOf
with_uses token os number [] = []
with_uses token os number (r ∷ rs) = record r { uses = r.uses ++ uses_from token os number } ∷ with_uses token os (number + 1) rs

-- a row with one use more
abbrev pub used : RowOf → TokenNo → RowOf
used r token = record r { uses = r.uses ++ token ∷ [] }

-- the same of one of several
abbrev pub used_once : TokenNo → Option RowOf → (number : ℕ) → List RowOf → List RowOf
used_once token None number rows = rows
used_once token (Some r) number rows = slice_set rows number (used r token)

unfoldable pub with_use : TokenNo → Option Denotation → List RowOf → List RowOf
with_use token None rows = rows
with_use token (Some (denotation.Standard name)) rows = rows
with_use token (Some (denotation.Declared d)) rows = used_once token (slice_get rows d.0) d.0 rows

-- in a loop: what is left gives the rows what all gives them
unfoldable pub Fills : List (Option Denotation) → (before now : List RowOf) → ℕ → Type 0
Fills os before now i = with_uses i (drop i os) 0 now ≡ with_uses 0 os 0 before
