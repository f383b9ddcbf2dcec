-- What a block shows, and what an identifier denotes.
use Rattle.std.specs.Prelude.{ℕ, Bool, true, ◌||◌, ◌&&◌, not, if◌then◌else◌, List, [], ◌∷◌, Option, Some, None, slice_get}
use Rattle.std.specs.List.{list_any}
use Rattle.std.specs.Option.{option_or}
use Rattle.sim_base.specs.declared.numbering.DeclNo.{DeclNo}
use Rattle.sim_scope.specs.declared.scopes.Declaration.{Declaration}
use Rattle.sim_scope.specs.declared.scopes.Denotation.{Denotation}
use Rattle.sim_scope.specs.declared.scopes.Denotation.TheVariants as denotation
use Rattle.sim_scope.specs.declared.standard.StandardName.{StandardName}
use Rattle.sim_scope.specs.Scopes.{brought_by, ends_search, is_detach, is_procedure_entry, is_shown, lookup, or_itself, shows_detach, virtual_among}
use Rattle.sim_scope.specs.Standard.{standard_name}
use Rattle.sim_scope.specs.Tables.{Tables}
use Rattle.scope_lists.specs.Accessible.{is_accessible}
use Rattle.scope_lists.specs.Lists.{Lists, around, first, first_that}

-- A declaration is seen from a token where it is accessible there; from everywhere each one is seen.
abbrev pub is_seen : (s : Tables) → Lists s → (from : Option ℕ) → DeclNo → Bool
is_seen s l None d = true
is_seen s l (Some token) d = is_accessible s l token d

abbrev pub seen_of : (s : Tables) → Lists s → (from : Option ℕ) → Option DeclNo → Option DeclNo
seen_of s l from None = None
seen_of s l from (Some d) = if is_seen s l from d then Some d else None

-- One level shows what it declares, where that is seen, else what its standard prefix declares.
abbrev pub of_level : (s : Tables) → Lists s → (from : Option ℕ) → List ℕ → (level : ℕ) → Option DeclNo
of_level s l from name level = option_or (seen_of s l from (lookup s level name)) (brought_by s level name)

-- A block shows what the first of its levels shows, from itself outward.
unfoldable pub shows : (s : Tables) → Lists s → (from : Option ℕ) → List ℕ → (block : ℕ) → Option DeclNo
shows s l from name block = first (of_level s l from name) (l.levels block)

-- the blocks of a list up to the first that is so, and that one
unfoldable pub through : (ℕ → Bool) → List ℕ → List ℕ
through test [] = []
through test (b ∷ bs) = b ∷ (if test b then [] else through test bs)

-- An identifier is looked for in all scopes around, but `detach` no further than in the first that has it for an attribute.
abbrev pub searched_scopes : (s : Tables) → Lists s → (token : ℕ) → List ℕ → List ℕ
searched_scopes s l token name = through (λ b. ends_search s b name) (around s l token)

-- It is declared as what the first of these shows.
unfoldable pub declared : (s : Tables) → Lists s → (from : Option ℕ) → (token : ℕ) → List ℕ → Option DeclNo
declared s l from token name = first (shows s l from name) (searched_scopes s l token name)

-- whether it is declared at all around a token, also where that is not accessible
unfoldable pub is_declared_around : (s : Tables) → Lists s → (token : ℕ) → List ℕ → Bool
is_declared_around s l token name = is_shown (declared s l None token name)

-- It is found in the first scope around that shows it, or has it for an attribute where it is `detach`.
unfoldable pub found : (s : Tables) → Lists s → (token : ℕ) → List ℕ → Option ℕ
found s l token name = first_that (λ b. is_shown (shows s l (Some token) name b) || ends_search s b name) (around s l token)

-- The virtual of an identifier at a level: the first virtual of this name that a level declares, from there outward.
unfoldable pub virtual_at : (s : Tables) → Lists s → (level : ℕ) → List ℕ → Option DeclNo
virtual_at s l level name = first (λ b. virtual_among s (lookup s b name)) (l.levels level)

-- A procedure stands for the virtual of its identifier at its own level, where there is one; all else stands for itself.
abbrev pub stands_as : (s : Tables) → Lists s → DeclNo → Option Declaration → DeclNo
stands_as s l d None = d
stands_as s l d (Some row) = if is_procedure_entry row.entry then or_itself (virtual_at s l row.block row.name) d else d

unfoldable pub stands_for : (s : Tables) → Lists s → DeclNo → DeclNo
stands_for s l d = stands_as s l d (slice_get s.declarations d.0)

-- The standard names are seen where nothing is declared; `detach` only where a scope around has it for an attribute.
unfoldable pub standard_seen : (s : Tables) → Lists s → (token : ℕ) → List ℕ → Option StandardName
standard_seen s l token name = if is_detach name && not (list_any (shows_detach s) (around s l token)) then None else standard_name name

-- An identifier denotes what its declaration stands for, else the standard name.
abbrev pub denoted_by : (s : Tables) → Lists s → Option DeclNo → Option StandardName → Option Denotation
denoted_by s l (Some d) k = Some (denotation.Declared (stands_for s l d))
denoted_by s l None (Some k) = Some (denotation.Standard k)
denoted_by s l None None = None

unfoldable pub denotes : (s : Tables) → Lists s → (token : ℕ) → List ℕ → Option Denotation
denotes s l token name = denoted_by s l (declared s l (Some token) token name) (standard_seen s l token name)
