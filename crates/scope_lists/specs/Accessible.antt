-- Which protected attributes are accessible where.
use Rattle.std.specs.Prelude.{ℕ, Bool, true, ◌||◌, ◌&&◌, not, nat_eq, List, Option, Some, None, slice_get}
use Rattle.std.specs.List.{list_any}
use Rattle.sim_base.specs.declared.numbering.DeclNo.{DeclNo}
use Rattle.sim_scope.specs.declared.scopes.Declaration.{Declaration}
use Rattle.sim_scope.specs.Access.{has_text_of_levels, is_kind, is_level, names_hidden, protects}
use Rattle.sim_scope.specs.Tables.{Tables}
use Rattle.scope_lists.specs.Lists.{Lists, around, first_that, prefix_levels}

-- the level whose attribute a protection part speaks of
abbrev pub protecting_level : (s : Tables) → Lists s → List ℕ → (block : ℕ) → Option ℕ
protecting_level s l name block = first_that (λ b. protects s b name) (l.levels block)

-- A level that hides a name hides the attribute of the first level, from itself outward, that protects one.
abbrev pub hides_it : (s : Tables) → Lists s → (level : ℕ) → List ℕ → (block : ℕ) → Bool
hides_it s l level name block = names_hidden s block name && is_level (protecting_level s l name block) level

-- The text of a class or prefixed block has access to the protected attribute of one of its levels, where no level of its prefix hides it.
abbrev pub gives_access : (s : Tables) → Lists s → (level : ℕ) → List ℕ → (block : ℕ) → Bool
gives_access s l level name block =
    is_kind has_text_of_levels s block && (list_any (λ b. nat_eq b level) (l.levels block) && not (list_any (hides_it s l level name) (prefix_levels s l block)))

-- A protected attribute is accessible at a token where one of the scopes around it has access.
abbrev pub accessible_of : (s : Tables) → Lists s → (token : ℕ) → Option Declaration → Bool
accessible_of s l token None = true
accessible_of s l token (Some d) = not (protects s d.block d.name) || list_any (gives_access s l d.block d.name) (around s l token)

-- whether a declaration is accessible at a token: it is not protected, or has access there
unfoldable pub is_accessible : (s : Tables) → Lists s → (token : ℕ) → DeclNo → Bool
is_accessible s l token d = accessible_of s l token (slice_get s.declarations d.0)
