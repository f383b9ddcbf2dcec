-- Protection. An attribute that a class C protects is accessible at a place only if there is a class or prefixed block D around the place that
-- is C or has C in its prefix chain, and no proper prefix of D hides the attribute.
use Rattle.std.specs.Prelude.{ℕ, zero, suc, Bool, true, false, ◌||◌, ◌&&◌, not, nat_eq, if◌then◌else◌, List, length, Option, Some, None, slice_get}
use Rattle.std.specs.List.{list_any}
use Rattle.std.specs.Str.{bytes_eq}
use Rattle.sim_base.specs.declared.numbering.DeclNo.{DeclNo}
use Rattle.sim_scope.specs.declared.scopes.Declaration.{Declaration}
use Rattle.sim_scope.specs.declared.types.BlockKind.{BlockKind}
use Rattle.sim_scope.specs.declared.types.BlockKind.TheVariants as kind
use Rattle.sim_scope.specs.Levels.{base, level_beyond, some_level}
use Rattle.sim_scope.specs.Tables.{BlockOf, Tables}

abbrev pub protects_in : Option BlockOf → List ℕ → Bool
protects_in None name = false
protects_in (Some row) name = list_any (bytes_eq name) row.protected

-- whether a level protects an attribute of this name
unfoldable pub protects : Tables → (block : ℕ) → List ℕ → Bool
protects s block name = protects_in (slice_get s.blocks block) name

abbrev pub hides_in : Option BlockOf → List ℕ → Bool
hides_in None name = false
hides_in (Some row) name = list_any (bytes_eq name) row.hidden

unfoldable pub names_hidden : Tables → (block : ℕ) → List ℕ → Bool
names_hidden s block name = hides_in (slice_get s.blocks block) name

-- the innermost of so many levels, from one outward, that protects an attribute of this name
unfoldable pub protector_of : Tables → ℕ → (block : ℕ) → List ℕ → Option ℕ
protector_of s zero block name = None
protector_of s (suc more) block name = if protects s block name then Some block else level_beyond (λ b. protector_of s more b name) (base s block)

-- the level whose attribute a protection part of this level speaks of
unfoldable pub protector : Tables → (block : ℕ) → List ℕ → Option ℕ
protector s block name = protector_of s (length s.blocks) block name

abbrev pub is_level : Option ℕ → ℕ → Bool
is_level None level = false
is_level (Some block) level = nat_eq block level

-- whether a level hides the attribute of this name that another level protects
unfoldable pub hides : Tables → (level : ℕ) → List ℕ → (block : ℕ) → Bool
hides s level name block = names_hidden s block name && is_level (protector s block name) level

abbrev pub no_block : (ℕ → Bool) → Option ℕ → Bool
no_block test None = true
no_block test (Some block) = not (test block)

-- whether the text of a class or prefixed block has access to the protected attribute of a level
unfoldable pub opens : Tables → (level : ℕ) → List ℕ → (block : ℕ) → Bool
opens s level name block =
    some_level s (λ b. nat_eq b level) block && no_block (λ b. some_level s (hides s level name) b) (base s block)

abbrev pub has_text_of_levels : BlockKind → Bool
has_text_of_levels kind.Class = true
has_text_of_levels kind.Prefixed = true
has_text_of_levels _ = false

abbrev pub is_connection : BlockKind → Bool
is_connection kind.Connection = true
is_connection _ = false

abbrev pub kind_in : Option BlockOf → Option BlockKind
kind_in None = None
kind_in (Some row) = Some row.kind

abbrev pub is_so : (BlockKind → Bool) → Option BlockKind → Bool
is_so test None = false
is_so test (Some k) = test k

unfoldable pub is_kind : (BlockKind → Bool) → Tables → (block : ℕ) → Bool
is_kind test s block = is_so test (kind_in (slice_get s.blocks block))

abbrev pub around : Option BlockOf → Option ℕ
around None = None
around (Some block) = block.encloser

-- the block around a block
unfoldable pub encloser : Tables → (block : ℕ) → Option ℕ
encloser s block = around (slice_get s.blocks block)

abbrev pub holds_at : (ℕ → Bool) → Option ℕ → Bool
holds_at test None = false
holds_at test (Some block) = test block

-- whether one of so many blocks, from one outward, is so
unfoldable pub some_around_of : Tables → ℕ → (ℕ → Bool) → (block : ℕ) → Bool
some_around_of s zero test block = false
some_around_of s (suc more) test block = test block || holds_at (λ b. some_around_of s more test b) (encloser s block)

abbrev pub joined : {A : Type 0} → Option (Option A) → Option A
joined None = None
joined (Some x) = x

-- the innermost block around a token
unfoldable pub block_at : Tables → (token : ℕ) → Option ℕ
block_at s token = joined (slice_get s.places token)

-- whether one of the blocks around a token is so
unfoldable pub some_around : Tables → (ℕ → Bool) → (token : ℕ) → Bool
some_around s test token = holds_at (λ b. some_around_of s (length s.blocks) test b) (block_at s token)

-- whether the protected attribute of a level is accessible at a token
unfoldable pub is_open : Tables → (level : ℕ) → List ℕ → (token : ℕ) → Bool
is_open s level name token = some_around s (λ b. is_kind has_text_of_levels s b && opens s level name b) token

abbrev pub accessible_row : Tables → (token : ℕ) → Option Declaration → Bool
accessible_row s token None = true
accessible_row s token (Some d) = not (protects s d.block d.name) || is_open s d.block d.name token

-- whether a declaration is accessible at a token
unfoldable pub accessible : Tables → (token : ℕ) → DeclNo → Bool
accessible s token d = accessible_row s token (slice_get s.declarations d.0)
