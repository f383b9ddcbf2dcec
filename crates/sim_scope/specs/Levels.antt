-- The levels of a class, a prefixed block or a connection: itself, then what it has for a prefix, and so on outward. The class that is connected
-- is the next level of a connection.
use Rattle.std.specs.Prelude.{ℕ, zero, suc, Bool, true, false, ◌||◌, nat_eq, if◌then◌else◌, length, Option, Some, None, slice_get}
use Rattle.sim_base.specs.declared.numbering.DeclNo.{DeclNo}
use Rattle.sim_scope.specs.declared.types.BlockKind.{BlockKind}
use Rattle.sim_scope.specs.declared.types.BlockKind.TheVariants as kind
use Rattle.sim_scope.specs.declared.types.Entry.{Entry}
use Rattle.sim_scope.specs.declared.types.Entry.TheVariants as entry
use Rattle.sim_scope.specs.declared.types.StandardPrefix.{StandardPrefix}
use Rattle.sim_scope.specs.declared.types.StandardPrefix.TheVariants as standard
use Rattle.sim_scope.specs.Tables.{BlockOf, Tables}

abbrev pub base_in : Option BlockOf → Option ℕ
base_in None = None
base_in (Some row) = row.base

-- the next level outward
unfoldable pub base : Tables → (block : ℕ) → Option ℕ
base s block = base_in (slice_get s.blocks block)

abbrev pub holds : (ℕ → Bool) → Option ℕ → Bool
holds test None = false
holds test (Some block) = test block

-- whether one of so many levels, from this one outward, is so
unfoldable pub some_level_of : Tables → ℕ → (ℕ → Bool) → (block : ℕ) → Bool
some_level_of s zero test block = false
some_level_of s (suc more) test block = test block || holds (λ b. some_level_of s more test b) (base s block)

-- whether one of the levels is so
abbrev pub some_level : Tables → (ℕ → Bool) → (block : ℕ) → Bool
some_level s test block = some_level_of s (length s.blocks) test block

-- whether a block is one of the levels of another
unfoldable pub has_level : Tables → (block level : ℕ) → Bool
has_level s block level = some_level s (λ b. nat_eq b level) block

abbrev pub standard_in : Option BlockOf → Option StandardPrefix
standard_in None = None
standard_in (Some row) = row.standard

abbrev pub is_standard : Option StandardPrefix → Bool
is_standard None = false
is_standard (Some which) = true

abbrev pub holds_class_in : Option BlockOf → Bool
holds_class_in None = false
holds_class_in (Some row) = row.has_class || is_standard row.standard

-- whether a block declares a class, or its standard prefix does
unfoldable pub holds_class : Tables → (block : ℕ) → Bool
holds_class s block = holds_class_in (slice_get s.blocks block)

-- whether one of the levels declares a class
unfoldable pub has_classes : Tables → (block : ℕ) → Bool
has_classes s block = some_level s (holds_class s) block

abbrev pub is_simulation : Option StandardPrefix → Bool
is_simulation None = false
is_simulation (Some standard.Simset) = false
is_simulation (Some standard.Simulation) = true

unfoldable pub has_standard : Tables → (block : ℕ) → Bool
has_standard s block = is_standard (standard_in (slice_get s.blocks block))

unfoldable pub is_simulation_block : Tables → (block : ℕ) → Bool
is_simulation_block s block = is_simulation (standard_in (slice_get s.blocks block))

-- A class is only for prefixing where `simulation` is in its prefix chain. One with `simset` alone is as every other class; since its chain
-- declares classes, no attribute of it stands behind a dot, and it is not connected.
unfoldable pub is_for_prefixing : Tables → (block : ℕ) → Bool
is_for_prefixing s block = some_level s (is_simulation_block s) block

abbrev pub level_beyond : (ℕ → Option ℕ) → Option ℕ → Option ℕ
level_beyond search None = None
level_beyond search (Some block) = search block

-- the level of `simulation`, where one of so many levels has it
unfoldable pub simulation_level_of : Tables → ℕ → (block : ℕ) → Option ℕ
simulation_level_of s zero block = None
simulation_level_of s (suc more) block =
    if is_simulation_block s block then Some block else level_beyond (λ b. simulation_level_of s more b) (base s block)

-- Classes, as declarations.
abbrev pub class_block_in : Option Entry → Option ℕ
class_block_in (Some (entry.Class block)) = Some block
class_block_in _ = None

abbrev pub entry_at : Tables → DeclNo → Option Entry
entry_at s d = elim (slice_get s.declarations d.0) [ None ↦ None | Some row ↦ Some row.entry ]

-- the block of a class
unfoldable pub class_block : Tables → DeclNo → Option ℕ
class_block s d = class_block_in (entry_at s d)

abbrev pub owner_in : Option BlockOf → Option DeclNo
owner_in None = None
owner_in (Some row) = row.owner

abbrev pub both_blocks : (ℕ → ℕ → Bool) → Option ℕ → Option ℕ → Bool
both_blocks test None b = false
both_blocks test (Some a) None = false
both_blocks test (Some a) (Some b) = test a b

-- whether a class is a subclass of another, or is that class
unfoldable pub is_in_chain : Tables → (inner outer : DeclNo) → Bool
is_in_chain s inner outer = both_blocks (has_level s) (class_block s inner) (class_block s outer)

-- whether two classes lie on one prefix chain
unfoldable pub on_one_chain : Tables → DeclNo → DeclNo → Bool
on_one_chain s c d = is_in_chain s c d || is_in_chain s d c

-- the innermost of so many levels, from one outward, that is a level of another block too
unfoldable pub shared_level_of : Tables → ℕ → (other block : ℕ) → Option ℕ
shared_level_of s zero other block = None
shared_level_of s (suc more) other block =
    if has_level s other block then Some block else level_beyond (λ b. shared_level_of s more other b) (base s block)

abbrev pub owner_of_level : Tables → Option ℕ → Option DeclNo
owner_of_level s None = None
owner_of_level s (Some block) = owner_in (slice_get s.blocks block)

abbrev pub shared_of : Tables → Option ℕ → Option ℕ → Option DeclNo
shared_of s None b = None
shared_of s (Some a) None = None
shared_of s (Some a) (Some b) = owner_of_level s (shared_level_of s (length s.blocks) b a)

-- the innermost class that the prefix chains of two classes share
unfoldable pub shared_class : Tables → DeclNo → DeclNo → Option DeclNo
shared_class s c d = shared_of s (class_block s c) (class_block s d)

-- the standard classes
abbrev pub is_standard_class : BlockKind → Bool
is_standard_class (kind.StandardClass which) = true
is_standard_class _ = false
