-- Prefixes: which class each one is, and the rules on them.
use Rattle.std.specs.Prelude.{ℕ, ◌+◌, zero, suc, Bool, true, false, not, ◌||◌, ◌&&◌, nat_eq, nat_lt, if◌then◌else◌, List, [], ◌∷◌, ◌++◌, length, Option, Some, None, slice_get}
use Rattle.sim_base.specs.declared.numbering.DeclNo.{DeclNo}
use Rattle.sim_base.specs.declared.rule.Rule.{Rule}
use Rattle.sim_base.specs.declared.rule.Rule.TheVariants as r
use Rattle.sim_tree.specs.declared.expr.Identifier.{Identifier}
use Rattle.prefix_bind.specs.declared.prefixes.PrefixFound.{PrefixFound}
use Rattle.prefix_bind.specs.declared.prefixes.PrefixFound.TheVariants as found
use Rattle.prefix_bind.specs.Cells.{cells_of, most_cells}
use Rattle.sim_scope.specs.declared.found.Fault.{Fault}
use Rattle.sim_scope.specs.declared.types.BlockKind.{BlockKind}
use Rattle.sim_scope.specs.declared.types.BlockKind.TheVariants as kind
use Rattle.sim_scope.specs.declared.types.StandardPrefix.{StandardPrefix}
use Rattle.sim_scope.specs.Access.{encloser, is_connection, is_kind}
use Rattle.sim_scope.specs.Along.{first_along, some_along}
use Rattle.sim_scope.specs.Found.{fault, lesser}
use Rattle.sim_scope.specs.Levels.{base, class_block, holds, is_standard_class, some_level}
use Rattle.sim_scope.specs.Runs.{each, run}
use Rattle.sim_scope.specs.Scopes.{shown}
use Rattle.sim_scope.specs.Standard.{standard_prefix}
use Rattle.sim_scope.specs.Tables.{BlockOf, Tables, with_base_at, with_standard_at}

-- Where a prefix is looked for: in the nearest block around that is no connection, with its levels.
abbrev pub unless_connection : Tables → (block : ℕ) → Option ℕ
unless_connection s block = if is_kind is_connection s block then None else Some block

abbrev pub home_from : Tables → Option ℕ → Option ℕ
home_from s None = None
home_from s (Some block) = first_along (encloser s) (length s.blocks) (unless_connection s) block

-- whether a block shows a name; connections are passed by
abbrev pub is_some : Option DeclNo → Bool
is_some None = false
is_some (Some d) = true

abbrev pub shows : Tables → (token : ℕ) → List ℕ → (block : ℕ) → Bool
shows s token name block = not (is_kind is_connection s block) && is_some (shown s (Some token) block name)

-- whether one of the blocks from one outward does
abbrev pub shown_outward : Tables → (token : ℕ) → List ℕ → (block : ℕ) → Bool
shown_outward s token name block = some_along (encloser s) (length s.blocks) (shows s token name) block

-- `simset` and `simulation` are prefixes everywhere, unless a block further out declares the name.
abbrev pub standard_or_nothing : Option StandardPrefix → PrefixFound
standard_or_nothing None = found.Nothing
standard_or_nothing (Some which) = found.Standard which

abbrev pub class_or_nothing : Option ℕ → PrefixFound
class_or_nothing None = found.Nothing
class_or_nothing (Some block) = found.Class block

-- a prefix that the block where it is looked for does not show
abbrev pub prefix_outside : Tables → Identifier → (around : Option ℕ) → PrefixFound
prefix_outside s x around =
    if holds (shown_outward s x.token.0 x.name) around then found.Nothing else standard_or_nothing (standard_prefix x.name)

abbrev pub shown_prefix : Tables → Identifier → (home : ℕ) → Option DeclNo → PrefixFound
shown_prefix s x home (Some d) = class_or_nothing (class_block s d)
shown_prefix s x home None = prefix_outside s x (encloser s home)

abbrev pub prefix_from : Tables → Identifier → Option ℕ → PrefixFound
prefix_from s x None = standard_or_nothing (standard_prefix x.name)
prefix_from s x (Some home) = shown_prefix s x home (shown s (Some x.token.0) home x.name)

-- the class that the prefix of a block is
abbrev pub prefix_found : Tables → BlockOf → Option Identifier → PrefixFound
prefix_found s row None = found.Nothing
prefix_found s row (Some x) = prefix_from s x (home_from s row.encloser)

unfoldable pub prefix_of : Tables → BlockOf → PrefixFound
prefix_of s row = prefix_found s row row.prefix

-- Prefixes become known from the outside inward: those of a level when those of all levels further out are known.
abbrev pub prefix_of_level : (level : ℕ) → Tables → Option BlockOf → PrefixFound
prefix_of_level level s None = found.Nothing
prefix_of_level level s (Some row) = if nat_eq row.level level then prefix_of s row else found.Nothing

abbrev pub with_prefix : Tables → (block : ℕ) → PrefixFound → Tables
with_prefix s block (found.Class b) = with_base_at s block (Some b)
with_prefix s block (found.Standard which) = with_standard_at s block which
with_prefix s block found.Nothing = s

unfoldable pub block_prefixed : (level : ℕ) → Tables → (block : ℕ) → Tables
block_prefixed level s block = with_prefix s block (prefix_of_level level s (slice_get s.blocks block))

-- the first numbers
abbrev pub numbers_to : ℕ → List ℕ
numbers_to zero = []
numbers_to (suc n) = numbers_to n ++ n ∷ []

unfoldable pub level_prefixed : Tables → (level : ℕ) → Tables
level_prefixed s level = run (block_prefixed level) s (numbers_to (length s.blocks))

-- the deepest level of a block
abbrev pub deeper_of : ℕ → BlockOf → ℕ
deeper_of level row = if nat_lt level row.level then row.level else level

unfoldable pub deepest : List BlockOf → ℕ
deepest rows = run deeper_of 0 rows

-- the tables with the prefix of each class and block
unfoldable pub prefixed : Tables → Tables
prefixed s = run level_prefixed s (numbers_to (deepest s.blocks + 1))

-- S2: a prefix is a class of the block around, or one of the standard ones. The prefix of a block is neither linkage nor a class with it in its chain.
abbrev pub is_known : BlockOf → Bool
is_known row = (elim row.base [ Some b ↦ true | None ↦ (elim row.standard [ Some which ↦ true | None ↦ false ]) ])

abbrev pub is_prefixed_block : BlockKind → Bool
is_prefixed_block kind.Prefixed = true
is_prefixed_block _ = false

abbrev pub is_wrong_prefix : Tables → BlockOf → Bool
is_wrong_prefix s row =
    not (is_known row) || is_prefixed_block row.kind && holds (λ b. some_level s (is_kind is_standard_class s) b) row.base

abbrev pub breaks_prefix : Tables → BlockOf → Option Identifier → Bool
breaks_prefix s row None = false
breaks_prefix s row (Some x) = is_wrong_prefix s row

abbrev pub prefix_token : Option Identifier → ℕ
prefix_token None = 0
prefix_token (Some x) = x.token.0

abbrev pub where_true : Bool → (token : ℕ) → Rule → List Fault
where_true true token rule = fault token rule ∷ []
where_true false token rule = []

unfoldable pub has_wrong_prefix : Tables → (block : ℕ) → Bool
has_wrong_prefix s block = (elim (slice_get s.blocks block) [ None ↦ false | Some row ↦ breaks_prefix s row row.prefix ])

-- S3: a class that is one of the levels of its own prefix
unfoldable pub is_in_own_chain : Tables → (block : ℕ) → Bool
is_in_own_chain s block = holds (λ b. some_level s (λ c. nat_eq c block) b) (base s block)

-- L2: the cells of all levels
abbrev pub cells_at : Tables → Option BlockOf → ℕ
cells_at s None = 0
cells_at s (Some row) = cells_of s row

abbrev pub sum_beyond : (ℕ → ℕ) → Option ℕ → ℕ
sum_beyond count None = 0
sum_beyond count (Some block) = count block

unfoldable pub level_cells_of : Tables → ℕ → (block : ℕ) → ℕ
level_cells_of s zero block = 0
level_cells_of s (suc more) block = cells_at s (slice_get s.blocks block) + sum_beyond (λ b. level_cells_of s more b) (base s block)

unfoldable pub level_cells : Tables → (block : ℕ) → ℕ
level_cells s block = level_cells_of s (length s.blocks) block

-- whether the prefix of a block breaks a rule, or that of a level of its prefix
abbrev pub breaks_rule : Tables → (block : ℕ) → Bool
breaks_rule s block = has_wrong_prefix s block || is_in_own_chain s block

abbrev pub has_broken_chain : Tables → (block : ℕ) → Bool
has_broken_chain s block = breaks_rule s block || holds (λ b. some_level s (breaks_rule s) b) (base s block)

-- whether an instance has too many cells; that is not judged where its chain is broken
abbrev pub breaks_cells : Tables → (block : ℕ) → Bool
breaks_cells s block = nat_lt most_cells (level_cells s block) && not (has_broken_chain s block)

unfoldable pub row_faults : Tables → (block : ℕ) → BlockOf → List Fault
row_faults s block row =
    where_true (breaks_prefix s row row.prefix) (prefix_token row.prefix) r.PrefixIsNoClass
    ++ (where_true (is_in_own_chain s block) row.first r.ClassInItsOwnChain
    ++ where_true (breaks_cells s block) row.first r.TooManyCells)

abbrev pub block_faults : Tables → (block : ℕ) → Option BlockOf → List Fault
block_faults s block None = []
block_faults s block (Some row) = row_faults s block row

unfoldable pub faults_of : Tables → (block : ℕ) → List Fault
faults_of s block = block_faults s block (slice_get s.blocks block)

-- the rules that prefixes break, and instances with too many cells
unfoldable pub prefix_faults : Tables → List Fault
prefix_faults s = each (faults_of s) (numbers_to (length s.blocks))

-- the least of faults
unfoldable pub noted : Option Fault → Fault → Option Fault
noted least x = lesser least x

unfoldable pub least_of : List Fault → Option Fault
least_of faults = run noted None faults
