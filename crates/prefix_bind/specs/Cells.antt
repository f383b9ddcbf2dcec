-- The cells of an instance, and the rule on their number.
use Rattle.std.specs.Prelude.{ℕ, ◌+◌, Bool, true, false, if◌then◌else◌, Option, Some, None}
use Rattle.std.specs.List.{count_by}
use Rattle.sim_base.specs.declared.numbering.DeclNo.{DeclNo}
use Rattle.sim_scope.specs.declared.types.Entry.{Entry}
use Rattle.sim_scope.specs.declared.types.Entry.TheVariants as entry
use Rattle.sim_scope.specs.Scopes.{entry_of}
use Rattle.sim_scope.specs.Tables.{BlockOf, Tables}

-- Variables, constants, arrays and parameters have a cell.
abbrev pub is_cell : Entry → Bool
is_cell (entry.Variable ty) = true
is_cell (entry.Constant ty) = true
is_cell (entry.Array element dimensions) = true
is_cell (entry.Formal f) = true
is_cell (entry.Unspecified written) = true
is_cell (entry.Procedure result block) = false
is_cell (entry.Class block) = false
is_cell (entry.Virtual result own) = false
is_cell (entry.Attribute name parameter result) = false

abbrev pub has_cell : Option Entry → Bool
has_cell None = false
has_cell (Some e) = is_cell e

-- The result of a typed procedure has one in the procedure's block.
abbrev pub is_typed : Entry → Bool
is_typed (entry.Procedure (Some ty) block) = true
is_typed (entry.Procedure None block) = false
is_typed (entry.Variable ty) = false
is_typed (entry.Constant ty) = false
is_typed (entry.Array element dimensions) = false
is_typed (entry.Formal f) = false
is_typed (entry.Unspecified written) = false
is_typed (entry.Class block) = false
is_typed (entry.Virtual result own) = false
is_typed (entry.Attribute name parameter result) = false

abbrev pub is_typed_in : Option Entry → Bool
is_typed_in None = false
is_typed_in (Some e) = is_typed e

abbrev pub has_result : Tables → Option DeclNo → Bool
has_result s None = false
has_result s (Some owner) = is_typed_in (entry_of s owner)

-- how many cells an instance of a block has
unfoldable pub cells_of : Tables → BlockOf → ℕ
cells_of s row = count_by (λ d. has_cell (entry_of s d)) row.numbers + (if has_result s row.owner then 1 else 0)

-- the most cells that an instance may have
abbrev pub most_cells : ℕ
most_cells = 4095
