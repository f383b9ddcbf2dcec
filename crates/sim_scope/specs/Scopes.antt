-- What an identifier denotes.
use Rattle.std.specs.Prelude.{ℕ, zero, suc, Bool, true, false, ◌||◌, ◌&&◌, not, if◌then◌else◌, List, [], ◌++◌, length, position, slice_get, take, codes, Option, Some, None}
use Rattle.std.specs.Option.{option_or}
use Rattle.std.specs.Str.{bytes_eq}
use Rattle.sim_base.specs.declared.numbering.DeclNo.{DeclNo}
use Rattle.sim_scope.specs.declared.scopes.Declaration.{Declaration}
use Rattle.sim_scope.specs.declared.scopes.Denotation.{Denotation}
use Rattle.sim_scope.specs.declared.scopes.Denotation.TheVariants as denotation
use Rattle.sim_scope.specs.declared.standard.StandardName.{StandardName}
use Rattle.sim_scope.specs.declared.types.BlockKind.{BlockKind}
use Rattle.sim_scope.specs.declared.types.BlockKind.TheVariants as kind
use Rattle.sim_scope.specs.declared.types.Entry.{Entry}
use Rattle.sim_scope.specs.declared.types.Entry.TheVariants as entry
use Rattle.sim_scope.specs.declared.types.Formal.{Formal}
use Rattle.sim_scope.specs.declared.types.SimType.{SimType}
use Rattle.sim_scope.specs.Access.{accessible, block_at, encloser, some_around}
use Rattle.sim_scope.specs.Along.{first_along}
use Rattle.sim_scope.specs.Levels.{base, level_beyond}
use Rattle.sim_scope.specs.Standard.{standard_name}
use Rattle.sim_scope.specs.Tables.{BlockOf, Tables}

-- the declaration at a place of a block's list
abbrev pub numbered : List DeclNo → Option ℕ → Option DeclNo
numbered numbers None = None
numbered numbers (Some index) = slice_get numbers index

abbrev pub declared_in : Option BlockOf → List ℕ → Option DeclNo
declared_in None name = None
declared_in (Some block) name = numbered block.numbers (position (bytes_eq name) block.names)

-- the declaration of an identifier in a block
unfoldable pub lookup : Tables → (block : ℕ) → List ℕ → Option DeclNo
lookup s block name = declared_in (slice_get s.blocks block) name

abbrev pub brought_in : Option BlockOf → List ℕ → Option DeclNo
brought_in None name = None
brought_in (Some block) name = (elim block.standard [ None ↦ None | Some which ↦ numbered block.brought (position (bytes_eq name) block.brought_names) ])

-- what the standard prefix of a block declares
unfoldable pub brought_by : Tables → (block : ℕ) → List ℕ → Option DeclNo
brought_by s block name = brought_in (slice_get s.blocks block) name

-- Where a name is seen from: at a token, from which some protected attributes are not accessible, or from everywhere.
abbrev pub seen_from : Tables → Option ℕ → DeclNo → Bool
seen_from s None d = true
seen_from s (Some token) d = accessible s token d

abbrev pub seen : Tables → Option ℕ → Option DeclNo → Option DeclNo
seen s from None = None
seen s from (Some d) = if seen_from s from d then Some d else None

-- what one level shows for a name: what it declares, where that is accessible, else what its standard prefix declares
unfoldable pub level_shows : Tables → Option ℕ → (block : ℕ) → List ℕ → Option DeclNo
level_shows s from block name = option_or (seen s from (lookup s block name)) (brought_by s block name)

abbrev pub beyond : (ℕ → Option DeclNo) → Option ℕ → Option DeclNo
beyond search None = None
beyond search (Some block) = search block

-- the declaration of the innermost of so many levels that shows the name
unfoldable pub shown_of : Tables → ℕ → Option ℕ → (block : ℕ) → List ℕ → Option DeclNo
shown_of s zero from block name = None
shown_of s (suc more) from block name = option_or (level_shows s from block name) (beyond (λ b. shown_of s more from b name) (base s block))

-- what a block shows for a name: what the innermost of its levels shows
unfoldable pub shown : Tables → Option ℕ → (block : ℕ) → List ℕ → Option DeclNo
shown s from block name = shown_of s (length s.blocks) from block name

-- `detach` is an attribute of each class and prefixed block, behind those that their levels declare. A connection shows that of the class that is
-- connected: one without a class, as `inspect none do`, shows none.
unfoldable pub is_detach : List ℕ → Bool
is_detach name = bytes_eq name (codes "detach")

abbrev pub has_detach : BlockKind → Bool
has_detach kind.Class = true
has_detach kind.Prefixed = true
has_detach kind.Connection = true
has_detach _ = false

abbrev pub is_connected : BlockKind → (class : Option ℕ) → Bool
is_connected kind.Connection None = false
is_connected _ class = true

abbrev pub detach_in : Option BlockOf → Bool
detach_in None = false
detach_in (Some row) = has_detach row.kind && is_connected row.kind row.base

unfoldable pub shows_detach : Tables → (block : ℕ) → Bool
shows_detach s block = detach_in (slice_get s.blocks block)

-- whether the search for a name ends with a block
unfoldable pub ends_search : Tables → (block : ℕ) → List ℕ → Bool
ends_search s block name = is_detach name && shows_detach s block

-- the block in which the search goes on
unfoldable pub outward : Tables → (block : ℕ) → List ℕ → Option ℕ
outward s block name = if ends_search s block name then None else encloser s block

-- the declaration of the innermost of so many blocks, from one outward, that shows the name
unfoldable pub searched : Tables → Option ℕ → ℕ → (block : ℕ) → List ℕ → Option DeclNo
searched s from zero block name = None
searched s from (suc more) block name = option_or (shown s from block name) (beyond (λ b. searched s from more b name) (outward s block name))

-- the declaration that a name has from a block outward
unfoldable pub declaration_from : Tables → Option ℕ → Option ℕ → List ℕ → Option DeclNo
declaration_from s from None name = None
declaration_from s from (Some block) name = searched s from (length s.blocks) block name

-- Where a name is found: in the innermost block around a token that shows it, or that shows `detach`, if it is that name.
abbrev pub is_shown : Option DeclNo → Bool
is_shown None = false
is_shown (Some d) = true

unfoldable pub if_found : Tables → (token : ℕ) → List ℕ → (block : ℕ) → Option ℕ
if_found s token name block = if is_shown (shown s (Some token) block name) || ends_search s block name then Some block else None

unfoldable pub found_in : Tables → (token : ℕ) → List ℕ → Option ℕ
found_in s token name = level_beyond (first_along (encloser s) (length s.blocks) (if_found s token name)) (block_at s token)

-- Virtual procedures. At the level of a virtual and at every level inside it the identifier denotes the virtual, also where that level
-- declares a match.
abbrev pub is_virtual : Entry → Bool
is_virtual (entry.Virtual result own) = true
is_virtual _ = false

abbrev pub is_procedure_entry : Entry → Bool
is_procedure_entry (entry.Procedure result block) = true
is_procedure_entry _ = false

abbrev pub entry_in : Option Declaration → Option Entry
entry_in None = None
entry_in (Some d) = Some d.entry

-- what a declaration declares
unfoldable pub entry_of : Tables → DeclNo → Option Entry
entry_of s d = entry_in (slice_get s.declarations d.0)

abbrev pub entry_is : (Entry → Bool) → Option Entry → Bool
entry_is test None = false
entry_is test (Some e) = test e

abbrev pub virtual_among : Tables → Option DeclNo → Option DeclNo
virtual_among s None = None
virtual_among s (Some d) = if entry_is is_virtual (entry_of s d) then Some d else None

-- the virtual of a name that the innermost of so many levels declares that declares one
unfoldable pub virtual_of : Tables → ℕ → (block : ℕ) → List ℕ → Option DeclNo
virtual_of s zero block name = None
virtual_of s (suc more) block name = option_or (virtual_among s (lookup s block name)) (beyond (λ b. virtual_of s more b name) (base s block))

abbrev pub or_itself : Option DeclNo → DeclNo → DeclNo
or_itself None d = d
or_itself (Some v) d = v

abbrev pub represented_row : Tables → DeclNo → Option Declaration → DeclNo
represented_row s d None = d
represented_row s d (Some row) =
    if is_procedure_entry row.entry then or_itself (virtual_of s (length s.blocks) row.block row.name) d else d

-- what a declaration that is found stands for: a match for its virtual, all else for itself
unfoldable pub represented : Tables → DeclNo → DeclNo
represented s d = represented_row s d (slice_get s.declarations d.0)

abbrev pub declared_or_standard : Tables → Option DeclNo → Option StandardName → Option Denotation
declared_or_standard s (Some d) k = Some (denotation.Declared (represented s d))
declared_or_standard s None (Some k) = Some (denotation.Standard k)
declared_or_standard s None None = None

-- the standard name that is seen at a token; `detach` is seen in classes, prefixed blocks and connections of a class alone
unfoldable pub standard_at : Tables → (token : ℕ) → List ℕ → Option StandardName
standard_at s token name = if is_detach name && not (some_around s (shows_detach s) token) then None else standard_name name

-- what a name denotes at a token: what the innermost block declares that declares it, else a standard name
unfoldable pub binding : Tables → (token : ℕ) → List ℕ → Option Denotation
binding s token name = declared_or_standard s (declaration_from s (Some token) (block_at s token) name) (standard_at s token name)

-- whether an attribute of this name is declared around a token, which then is not accessible there where nothing is found
unfoldable pub is_passed_over : Tables → (token : ℕ) → List ℕ → Bool
is_passed_over s token name = (elim (declaration_from s None (block_at s token) name) [ None ↦ false | Some d ↦ true ])

-- Headings: the formal parameters of the block of a procedure or a class.
abbrev pub block_in : Option Entry → Option ℕ
block_in (Some (entry.Procedure result block)) = Some block
block_in (Some (entry.Class block)) = Some block
block_in _ = None

abbrev pub formals_in : Option BlockOf → List DeclNo
formals_in None = []
formals_in (Some block) = take block.formals block.numbers

abbrev pub formals_at : Tables → Option ℕ → List DeclNo
formals_at s None = []
formals_at s (Some block) = formals_in (slice_get s.blocks block)

-- the declarations of the formal parameters of a procedure or a class
unfoldable pub formals_of : Tables → DeclNo → List DeclNo
formals_of s d = formals_at s (block_in (entry_of s d))

abbrev pub formals_beyond : (ℕ → List DeclNo) → Option ℕ → List DeclNo
formals_beyond search None = []
formals_beyond search (Some block) = search block

-- the parameters of all levels of a class, from the outermost prefix inward
unfoldable pub class_formals_of : Tables → ℕ → (block : ℕ) → List DeclNo
class_formals_of s zero block = []
class_formals_of s (suc more) block = formals_beyond (λ b. class_formals_of s more b) (base s block) ++ formals_at s (Some block)

unfoldable pub class_formals : Tables → (block : ℕ) → List DeclNo
class_formals s block = class_formals_of s (length s.blocks) block

abbrev pub formal_in : Option Entry → Option Formal
formal_in (Some (entry.Formal f)) = Some f
formal_in _ = None

abbrev pub formal_declared : Tables → Option DeclNo → Option Formal
formal_declared s None = None
formal_declared s (Some d) = formal_in (entry_of s d)

-- the formal parameter of a procedure at a place, and that of a class
unfoldable pub class_formal : Tables → (block place : ℕ) → Option Formal
class_formal s block place = formal_declared s (slice_get (class_formals s block) place)

unfoldable pub formal_of : Tables → DeclNo → (place : ℕ) → Option Formal
formal_of s d place = formal_declared s (slice_get (formals_of s d) place)

-- the type of the result of a procedure
abbrev pub result_in : Option Entry → Option SimType
result_in (Some (entry.Procedure result block)) = result
result_in (Some (entry.Virtual result own)) = result
result_in _ = None

unfoldable pub result_of : Tables → DeclNo → Option SimType
result_of s d = result_in (entry_of s d)
