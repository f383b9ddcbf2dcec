-- The first round: block tables, built from a program that is read from left to right.
use Rattle.std.specs.Prelude.{ℕ, ◌+◌, ◌-◌, Bool, true, false, not, ◌||◌, ◌&&◌, nat_eq, nat_lt, if◌then◌else◌, List, [], ◌∷◌, ◌++◌, length, replicate, Option, Some, None, slice_get, slice_set, codes}
use Rattle.std.specs.List.{list_any}
use Rattle.std.specs.Str.{bytes_eq}
use Rattle.sim_base.specs.declared.numbering.DeclNo.{DeclNo}
use Rattle.sim_base.specs.declared.numbering.TokenNo.{TokenNo}
use Rattle.sim_base.specs.declared.rule.Rule.{Rule}
use Rattle.sim_base.specs.declared.rule.Rule.TheVariants as r
use Rattle.sim_tree.specs.declared.expr.Identifier.{Identifier}
use Rattle.sim_scope.specs.declared.found.Fault.{Fault}
use Rattle.sim_scope.specs.declared.scopes.Declaration.{Declaration}
use Rattle.sim_values.specs.declared.standard.Standard.{Standard}
use Rattle.sim_values.specs.declared.standard.StandardType.{StandardType}
use Rattle.sim_scope.specs.declared.types.BlockKind.{BlockKind}
use Rattle.sim_scope.specs.declared.types.BlockKind.TheVariants as kind
use Rattle.sim_scope.specs.declared.types.Entry.{Entry}
use Rattle.sim_scope.specs.declared.types.Entry.TheVariants as entry
use Rattle.sim_scope.specs.declared.types.FormalKind.{FormalKind}
use Rattle.sim_scope.specs.declared.types.FormalKind.TheVariants as formal_kind
use Rattle.sim_scope.specs.declared.types.Mode.{Mode}
use Rattle.sim_scope.specs.declared.types.Mode.TheVariants as mode
use Rattle.sim_scope.specs.declared.types.SimType.{SimType}
use Rattle.sim_scope.specs.declared.types.SimType.TheVariants as t
use Rattle.sim_scope.specs.declared.types.StandardClass.{StandardClass}
use Rattle.sim_scope.specs.declared.types.StandardClass.TheVariants as standard_class
use Rattle.sim_scope.specs.declared.types.WrittenMode.{WrittenMode}
use Rattle.sim_scope.specs.Found.{fault, lesser}
use Rattle.sim_scope.specs.Scopes.{declared_in, entry_of, lookup}
use Rattle.sim_scope.specs.Standard.{attribute_name, class_typed, parameter_of, plain_type, result_of}
use Rattle.sim_scope.specs.Tables.{BlockOf, Tables, deeper}

-- the tables so far; how many identifiers the program itself declares; the innermost block that is open; the declaration of the identifier
-- that was declared or specified last; the least broken rule
pub record BuildingOf : Type 0 where
  pub tables : Tables
  pub own : ℕ
  pub current : Option ℕ
  pub latest : Option DeclNo
  pub least : Option Fault

-- What is met.
pub data Mark : Type 0 where
  -- a block begins: the first token of its text, and the one from which on the text is inside
  Opens : BlockKind → (text : ℕ) → (first : ℕ) → Mark
  -- the innermost block ends in front of a token
  Closes : (end : ℕ) → Mark
  -- an identifier is declared
  Declares : Identifier → Entry → Mark
  -- a procedure or a class is declared, whose block is the next one
  DeclaresProcedure : Identifier → (result : Option SimType) → Mark
  DeclaresClass : Identifier → Mark
  -- an identifier is a formal parameter; the mode part names it; a specification names it; the heading is at its end
  Parameter : Identifier → Mark
  Moded : Identifier → Mode → Mark
  Specified : Identifier → FormalKind → Option SimType → Mark
  Headed : Identifier → Mark
  -- the declaration met last is of references to this class
  Qualifies : (class : Identifier) → Mark
  -- the innermost block has this class in front of it
  Prefixes : (class : Identifier) → Mark
  -- `simset` or `simulation` in front of the innermost block declares a standard class, and an attribute of one or of its own
  Brings : StandardClass → (token : ℕ) → Mark
  Provides : Option StandardClass → Standard → (token : ℕ) → Mark
  -- a class hides or protects an attribute, or both
  Protects : (hides keeps : Bool) → (attribute : Identifier) → Mark
  -- an `inner` in the statement list of a class's body
  Inner : (token : ℕ) → Mark
  -- a rule is broken
  Breaks : (token : ℕ) → Rule → Mark

-- a rule is broken at a token
abbrev pub broken : BuildingOf → (token : ℕ) → Rule → BuildingOf
broken b token rule = record b { least = lesser b.least (fault token rule) }

abbrev pub broken_if : Bool → BuildingOf → (token : ℕ) → Rule → BuildingOf
broken_if true b token rule = broken b token rule
broken_if false b token rule = b

-- Blocks.
-- the tokens before this one that have no place yet stand in the current block
abbrev pub placed : Tables → Option ℕ → (token : ℕ) → Tables
placed s current token = record s { places = s.places ++ replicate (token - length s.places) current }

abbrev pub level_in : BlockKind → Option BlockOf → ℕ
level_in k None = 1
level_in k (Some row) = deeper k row.level

abbrev pub block_around : Tables → Option ℕ → Option BlockOf
block_around s None = None
block_around s (Some block) = slice_get s.blocks block

-- the declaration that a block belongs to: that of its procedure or class
abbrev pub owner_of : BlockKind → Option DeclNo → Option DeclNo
owner_of kind.Procedure latest = latest
owner_of kind.Class latest = latest
owner_of kind.Program latest = None
owner_of kind.SubBlock latest = None
owner_of kind.Prefixed latest = None
owner_of kind.Connection latest = None
owner_of (kind.StandardClass which) latest = None

-- the most levels that blocks may have
abbrev pub most_levels : ℕ
most_levels = 64

abbrev pub opened_at : BuildingOf → BlockKind → (text first level : ℕ) → BuildingOf
opened_at b k text first level = broken_if (nat_lt most_levels level) (record b {
  tables = record b.tables {
    blocks = b.tables.blocks ++ record {
      kind = k;
      first = first;
      end = first;
      encloser = b.current;
      level = level;
      owner = owner_of k b.latest;
      formals = 0;
      inner = None;
      prefix = None;
      base = None;
      standard = None;
      names = [];
      numbers = [];
      has_class = false;
      brought_names = [];
      brought = [];
      protected = [];
      hidden = [];
    } ∷ [];
    places = (placed b.tables b.current first).places;
  };
  current = Some (length b.tables.blocks);
}) text r.TooManyLevels

abbrev pub opened : BuildingOf → BlockKind → (text first : ℕ) → BuildingOf
opened b k text first = opened_at b k text first (level_in k (block_around b.tables b.current))

abbrev pub closed_at : BuildingOf → (token block : ℕ) → Option BlockOf → BuildingOf
closed_at b token block None = b
closed_at b token block (Some row) = record b {
  tables = record (placed b.tables b.current token) { blocks = slice_set b.tables.blocks block (record row { end = token }) };
  current = row.encloser;
}

abbrev pub closed : BuildingOf → (token : ℕ) → Option ℕ → BuildingOf
closed b token None = b
closed b token (Some block) = closed_at b token block (slice_get b.tables.blocks block)

-- Declarations.
-- the most declarations that a program may have
abbrev pub most_declarations : ℕ
most_declarations = 65535

-- one more identifier in a block
abbrev pub with_name : BlockOf → List ℕ → DeclNo → BlockOf
with_name row name number = record row { names = row.names ++ name ∷ []; numbers = row.numbers ++ number ∷ [] }

-- one more declaration, whose identifier its block lists or not
abbrev pub row_of : Identifier → Entry → (block : ℕ) → (listed : Bool) → Declaration
row_of x e block listed = record { name = x.name; token = x.token; block = block; entry = e; listed = listed }

-- one more identifier that the program itself declares
abbrev pub counting : BuildingOf → Identifier → BuildingOf
counting b x = broken_if (nat_eq b.own most_declarations) (record b { own = b.own + 1 }) x.token.0 r.TooManyDeclarations

abbrev pub added : BuildingOf → Identifier → Entry → (block : ℕ) → (listed : Bool) → BuildingOf
added b x e block listed = counting (record b {
  tables = record b.tables { declarations = b.tables.declarations ++ row_of x e block listed ∷ [] };
  latest = Some (record { 0 = length b.tables.declarations });
}) x

abbrev pub declared_new : BuildingOf → Identifier → Entry → (block : ℕ) → BlockOf → BuildingOf
declared_new b x e block row =
    added (record b { tables = record b.tables { blocks = slice_set b.tables.blocks block (with_name row x.name (record { 0 = length b.tables.declarations })) } }) x e block true

-- The procedure that matches a virtual at the virtual's own level: the identifier goes on to denote the virtual, which knows its match.
abbrev pub is_match : Entry → Option Entry → Bool
is_match (entry.Procedure result block) (Some (entry.Virtual wanted None)) = true
is_match e f = false

abbrev pub matching : Entry → DeclNo → Entry
matching (entry.Virtual result own) d = entry.Virtual result (Some d)
matching e d = e

abbrev pub row_matching : Option Declaration → DeclNo → List Declaration → ℕ → List Declaration
row_matching None d rows i = rows
row_matching (Some row) d rows i = slice_set rows i (record row { entry = matching row.entry d })

-- the next declaration is the match of a virtual
abbrev pub match_known : BuildingOf → (virtual : DeclNo) → BuildingOf
match_known b virtual = record b {
  tables = record b.tables {
    declarations = row_matching (slice_get b.tables.declarations virtual.0) (record { 0 = length b.tables.declarations }) b.tables.declarations virtual.0;
  };
}

abbrev pub matched : BuildingOf → Identifier → Entry → (block : ℕ) → (virtual : DeclNo) → BuildingOf
matched b x e block virtual = added (match_known b virtual) x e block false

-- an identifier that its block has already is broken, and leaves the tables as they are
abbrev pub declared_twice : BuildingOf → Identifier → Option DeclNo → BuildingOf
declared_twice b x d = broken (record b { latest = d }) x.token.0 r.DeclaredTwice

abbrev pub declared_again : BuildingOf → Identifier → Entry → (block : ℕ) → Option DeclNo → BuildingOf
declared_again b x e block None = declared_twice b x None
declared_again b x e block (Some d) =
    if is_match e (entry_of b.tables d) then matched b x e block d else declared_twice b x (Some d)

abbrev pub declared_at : BuildingOf → Identifier → Entry → (block : ℕ) → Option BlockOf → BuildingOf
declared_at b x e block None = b
declared_at b x e block (Some row) =
    if list_any (bytes_eq x.name) row.names then declared_again b x e block (declared_in (Some row) x.name) else declared_new b x e block row

-- the innermost block declares an identifier
abbrev pub declared_inside : BuildingOf → Identifier → Entry → Option ℕ → BuildingOf
declared_inside b x e None = b
declared_inside b x e (Some block) = declared_at b x e block (slice_get b.tables.blocks block)

abbrev pub declared : BuildingOf → Identifier → Entry → BuildingOf
declared b x e = declared_inside b x e b.current

-- A row of the blocks is changed.
abbrev pub changed_row : BuildingOf → (BlockOf → BlockOf) → (block : ℕ) → Option BlockOf → BuildingOf
changed_row b change block None = b
changed_row b change block (Some row) = record b { tables = record b.tables { blocks = slice_set b.tables.blocks block (change row) } }

-- the innermost block is changed
abbrev pub changed : BuildingOf → (BlockOf → BlockOf) → Option ℕ → BuildingOf
changed b change None = b
changed b change (Some block) = changed_row b change block (slice_get b.tables.blocks block)

abbrev pub holding_class : BlockOf → BlockOf
holding_class row = record row { has_class = true }

abbrev pub prefixed_by : Identifier → BlockOf → BlockOf
prefixed_by x row = record row { prefix = Some x }

-- Standard classes. Those that `simset` or `simulation` declares in a block follow directly behind it, in this order.
abbrev pub place_of : StandardClass → ℕ
place_of standard_class.Linkage = 0
place_of standard_class.Link = 1
place_of standard_class.Head = 2
place_of standard_class.Process = 3

abbrev pub name_of : StandardClass → List ℕ
name_of standard_class.Linkage = codes "linkage"
name_of standard_class.Link = codes "link"
name_of standard_class.Head = codes "head"
name_of standard_class.Process = codes "process"

-- the block of its prefix: that of linkage for link and head, that of link for process
abbrev pub standard_base : StandardClass → (block : ℕ) → Option ℕ
standard_base standard_class.Linkage block = None
standard_base standard_class.Link block = Some (block + 1)
standard_base standard_class.Head block = Some (block + 1)
standard_base standard_class.Process block = Some (block + 2)

abbrev pub standard_token : (token : ℕ) → TokenNo
standard_token token = record { 0 = token }

-- one more name that the standard prefix of a block declares
abbrev pub with_brought : List ℕ → DeclNo → BlockOf → BlockOf
with_brought name d row = record row { brought_names = row.brought_names ++ name ∷ []; brought = row.brought ++ d ∷ [] }

-- the row of a standard class, which has no text
abbrev pub class_row : StandardClass → (block : ℕ) → (row : BlockOf) → DeclNo → BlockOf
class_row which block row d = record {
  kind = kind.StandardClass which;
  first = 0;
  end = 0;
  encloser = Some block;
  level = row.level + 1;
  owner = Some d;
  formals = 0;
  inner = None;
  prefix = None;
  base = standard_base which block;
  standard = None;
  names = [];
  numbers = [];
  has_class = false;
  brought_names = [];
  brought = [];
  protected = [];
  hidden = [];
}

abbrev pub standard_row : List ℕ → (token block : ℕ) → Entry → (listed : Bool) → Declaration
standard_row name token block e listed = record { name = name; token = standard_token token; block = block; entry = e; listed = listed }

abbrev pub brings_new : BuildingOf → StandardClass → (token block : ℕ) → BlockOf → BuildingOf
brings_new b which token block row =
    let d : DeclNo = record { 0 = length b.tables.declarations } in
    record b {
      tables = record b.tables {
        blocks = slice_set b.tables.blocks block (with_brought (name_of which) d row) ++ class_row which block row d ∷ [];
        declarations = b.tables.declarations ++ standard_row (name_of which) token block (entry.Class (length b.tables.blocks)) false ∷ [];
      };
    }

-- what a block has already is not declared again
abbrev pub brings_at : BuildingOf → StandardClass → (token block : ℕ) → Option BlockOf → BuildingOf
brings_at b which token block None = b
brings_at b which token block (Some row) =
    if list_any (bytes_eq (name_of which)) row.brought_names then b else brings_new b which token block row

abbrev pub brings : BuildingOf → StandardClass → (token : ℕ) → Option ℕ → BuildingOf
brings b which token None = b
brings b which token (Some block) = brings_at b which token block (slice_get b.tables.blocks block)

-- The attributes of standard classes: their names, and the types of their parameter and their result. A class among these is given by its place.
abbrev pub class_type : (first : Option DeclNo) → StandardClass → SimType
class_type None which = t.NoneType
class_type (Some d) which = t.Ref (record { 0 = d.0 + place_of which })

abbrev pub typed : (first : Option DeclNo) → StandardType → SimType
typed first ty = elim (class_typed ty) [ None ↦ plain_type ty | Some which ↦ class_type first which ]

abbrev pub typed_or_none : (first : Option DeclNo) → Option StandardType → Option SimType
typed_or_none first None = None
typed_or_none first (Some ty) = Some (typed first ty)

abbrev pub attribute_entry : (first : Option DeclNo) → Standard → Entry
attribute_entry first name = entry.Attribute name (typed_or_none first (parameter_of name)) (typed_or_none first (result_of name))

abbrev pub first_brought : Option BlockOf → Option DeclNo
first_brought None = None
first_brought (Some row) = slice_get row.brought 0

-- one more declaration of an attribute, with the row of its block after it
abbrev pub provided_at : BuildingOf → (new : BlockOf) → Standard → (token : ℕ) → (first : Option DeclNo) → (block : ℕ) → (listed : Bool) → BuildingOf
provided_at b new name token first block listed = record b {
  tables = record b.tables {
    blocks = slice_set b.tables.blocks block new;
    declarations = b.tables.declarations ++ standard_row (attribute_name name) token block (attribute_entry first name) listed ∷ [];
  };
}

-- an attribute of `simulation` itself, which the block does not list
abbrev pub provided_alone : BuildingOf → Standard → (token : ℕ) → (first : Option DeclNo) → (block : ℕ) → Option BlockOf → BuildingOf
provided_alone b name token first block None = b
provided_alone b name token first block (Some row) =
    if list_any (bytes_eq (attribute_name name)) row.brought_names then b
    else provided_at b (with_brought (attribute_name name) (record { 0 = length b.tables.declarations }) row) name token first block false

-- an attribute of a standard class, which the block of that class lists
abbrev pub provided_in : BuildingOf → Standard → (token : ℕ) → (first : Option DeclNo) → (block : ℕ) → Option BlockOf → BuildingOf
provided_in b name token first block None = b
provided_in b name token first block (Some row) =
    if list_any (bytes_eq (attribute_name name)) row.names then b
    else provided_at b (with_name row (attribute_name name) (record { 0 = length b.tables.declarations })) name token first block true

abbrev pub provides_in : BuildingOf → Option StandardClass → Standard → (token block : ℕ) → (first : Option DeclNo) → BuildingOf
provides_in b None name token block first = provided_alone b name token first block (slice_get b.tables.blocks block)
provides_in b (Some which) name token block first =
    provided_in b name token first (block + 1 + place_of which) (slice_get b.tables.blocks (block + 1 + place_of which))

abbrev pub provides : BuildingOf → Option StandardClass → Standard → (token : ℕ) → Option ℕ → BuildingOf
provides b which name token None = b
provides b which name token (Some block) = provides_in b which name token block (first_brought (slice_get b.tables.blocks block))

-- Protection parts. A name that stands twice in the parts of a class counts once.
abbrev pub with_once : List (List ℕ) → Bool → List ℕ → List (List ℕ)
with_once names false name = names
with_once names true name = if list_any (bytes_eq name) names then names else names ++ name ∷ []

abbrev pub protecting : (hides keeps : Bool) → List ℕ → BlockOf → BlockOf
protecting hides keeps name row =
    record row { protected = with_once row.protected keeps name; hidden = with_once row.hidden hides name }

abbrev pub guards_at : BuildingOf → (hides keeps : Bool) → Identifier → (block : ℕ) → Option BlockOf → BuildingOf
guards_at b hides keeps x block None = b
guards_at b hides keeps x block (Some row) = record b {
  tables = record b.tables {
    blocks = slice_set b.tables.blocks block (protecting hides keeps x.name row);
    protections = b.tables.protections ++ record { block = block; attribute = x; hides = hides; protects = keeps } ∷ [];
  };
}

abbrev pub guards : BuildingOf → (hides keeps : Bool) → Identifier → Option ℕ → BuildingOf
guards b hides keeps x None = b
guards b hides keeps x (Some block) = guards_at b hides keeps x block (slice_get b.tables.blocks block)

-- Headings.
-- the parameters are the first declarations of their block
abbrev pub counted : BuildingOf → (block : ℕ) → Option BlockOf → BuildingOf
counted b block None = b
counted b block (Some row) = record b { tables = record b.tables { blocks = slice_set b.tables.blocks block (record row { formals = length row.numbers }) } }

abbrev pub counted_in : BuildingOf → Option ℕ → BuildingOf
counted_in b None = b
counted_in b (Some block) = counted b block (slice_get b.tables.blocks block)

abbrev pub parameter : BuildingOf → Identifier → BuildingOf
parameter b x = let c = declared b x (entry.Unspecified None) in counted_in c c.current

-- the declaration of an identifier in the innermost block
abbrev pub found_in : Tables → Option ℕ → List ℕ → Option DeclNo
found_in s None name = None
found_in s (Some block) name = lookup s block name

abbrev pub entry_found : Tables → Option DeclNo → Option Entry
entry_found s None = None
entry_found s (Some d) = entry_of s d

-- what a declaration declares becomes known
abbrev pub entered : BuildingOf → DeclNo → Entry → Option Declaration → BuildingOf
entered b d e None = b
entered b d e (Some row) = record b { tables = record b.tables { declarations = slice_set b.tables.declarations d.0 (record row { entry = e }) } }

abbrev pub with_entry : BuildingOf → DeclNo → Entry → BuildingOf
with_entry b d e = entered b d e (slice_get b.tables.declarations d.0)

-- a parameter that no specification has named yet, with the mode that is written for it
abbrev pub unspecified : Entry → Option (Option WrittenMode)
unspecified (entry.Unspecified written) = Some written
unspecified (entry.Variable ty) = None
unspecified (entry.Constant ty) = None
unspecified (entry.Array ty dimensions) = None
unspecified (entry.Procedure result block) = None
unspecified (entry.Class block) = None
unspecified (entry.Virtual result own) = None
unspecified (entry.Formal f) = None
unspecified (entry.Attribute name parameter result) = None

abbrev pub unspecified_in : Option Entry → Option (Option WrittenMode)
unspecified_in None = None
unspecified_in (Some e) = unspecified e

abbrev pub unspecified_at : Tables → Option DeclNo → Option (Option WrittenMode)
unspecified_at s None = None
unspecified_at s (Some d) = unspecified_in (entry_of s d)

abbrev pub is_class : BlockKind → Bool
is_class kind.Class = true
is_class kind.Program = false
is_class kind.SubBlock = false
is_class kind.Procedure = false
is_class kind.Prefixed = false
is_class kind.Connection = false
is_class (kind.StandardClass which) = false

abbrev pub is_class_block : Option BlockOf → Bool
is_class_block None = false
is_class_block (Some row) = is_class row.kind

-- whether the heading is that of a class
abbrev pub in_class : BuildingOf → Bool
in_class b = is_class_block (block_around b.tables b.current)

abbrev pub is_by_name : Mode → Bool
is_by_name mode.ByName = true
is_by_name mode.ByValue = false
is_by_name mode.ByReference = false

-- The mode part names an identifier. It is a parameter that no mode part has named before; a class has no parameters by name.
abbrev pub moded_as : BuildingOf → TokenNo → Mode → DeclNo → Option (Option WrittenMode) → BuildingOf
moded_as b token m d None = broken b token.0 r.ModeNotAllowed
moded_as b token m d (Some (Some written)) = broken b token.0 r.ModeNotAllowed
moded_as b token m d (Some None) =
    if is_by_name m && in_class b
    then broken b token.0 r.ModeNotAllowed
    else with_entry b d (entry.Unspecified (Some (record { token = token; mode = m })))

abbrev pub moded : BuildingOf → TokenNo → Mode → Option DeclNo → BuildingOf
moded b token m None = broken b token.0 r.ModeNotAllowed
moded b token m (Some d) = moded_as b token m d (unspecified_in (entry_of b.tables d))

-- integers, booleans and characters
abbrev pub is_simple : Option SimType → Bool
is_simple (Some t.Integer) = true
is_simple (Some t.Boolean) = true
is_simple (Some t.Character) = true
is_simple _ = false

abbrev pub is_text : Option SimType → Bool
is_text (Some t.Text) = true
is_text _ = false

-- The mode of a parameter for which none is written: a simple value goes by value, all else by reference.
unfoldable pub default_mode : FormalKind → Option SimType → Mode
default_mode formal_kind.Simple ty = if is_simple ty then mode.ByValue else mode.ByReference
default_mode formal_kind.Array ty = mode.ByReference
default_mode formal_kind.Procedure ty = mode.ByReference

-- What may be passed by value: simple values, texts, and arrays of simple values.
abbrev pub value_allowed : FormalKind → Option SimType → Bool
value_allowed formal_kind.Simple ty = is_simple ty || is_text ty
value_allowed formal_kind.Array ty = is_simple ty
value_allowed formal_kind.Procedure ty = false

-- whether a mode may be written for a parameter: by name all may be passed
unfoldable pub mode_allowed : Mode → FormalKind → Option SimType → Bool
mode_allowed m k ty = is_by_name m || value_allowed k ty

abbrev pub is_procedure : FormalKind → Bool
is_procedure formal_kind.Procedure = true
is_procedure formal_kind.Simple = false
is_procedure formal_kind.Array = false

abbrev pub formal : Mode → FormalKind → Option SimType → Entry
formal m k ty = entry.Formal (record { mode = m; kind = k; ty = ty })

abbrev pub with_mode : BuildingOf → DeclNo → FormalKind → Option SimType → Option WrittenMode → BuildingOf
with_mode b d k ty None = with_entry b d (formal (default_mode k ty) k ty)
with_mode b d k ty (Some w) = broken_if (not (mode_allowed w.mode k ty)) (with_entry b d (formal w.mode k ty)) w.token.0 r.ModeNotAllowed

abbrev pub token_in : Option Declaration → ℕ
token_in None = 0
token_in (Some row) = row.token.0

-- A specification names an identifier. It is a parameter that none has named before; a class has no parameters that are procedures.
abbrev pub specified_as : BuildingOf → TokenNo → FormalKind → Option SimType → DeclNo → Option (Option WrittenMode) → BuildingOf
specified_as b token k ty d None = broken b token.0 r.SpecificationDisagrees
specified_as b token k ty d (Some written) =
    broken_if (is_procedure k && in_class b) (with_mode b d k ty written) (token_in (slice_get b.tables.declarations d.0)) r.ModeNotAllowed

abbrev pub specified : BuildingOf → TokenNo → FormalKind → Option SimType → Option DeclNo → BuildingOf
specified b token k ty None = broken b token.0 r.SpecificationDisagrees
specified b token k ty (Some d) = specified_as b token k ty d (unspecified_in (entry_of b.tables d))

-- at the end of a heading each parameter has been specified
abbrev pub headed : BuildingOf → TokenNo → Option (Option WrittenMode) → BuildingOf
headed b token None = b
headed b token (Some written) = broken b token.0 r.SpecificationDisagrees

-- The `inner` of a class: the first one in the statement list of its body. A second one is out of place.
abbrev pub inner_in : BuildingOf → (token block : ℕ) → BlockOf → Option ℕ → BuildingOf
inner_in b token block row None = record b { tables = record b.tables { blocks = slice_set b.tables.blocks block (record row { inner = Some token }) } }
inner_in b token block row (Some other) = broken b token r.InnerOutOfPlace

abbrev pub inner_at : BuildingOf → (token block : ℕ) → Option BlockOf → BuildingOf
inner_at b token block None = b
inner_at b token block (Some row) = inner_in b token block row row.inner

abbrev pub inner : BuildingOf → (token : ℕ) → Option ℕ → BuildingOf
inner b token None = b
inner b token (Some block) = inner_at b token block (slice_get b.tables.blocks block)

-- the class of the references that a declaration is of
abbrev pub qualified : BuildingOf → Identifier → Option DeclNo → BuildingOf
qualified b class None = b
qualified b class (Some d) = record b { tables = record b.tables { qualifications = b.tables.qualifications ++ record { declaration = d; class = class } ∷ [] } }

unfoldable pub marked : BuildingOf → Mark → BuildingOf
marked b (Opens k text first) = opened b k text first
marked b (Closes end) = closed b end b.current
marked b (Declares x e) = declared b x e
marked b (DeclaresProcedure x result) = declared b x (entry.Procedure result (length b.tables.blocks))
marked b (DeclaresClass x) = changed (declared b x (entry.Class (length b.tables.blocks))) holding_class b.current
marked b (Parameter x) = parameter b x
marked b (Moded x m) = moded b x.token m (found_in b.tables b.current x.name)
marked b (Specified x k ty) = let d = found_in b.tables b.current x.name in specified (record b { latest = d }) x.token k ty d
marked b (Headed x) = headed b x.token (unspecified_at b.tables (found_in b.tables b.current x.name))
marked b (Qualifies class) = qualified b class b.latest
marked b (Prefixes class) = changed b (prefixed_by class) b.current
marked b (Brings which token) = brings b which token b.current
marked b (Provides which name token) = provides b which name token b.current
marked b (Protects hides keeps x) = guards b hides keeps x b.current
marked b (Inner token) = inner b token b.current
marked b (Breaks token rule) = broken b token rule
