-- What is known of the tables of an allowed program.
use Rattle.std.specs.Prelude.{◌≡◌, ◌<◌, ◌⊎◌, ℕ, Bool, true, false, List, [], length, Option, Some, None, slice_get}
use Rattle.sim_base.specs.declared.numbering.DeclNo.{DeclNo}
use Rattle.sim_scope.specs.declared.scopes.Denotation.TheVariants as denotation
use Rattle.sim_scope.specs.declared.standard.StandardName.TheVariants as standard
use Rattle.sim_scope.specs.declared.types.Entry.{Entry}
use Rattle.sim_scope.specs.declared.types.Entry.TheVariants as entry
use Rattle.sim_scope.specs.declared.types.FormalKind.{FormalKind}
use Rattle.sim_scope.specs.declared.types.FormalKind.TheVariants as shape
use Rattle.sim_scope.specs.declared.types.SimType.{SimType}
use Rattle.sim_scope.specs.declared.types.SimType.TheVariants as t
use Rattle.sim_scope.specs.declared.types.StandardClass.{StandardClass}
use Rattle.sim_scope.specs.declared.types.StandardClass.TheVariants as standard_class
use Rattle.sim_scope.specs.declared.types.StandardPrefix.{StandardPrefix}
use Rattle.sim_scope.specs.Building.{name_of}
use Rattle.sim_scope.specs.Calls.{attribute_in, is_inside, match_seen}
use Rattle.sim_scope.specs.Access.{block_at, has_text_of_levels, is_connection as is_connection_kind, is_kind}
use Rattle.sim_scope.specs.Levels.{base, has_classes, has_level, is_simulation_block, owner_of_level}
use Rattle.sim_scope.specs.Scopes.{binding, class_formals, entry_of, found_in}
use Rattle.sim_scope.specs.Source.{Source, block_of}
use Rattle.virtual_match.specs.Matching.{results_fit}
use Rattle.sim_values.specs.declared.standard.Standard.{Standard}
use Rattle.sim_values.specs.Plain.{Plain, kind_of}
use Rattle.sim_code.specs.Sets.{is_attribute_name}
use Rattle.sim_code.specs.Simulations.{is_simulation_name}
use Rattle.sim_meaning.specs.Attributes.{is_connection}
use Rattle.sim_meaning.specs.Closing.{class_parameters}
use Rattle.sim_meaning.specs.Entries.{formals_of, numbers_of}
use Rattle.sim_meaning.specs.Levels.{is_class, has_levels}
use Rattle.sim_meaning.specs.Texts.{constant_of, kind_of_type, text, PrefixedText, StandardText}
use Rattle.sim_sound.specs.Held.{Around}
use Rattle.sim_sound.specs.Expressions.{ProcessClassThere}
use Rattle.sim_sound.specs.Typed.{FormalsAre, Prefixes}
use Rattle.sim_scope.specs.Statements.{prefix_in}
use Rattle.sim_tree.specs.declared.expr.Identifier.{Identifier}
use Rattle.sim_tree.specs.Syntax.{Declarations, Expressions, Statements}

-- a declared class: its block is the text of a class, and belongs to it
pub record IsClass (s : Source) (d : DeclNo) : Type 0 where
  pub block : ℕ
  pub declares : entry_of s.tables d ≡ Some (entry.Class block)
  pub is : is_class (text s block) ≡ true
  pub owned : owner_of_level s.tables (Some block) ≡ Some d

-- The prefix of a block: a declared class, which the first round found, and whose parameters are those of the block.
pub record BlockPrefix (s : Source) (k : ℕ) : Type 0 where
  pub declaration : DeclNo
  pub class : IsClass s declaration
  pub based : base s.tables k ≡ Some class.block
  pub denoted : prefix_in s.tables (slice_get s.tables.blocks k) ≡ Some (denotation.Declared declaration)
  pub parameters : class_parameters s (Some k) ≡ class_parameters s (Some class.block)

-- Or the prefix of a block is a standard one, which gives no level and has no parameters.
pub record StandardPrefixed (s : Source) (k : ℕ) : Type 0 where
  pub which : StandardPrefix
  pub based : base s.tables k ≡ None
  pub denoted : prefix_in s.tables (slice_get s.tables.blocks k) ≡ Some (denotation.Standard (standard.Prefix which))
  pub parameters : class_formals s.tables k ≡ []

-- the types of values that are no references
abbrev pub PlainType : SimType → Type 0
PlainType t.Integer = Unit {0}
PlainType t.Boolean = Unit {0}
PlainType t.Character = Unit {0}
PlainType t.Text = Unit {0}
PlainType _ = ⊥

-- what a standard name gives that is seen alone or behind a text
abbrev pub PlainGiven : Option SimType → Type 0
PlainGiven None = Unit {0}
PlainGiven (Some type) = PlainType type

-- the types of variables
abbrev pub ProperType : Source → SimType → Type 0
ProperType s (t.Ref d) = IsClass s d
ProperType s type = PlainType type

abbrev pub ProperResult : Source → Option SimType → Type 0
ProperResult s None = Unit {0}
ProperResult s (Some type) = ProperType s type

abbrev pub ProperFormal : Source → FormalKind → Option SimType → Type 0
ProperFormal s shape.Procedure type = ProperResult s type
ProperFormal s shape.Simple None = ⊥
ProperFormal s shape.Array None = ⊥
ProperFormal s k (Some type) = ProperType s type

-- an attribute of a standard class, or of `simulation` itself
abbrev pub IsAttribute : Standard → Type 0
IsAttribute name = (is_attribute_name name ≡ true) ⊎ (is_simulation_name name ≡ true)

-- what a declaration may be
abbrev pub ProperEntry : Source → Entry → Type 0
ProperEntry s (entry.Variable type) = ProperType s type
ProperEntry s (entry.Constant type) = PlainType type
ProperEntry s (entry.Array element dimensions) = ProperType s element
ProperEntry s (entry.Procedure result k) = ProperResult s result
ProperEntry s (entry.Class k) = Unit {0}
ProperEntry s (entry.Virtual result own) = ProperResult s result
ProperEntry s (entry.Formal f) = ProperFormal s f.kind f.ty
ProperEntry s (entry.Attribute name parameter result) = IsAttribute name × ProperResult s parameter × ProperResult s result
ProperEntry s _ = ⊥

-- a constant has a value, of its type
pub record ConstantIs (s : Source) (d : DeclNo) (type : SimType) : Type 0 where
  pub value : Plain
  pub is : constant_of s d ≡ Some value
  pub of_type : kind_of value ≡ kind_of_type type

-- A declaration is found in a block: among its levels, or among those of the class that it connects.
abbrev pub FoundThrough : Source → (connection : Bool) → (found declared : ℕ) → Type 0
FoundThrough s false found declared = has_level s.tables found declared ≡ true
FoundThrough s true found declared = (class : ℕ) × (base s.tables found ≡ Some class) × (has_level s.tables class declared ≡ true)

pub record Found (s : Source) (token block : ℕ) (name : List ℕ) (d : DeclNo) : Type 0 where
  pub found : ℕ
  pub at : found_in s.tables token name ≡ Some found
  pub around : Around s.tables block found
  pub through : FoundThrough s (is_connection (text s found)) found (block_of s d)

-- what matches a virtual is a procedure whose result fits
pub record MatchFits (s : Source) (result : Option SimType) (match : DeclNo) : Type 0 where
  pub given : Option SimType
  pub block : ℕ
  pub declares : entry_of s.tables match ≡ Some (entry.Procedure given block)
  pub fits : results_fit s.tables result given ≡ true

pub record Tabled (s : Source) : Type 0 where
  -- there is a block
  pub some_block : 0 < length s.tables.blocks
  -- what an identifier denotes is in the tables, also behind a dot
  pub there : (token : ℕ) (name : List ℕ) (d : DeclNo) → binding s.tables token name ≡ Some (denotation.Declared d) → (e : Entry) × (entry_of s.tables d ≡ Some e)
  pub attributes : (token block : ℕ) (name : List ℕ) (d : DeclNo) → attribute_in s.tables token block name ≡ Some (denotation.Declared d) → (e : Entry) × (entry_of s.tables d ≡ Some e) × (has_level s.tables block (block_of s d) ≡ true)
  pub proper : (d : DeclNo) (e : Entry) → entry_of s.tables d ≡ Some e → ProperEntry s e
  pub headings : (d : DeclNo) (result : Option SimType) (k : ℕ) → entry_of s.tables d ≡ Some (entry.Procedure result k) → FormalsAre s (numbers_of s k) (formals_of s k)
  pub owned : (d : DeclNo) (result : Option SimType) (k : ℕ) → entry_of s.tables d ≡ Some (entry.Procedure result k) → owner_of_level s.tables (Some k) ≡ Some d
  pub class_headings : (d : DeclNo) (k : ℕ) → entry_of s.tables d ≡ Some (entry.Class k) → FormalsAre s (class_formals s.tables k) (class_parameters s (Some k))
  pub classes : (d : DeclNo) (k : ℕ) → entry_of s.tables d ≡ Some (entry.Class k) → (is_class (text s k) ≡ true) × (owner_of_level s.tables (Some k) ≡ Some d)
  pub owners : (k : ℕ) (d : DeclNo) → is_class (text s k) ≡ true → owner_of_level s.tables (Some k) ≡ Some d → entry_of s.tables d ≡ Some (entry.Class k)
  pub constants : (d : DeclNo) (type : SimType) → entry_of s.tables d ≡ Some (entry.Constant type) → ConstantIs s d type
  -- an attribute of a standard class is declared in a class, one of `simulation` itself in a class or a block that has levels
  pub attribute_owners : (d : DeclNo) (name : Standard) (parameter result : Option SimType) → entry_of s.tables d ≡ Some (entry.Attribute name parameter result) → is_attribute_name name ≡ true → is_class (text s (block_of s d)) ≡ true
  -- a virtual is declared in a class
  pub virtuals : (d : DeclNo) (result : Option SimType) (own : Option DeclNo) → entry_of s.tables d ≡ Some (entry.Virtual result own) → is_class (text s (block_of s d)) ≡ true
  -- the match to which the search for the identifier of a virtual comes
  pub matches : (x : Identifier) (v match : DeclNo) (result : Option SimType) (own : Option DeclNo) → binding s.tables x.token.0 x.name ≡ Some (denotation.Declared v) → entry_of s.tables v ≡ Some (entry.Virtual result own) → match_seen s.tables x ≡ Some match → MatchFits s result match
  -- what an identifier denotes is found in a block around
  pub around : (token k : ℕ) (name : List ℕ) (d : DeclNo) → block_at s.tables token ≡ Some k → binding s.tables token name ≡ Some (denotation.Declared d) → Found s token k name d
  -- a token inside the text of a block
  pub inside : (token k j : ℕ) → block_at s.tables token ≡ Some k → is_inside s.tables token j ≡ true → Around s.tables k j
  -- no class is found through a connection
  pub outside : (token found : ℕ) (name : List ℕ) (d : DeclNo) (k : ℕ) → binding s.tables token name ≡ Some (denotation.Declared d) → entry_of s.tables d ≡ Some (entry.Class k) → found_in s.tables token name ≡ Some found → is_connection (text s found) ≡ false
  -- what is connected declares no class
  pub connected : (k c : ℕ) → is_connection (text s k) ≡ true → base s.tables k ≡ Some c → has_classes s.tables c ≡ false
  -- an attribute of `simulation` itself is found in a class or a block that it is in front of
  pub simulates : (token : ℕ) (name : List ℕ) (d : DeclNo) (n : Standard) (parameter result : Option SimType) → binding s.tables token name ≡ Some (denotation.Declared d) → entry_of s.tables d ≡ Some (entry.Attribute n parameter result) → is_simulation_name n ≡ true → is_simulation_block s.tables (block_of s d) ≡ true
  pub simulates_behind : (token block : ℕ) (name : List ℕ) (d : DeclNo) (n : Standard) (parameter result : Option SimType) → attribute_in s.tables token block name ≡ Some (denotation.Declared d) → entry_of s.tables d ≡ Some (entry.Attribute n parameter result) → is_simulation_name n ≡ true → is_simulation_block s.tables (block_of s d) ≡ true
  pub simulation_levels : (k : ℕ) → is_simulation_block s.tables k ≡ true → has_levels (text s k) ≡ true
  -- a standard class is found by its name
  pub class_named : (token : ℕ) (name : List ℕ) (d : DeclNo) (k : ℕ) (which : StandardClass) → binding s.tables token name ≡ Some (denotation.Declared d) → entry_of s.tables d ≡ Some (entry.Class k) → text s k ≡ Some (StandardText which) → name ≡ name_of which
  -- and a class `process` was brought by `simulation`
  pub processes_found : (token : ℕ) (name : List ℕ) (d : DeclNo) (k : ℕ) → binding s.tables token name ≡ Some (denotation.Declared d) → entry_of s.tables d ≡ Some (entry.Class k) → text s k ≡ Some (StandardText standard_class.Process) → ProcessClassThere s k
  -- the prefix of a block is a declared class, or a standard one
  pub block_prefixes : (k : ℕ) (class : Identifier) (es : Expressions) (ds : Declarations) (ss : Statements) → text s k ≡ Some (PrefixedText class es ds ss) → BlockPrefix s k ⊎ StandardPrefixed s k
  -- a class has levels, and so has a block of the kind of a class or of one with a prefix
  pub class_levels : (k : ℕ) → is_class (text s k) ≡ true → has_levels (text s k) ≡ true
  pub level_kinds : (k : ℕ) → is_kind has_text_of_levels s.tables k ≡ true → has_levels (text s k) ≡ true
  -- a next level is a class
  pub connects : (k c : ℕ) → base s.tables k ≡ Some c → is_class (text s c) ≡ true
  -- the blocks that are connections; what else has a next level is a class or a block with a prefix
  pub connections : (k : ℕ) → is_kind is_connection_kind s.tables k ≡ is_connection (text s k)
  pub prefixes : Prefixes s
