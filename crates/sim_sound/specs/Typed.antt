-- Which programs are typed: what the static rules give, as far as a run rests on it.
use Rattle.std.specs.Prelude.{◌≡◌, ◌<◌, ◌+◌, ℕ, suc, true, false, List, [], ◌∷◌, length, slice_get, Option, Some, None}
use Rattle.sim_base.specs.declared.numbering.DeclNo.{DeclNo}
use Rattle.sim_scope.specs.declared.scopes.Declaration.{Declaration}
use Rattle.sim_scope.specs.declared.types.Entry.{Entry}
use Rattle.sim_scope.specs.declared.types.Entry.TheVariants as entry
use Rattle.sim_scope.specs.declared.types.Formal.{Formal}
use Rattle.sim_scope.specs.declared.types.SimType.{SimType}
use Rattle.sim_scope.specs.declared.types.StandardClass.{StandardClass}
use Rattle.sim_scope.specs.declared.types.StandardClass.TheVariants as standard
use Rattle.sim_scope.specs.Access.{encloser}
use Rattle.sim_scope.specs.Levels.{base, has_level, is_simulation_block, owner_of_level}
use Rattle.sim_scope.specs.Scopes.{class_formals, entry_of}
use Rattle.sim_scope.specs.Source.{Source, block_around, block_of, level_of}
use Rattle.sim_scope.specs.Standard.{parameter_of, result_of}
use Rattle.sim_scope.specs.Tables.{Tables}
use Rattle.sim_tree.specs.declared.expr.Identifier.{Identifier}
use Rattle.sim_tree.specs.declared.stmt.TypeName.{TypeName}
use Rattle.sim_tree.specs.Filled.{SomeBounds}
use Rattle.sim_tree.specs.Syntax.{Arrayed, Arrays, BoundPair, Declarations, DeclareClass, DeclareProcedure, Expressions, Heading, NoDeclaration, NoStatement, Statement, Statements, Variables, With}
use Rattle.sim_values.specs.declared.kind.Kind.TheVariants as kind
use Rattle.sim_values.specs.declared.standard.Owner.{Owner}
use Rattle.sim_values.specs.declared.standard.Owner.TheVariants as owner
use Rattle.sim_values.specs.declared.standard.Standard.{Standard}
use Rattle.sim_values.specs.declared.standard.StandardType.{StandardType}
use Rattle.sim_values.specs.declared.standard.StandardType.TheVariants as of
use Rattle.sim_values.specs.Plain.{Plain, kind_of}
use Rattle.sim_values.specs.Standard.{row_of}
use Rattle.sim_code.specs.Simulations.{is_simulation_name}
use Rattle.sim_code.specs.Sets.{is_attribute_name}
use Rattle.sim_meaning.specs.Attributes.{first_in, is_connection}
use Rattle.sim_meaning.specs.Closing.{class_parameters}
use Rattle.sim_meaning.specs.Entries.{formals_of, numbers_of}
use Rattle.sim_meaning.specs.Levels.{has_levels, is_class}
use Rattle.sim_meaning.specs.Texts.{BlockText, ClassText, ConnectionText, PrefixedText, ProcedureText, StandardText, Text, constant_of, declared_at, is_class_free, kind_named, kind_of_type, text}
use Rattle.sim_meaning.specs.Virtuals.{match_in_text}
use Rattle.sim_sound.specs.Held.{Among, ArrayOf, ByName, Holds, In, InBound, IsFormal, IsOfKind, Place, Procedure, Refers, ResultFits, Simply, entry_holds, formal_holds, given_by, held_by, result_holds}
use Rattle.sim_sound.specs.Expressions.{ClassNear, ExprIs, ProcessClassThere}
use Rattle.sim_sound.specs.Statements.{StatementIs, StatementsAre}

-- ---- arrays that a text declares

-- of its own text a bound sees parameters and constants alone
abbrev pub BoundsAre : Source → Place → List BoundPair → Type 0
BoundsAre s from [] = Unit {0}
BoundsAre s from (b ∷ bs) = ExprIs s from b.lower (Simply kind.Integer) × ExprIs s from b.upper (Simply kind.Integer) × BoundsAre s from bs

-- the declaration at a token is an array of this
pub record ArrayIs (s : Source) (h : Holds) (x : Identifier) : Type 0 where
  pub declaration : DeclNo
  pub at : declared_at s x.token.0 ≡ Some declaration
  pub element : SimType
  pub dimensions : ℕ
  pub is : entry_of s.tables declaration ≡ Some (entry.Array element dimensions)
  pub holds : held_by s element ≡ h

abbrev pub ArraysAre : Source → Holds → List Identifier → Type 0
ArraysAre s h [] = Unit {0}
ArraysAre s h (x ∷ xs) = ArrayIs s h x × ArraysAre s h xs

-- a segment names something
abbrev pub SomeName : List Identifier → Type 0
SomeName [] = ⊥
SomeName (x ∷ xs) = Unit {0}

abbrev pub SegmentsAre : Source → Place → Holds → List Arrayed → Type 0
SegmentsAre s from h [] = Unit {0}
SegmentsAre s from h (a ∷ more) = BoundsAre s from a.bounds × SomeBounds a.bounds × SomeName a.names × ArraysAre s h a.names × SegmentsAre s from h more

abbrev pub ArraysTyped : Source → Place → Declarations → Type 0
ArraysTyped s from NoDeclaration = Unit {0}
ArraysTyped s from (With (Arrays type token segments) ds) = (h : Holds) × IsOfKind h (kind_named type) × SegmentsAre s from h segments × ArraysTyped s from ds
ArraysTyped s from (With (Variables type vs) ds) = ArraysTyped s from ds
ArraysTyped s from (With (DeclareProcedure result token h a end) ds) = ArraysTyped s from ds
ArraysTyped s from (With (DeclareClass prefix token h interface a end) ds) = ArraysTyped s from ds

-- the arrays that a text declares, in order
abbrev pub of_option : Option DeclNo → List DeclNo → List DeclNo
of_option None ds = ds
of_option (Some d) ds = d ∷ ds

abbrev pub arrays_named : Source → List Identifier → List DeclNo → List DeclNo
arrays_named s [] more = more
arrays_named s (x ∷ xs) more = of_option (declared_at s x.token.0) (arrays_named s xs more)

abbrev pub arrays_in_segments : Source → List Arrayed → List DeclNo → List DeclNo
arrays_in_segments s [] more = more
arrays_in_segments s (a ∷ others) more = arrays_named s a.names (arrays_in_segments s others more)

abbrev pub arrays_of_block : Source → Declarations → List DeclNo
arrays_of_block s NoDeclaration = []
arrays_of_block s (With (Arrays type token segments) ds) = arrays_in_segments s segments (arrays_of_block s ds)
arrays_of_block s (With (Variables type vs) ds) = arrays_of_block s ds
arrays_of_block s (With (DeclareProcedure result token h a end) ds) = arrays_of_block s ds
arrays_of_block s (With (DeclareClass prefix token h interface a end) ds) = arrays_of_block s ds

-- no declaration twice
abbrev pub Distinct : List DeclNo → Type 0
Distinct [] = Unit {0}
Distinct (d ∷ ds) = (Among d ds → ⊥) × Distinct ds

-- ---- texts

-- a block has no formal parameters; a procedure's cells are those of its formal parameters, each of which has something to hold
abbrev pub NoFormal : Option Entry → Type 0
NoFormal (Some (entry.Formal f)) = ⊥
NoFormal _ = Unit {0}

abbrev pub NoFormals : Source → List DeclNo → Type 0
NoFormals s [] = Unit {0}
NoFormals s (d ∷ ds) = NoFormal (entry_of s.tables d) × NoFormals s ds

abbrev pub FormalsAre : Source → List DeclNo → List Formal → Type 0
FormalsAre s [] [] = Unit {0}
FormalsAre s [] (f ∷ fs) = ⊥
FormalsAre s (d ∷ ds) [] = ⊥
FormalsAre s (d ∷ ds) (f ∷ fs) = (h : Holds) × (entry_of s.tables d ≡ Some (entry.Formal f)) × (formal_holds s f.mode f.kind f.ty ≡ Some h) × FormalsAre s ds fs

pub record BlockTyped (s : Source) (k : ℕ) (ds : Declarations) (ss : Statements) : Type 0 where
  pub no_formals : NoFormals s (numbers_of s k)
  pub arrays : ArraysTyped s (InBound k) ds
  pub distinct : Distinct (arrays_of_block s ds)
  pub made : (d : DeclNo) (element : Holds) → Among d (numbers_of s k) → entry_holds s false (entry_of s.tables d) ≡ Some (ArrayOf element) → Among d (arrays_of_block s ds)
  pub own : (d : DeclNo) → Among d (arrays_of_block s ds) → Among d (numbers_of s k)
  pub statements : StatementsAre s k ss

-- the result has the type that is written
abbrev pub ResultWritten : Option TypeName → Option Holds → Type 0
ResultWritten None None = Unit {0}
ResultWritten (Some type) (Some h) = IsOfKind h (kind_named type)
ResultWritten _ _ = ⊥

abbrev pub FormalsNear : Source → (around : ℕ) → List Formal → Type 0
FormalsNear s k [] = Unit {0}
FormalsNear s k (f ∷ fs) = ClassNear s (In k) f.ty × FormalsNear s k fs

pub record ProcedureTyped (s : Source) (k : ℕ) (given : Option TypeName) (a : Statement) : Type 0 where
  pub result : ResultWritten given (result_holds s k)
  pub formals : FormalsAre s (numbers_of s k) (formals_of s k)
  -- the classes of the formal parameters are declared around
  pub near : (around : ℕ) → encloser s.tables k ≡ Some around → FormalsNear s around (formals_of s k)
  pub body : StatementIs s k a

-- a constant of a class has a value, of its type
pub record ConstantHas (s : Source) (d : DeclNo) (type : SimType) : Type 0 where
  pub value : Plain
  pub is : constant_of s d ≡ Some value
  pub of_type : kind_of value ≡ kind_of_type type

-- A class or a prefixed block: the formal parameters of all its levels have something to hold; those of its own are formal parameters of the
-- class; its arrays are made before its statements.
pub record ClassTyped (s : Source) (k : ℕ) (ds : Declarations) (ss : Statements) : Type 0 where
  pub formals : FormalsAre s (class_formals s.tables k) (class_parameters s (Some k))
  pub parameters : (d : DeclNo) → Among d (numbers_of s k) → IsFormal (entry_of s.tables d) → Among d (class_formals s.tables k)
  pub different : Distinct (numbers_of s k)
  -- none of its parameters is by name
  pub not_by_name : (d : DeclNo) (h : Holds) → Among d (numbers_of s k) → entry_holds s true (entry_of s.tables d) ≡ Some (ByName h) → ⊥
  -- and none is a procedure
  pub no_procedure : (d : DeclNo) (result : Option SimType) → Among d (numbers_of s k) → entry_holds s true (entry_of s.tables d) ≡ Some (Procedure result) → ⊥
  pub constants : (d : DeclNo) (type : SimType) → Among d (numbers_of s k) → entry_of s.tables d ≡ Some (entry.Constant type) → ConstantHas s d type
  pub arrays : ArraysTyped s (InBound k) ds
  pub distinct : Distinct (arrays_of_block s ds)
  pub made : (d : DeclNo) (element : SimType) (dimensions : ℕ) → Among d (numbers_of s k) → entry_of s.tables d ≡ Some (entry.Array element dimensions) → Among d (arrays_of_block s ds)
  pub own : (d : DeclNo) → Among d (arrays_of_block s ds) → Among d (numbers_of s k)
  pub statements : StatementsAre s k ss
  -- it lasts, with all texts around
  pub stays : is_class_free s k ≡ false

-- a connection is the text around the token with which it begins
pub record ConnectionTyped (s : Source) (k : ℕ) : Type 0 where
  pub around : block_around s (first_in (slice_get s.tables.blocks k)) ≡ Some k
  pub stands : (u : ℕ) × (encloser s.tables k ≡ Some u) × (level_of s k ≡ level_of s u)

abbrev pub TextTyped : Source → ℕ → Text → Type 0
TextTyped s k (BlockText begin ds ss) = BlockTyped s k ds ss
TextTyped s k (ProcedureText result h a) = ProcedureTyped s k result a
TextTyped s k (ClassText prefix h ds ss) = ClassTyped s k ds ss
TextTyped s k (PrefixedText class arguments ds ss) = ClassTyped s k ds ss
TextTyped s k ConnectionText = ConnectionTyped s k
TextTyped s k (StandardText which) = ClassTyped s k NoDeclaration NoStatement

-- ---- prefixes

-- The levels of a text come to an end: it has no prefix, or those of its prefix come to an end. There are at most so many.
pub data Ends (tables : Tables) : (levels block : ℕ) → Type 0 where
  outermost : {n k : ℕ} → base tables k ≡ None → Ends tables (suc n) k
  prefixed : {n k b : ℕ} → base tables k ≡ Some b → Ends tables n b → Ends tables (suc n) k

-- the nearest text around that is no connection
pub data Home (s : Source) : (text home : ℕ) → Type 0 where
  stands : {k u : ℕ} → encloser s.tables k ≡ Some u → is_connection (text s u) ≡ false → Home s k u
  connected : {k u h : ℕ} → encloser s.tables k ≡ Some u → is_connection (text s u) ≡ true → Home s u h → Home s k h

-- The prefix of a class or a block is a class. It is declared in the nearest text around that is no connection, or in a prefix of that.
pub record PrefixTyped (s : Source) (k b : ℕ) : Type 0 where
  pub has : has_levels (text s k) ≡ true
  pub prefix : is_class (text s b) ≡ true
  pub outer : ℕ
  pub outer_prefix : ℕ
  pub around : Home s k outer
  pub around_prefix : encloser s.tables b ≡ Some outer_prefix
  pub solid : is_connection (text s outer) ≡ false
  pub declared : has_level s.tables outer outer_prefix ≡ true

-- What has a next level is a connection, of which that is the class that is connected, or a class or a block, of which that is the prefix. Its
-- levels are no more than there are texts, and what it declares is declared by no level of its prefix.
pub record Prefixes (s : Source) : Type 0 where
  pub prefixed_by : (k b : ℕ) → is_connection (text s k) ≡ false → base s.tables k ≡ Some b → PrefixTyped s k b
  pub ends : (k : ℕ) → is_connection (text s k) ≡ false → Ends s.tables (length s.tables.blocks) k
  pub apart : (k b u : ℕ) (d : DeclNo) → is_connection (text s k) ≡ false → base s.tables k ≡ Some b → has_level s.tables b u ≡ true → Among d (numbers_of s u) → Among d (numbers_of s k) → ⊥

-- ---- programs

-- the text of a declared procedure stands in the text of its declaration, and belongs to it
pub record ProcedureThere (s : Source) (d : DeclNo) (k : ℕ) : Type 0 where
  pub given : Option TypeName
  pub heading : Heading
  pub body : Statement
  pub is : text s k ≡ Some (ProcedureText given heading body)
  pub around : encloser s.tables k ≡ Some (block_of s d)
  pub owned : owner_of_level s.tables (Some k) ≡ Some d

-- What matches a virtual in the class of a text is a procedure that stands in a level of the text, and gives what the virtual gives, or a reference
-- to a subclass.
pub record MatchThere (s : Source) (result : Option SimType) (k match : ℕ) : Type 0 where
  pub given : Option TypeName
  pub heading : Heading
  pub body : Statement
  pub is : text s match ≡ Some (ProcedureText given heading body)
  pub declaration : DeclNo
  pub own : Option SimType
  pub declares : entry_of s.tables declaration ≡ Some (entry.Procedure own match)
  pub level : has_level s.tables k (block_of s declaration) ≡ true
  pub gives : ResultFits s (given_by s own) (given_by s result)

-- and so does that of a class
pub record ClassThere (s : Source) (d : DeclNo) (k : ℕ) : Type 0 where
  pub is : is_class (text s k) ≡ true
  pub around : encloser s.tables k ≡ Some (block_of s d)

-- The program's block may have a prefix, which gives no level in front of it, and no formal parameters.
pub data Starts (s : Source) : Type 0 where
  as_block : {begin : ℕ} {ds : Declarations} {ss : Statements} → text s 0 ≡ Some (BlockText begin ds ss) → Starts s
  as_prefixed : {class : Identifier} {es : Expressions} {ds : Declarations} {ss : Statements} → text s 0 ≡ Some (PrefixedText class es ds ss) → base s.tables 0 ≡ None → class_formals s.tables 0 ≡ [] → Starts s

-- ---- the classes of SIMSET

-- Three classes that were brought together, by the text of the first: `linkage`, and then `link` and `head`, which have it for a prefix.
pub record SetClasses (s : Source) (linkage : ℕ) : Type 0 where
  pub linkage_is : text s linkage ≡ Some (StandardText standard.Linkage)
  pub link_is : text s (linkage + 1) ≡ Some (StandardText standard.Link)
  pub head_is : text s (linkage + 2) ≡ Some (StandardText standard.Head)
  pub first : base s.tables linkage ≡ None
  pub link_prefix : base s.tables (linkage + 1) ≡ Some linkage
  pub head_prefix : base s.tables (linkage + 2) ≡ Some linkage

-- which of these a class of SIMSET is
abbrev pub set_place : StandardClass → Option ℕ
set_place standard.Linkage = Some 0
set_place standard.Link = Some 1
set_place standard.Head = Some 2
set_place standard.Process = Some 3

-- With `process`, which has `link` for a prefix, those that `simulation` brings into the class or block in front of which it is.
pub record SimulationClasses (s : Source) (block : ℕ) : Type 0 where
  pub sets : SetClasses s (block + 1)
  pub process_is : text s (block + 4) ≡ Some (StandardText standard.Process)
  pub process_prefix : base s.tables (block + 4) ≡ Some (block + 2)
  pub process_around : encloser s.tables (block + 4) ≡ Some block
  pub has : has_levels (text s block) ≡ true
  -- `simulation` gives no level in front
  pub first : base s.tables block ≡ None

pub record SetClassThere (s : Source) (k : ℕ) (which : StandardClass) : Type 0 where
  pub linkage : ℕ
  pub classes : SetClasses s linkage
  pub place : ℕ
  pub placed : set_place which ≡ Some place
  pub is : k ≡ linkage + place

-- the class of SIMSET that has an attribute, among those that were brought together
abbrev pub owner_place : Owner → Option ℕ
owner_place owner.Linkage = Some 0
owner_place owner.Link = Some 1
owner_place owner.Head = Some 2
owner_place owner.Process = Some 3
owner_place _ = None

-- a type of the table, as one of these classes or a plain type
abbrev pub SetType : Source → (linkage : ℕ) → Option StandardType → Option SimType → Type 0
SetType s linkage None None = Unit {0}
SetType s linkage (Some of.Boolean) (Some type) = held_by s type ≡ Simply kind.Boolean
SetType s linkage (Some of.Integer) (Some type) = held_by s type ≡ Simply kind.Integer
SetType s linkage (Some of.Linkage) (Some type) = held_by s type ≡ Refers linkage
SetType s linkage (Some of.Link) (Some type) = held_by s type ≡ Refers (linkage + 1)
SetType s linkage (Some of.Head) (Some type) = held_by s type ≡ Refers (linkage + 2)
SetType s linkage (Some of.Process) (Some type) = held_by s type ≡ Refers (linkage + 3)
SetType s linkage _ _ = ⊥

-- An attribute of SIMSET or of a process is declared in the class that has it, with the types of the table.
pub record SetProcedureThere (s : Source) (d : DeclNo) (name : Standard) (parameter result : Option SimType) : Type 0 where
  pub linkage : ℕ
  pub classes : SetClasses s linkage
  pub place : ℕ
  pub placed : owner_place (row_of name).owner ≡ Some place
  pub declared : block_of s d ≡ linkage + place
  -- `process` is one of these classes where `simulation` brought them
  pub of_process : place ≡ 3 → text s (linkage + 3) ≡ Some (StandardText standard.Process)
  pub parameter_is : SetType s linkage (parameter_of name) parameter
  pub result_is : SetType s linkage (result_of name) result

-- A procedure of a simulation block is declared in the class or block in front of which `simulation` is, with the types of the table.
pub record SimulationProcedureThere (s : Source) (d : DeclNo) (name : Standard) (parameter result : Option SimType) : Type 0 where
  pub parameter_is : SetType s (block_of s d + 1) (parameter_of name) parameter
  pub result_is : SetType s (block_of s d + 1) (result_of name) result

-- a standard class declares nothing but standard attributes
abbrev pub IsAttribute : Option Entry → Type 0
IsAttribute (Some (entry.Attribute name parameter result)) = Unit {0}
IsAttribute e = ⊥

pub record Typed (s : Source) : Type 0 where
  pub starts : Starts s
  pub some_block : 0 < length s.tables.blocks
  pub outermost : encloser s.tables 0 ≡ None
  pub levels : (t u : ℕ) → is_connection (text s t) ≡ false → encloser s.tables t ≡ Some u → level_of s t ≡ suc (level_of s u)
  -- each declaration that has a cell is listed in its block
  pub listed : (d : DeclNo) (row : Declaration) (h : Holds) → slice_get s.tables.declarations d.0 ≡ Some row → entry_holds s true (Some row.entry) ≡ Some h → Among d (numbers_of s row.block)
  pub procedures : (d : DeclNo) (result : Option SimType) (k : ℕ) → entry_of s.tables d ≡ Some (entry.Procedure result k) → ProcedureThere s d k
  pub virtuals : (v : DeclNo) (result : Option SimType) (own : Option DeclNo) → entry_of s.tables v ≡ Some (entry.Virtual result own) → is_class (text s (block_of s v)) ≡ true
  pub matches : (v : DeclNo) (result : Option SimType) (own : Option DeclNo) (k match : ℕ) → entry_of s.tables v ≡ Some (entry.Virtual result own) → match_in_text s v.0 (Some k) ≡ Some (Some match) → MatchThere s result k match
  pub classes : (d : DeclNo) (k : ℕ) → entry_of s.tables d ≡ Some (entry.Class k) → ClassThere s d k
  pub set_classes : (k : ℕ) (which : StandardClass) → text s k ≡ Some (StandardText which) → SetClassThere s k which
  pub set_procedures : (d : DeclNo) (name : Standard) (parameter result : Option SimType) → entry_of s.tables d ≡ Some (entry.Attribute name parameter result) → is_attribute_name name ≡ true → SetProcedureThere s d name parameter result
  pub simulations : (k : ℕ) → is_simulation_block s.tables k ≡ true → SimulationClasses s k
  pub processes : (c k : ℕ) → is_connection (text s c) ≡ false → base s.tables c ≡ Some k → text s k ≡ Some (StandardText standard.Process) → ProcessClassThere s k
  pub simulation_procedures : (d : DeclNo) (name : Standard) (parameter result : Option SimType) → entry_of s.tables d ≡ Some (entry.Attribute name parameter result) → is_simulation_name name ≡ true → SimulationProcedureThere s d name parameter result
  pub bare : (d : DeclNo) (row : Declaration) (which : StandardClass) → slice_get s.tables.declarations d.0 ≡ Some row → text s row.block ≡ Some (StandardText which) → IsAttribute (Some row.entry)
  pub texts : (k : ℕ) (x : Text) → text s k ≡ Some x → TextTyped s k x
  -- a text around one that is not class-free is not class-free
  pub not_class_free : (t u : ℕ) → encloser s.tables t ≡ Some u → is_class_free s t ≡ false → is_class_free s u ≡ false
  pub prefixes : Prefixes s
  -- no block has a class of SIMSET for a prefix, or among the levels of it
  pub no_set_block : (k u : ℕ) (which : StandardClass) (class : Identifier) (es : Expressions) (ds : Declarations) (ss : Statements) → text s k ≡ Some (PrefixedText class es ds ss) → has_level s.tables k u ≡ true → text s u ≡ Some (StandardText which) → ⊥
