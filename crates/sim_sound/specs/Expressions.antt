-- Which expressions are typed, and what they name.
use Rattle.std.specs.Prelude.{◌≡◌, ◌+◌, ℕ, zero, suc, Bool, true, false, List, [], ◌∷◌, Option, Some, None}
use Rattle.sim_base.specs.declared.numbering.DeclNo.{DeclNo}
use Rattle.sim_scope.specs.declared.scopes.Denotation.{Denotation}
use Rattle.sim_scope.specs.declared.scopes.Denotation.TheVariants as denotation
use Rattle.sim_scope.specs.declared.types.Entry.{Entry}
use Rattle.sim_scope.specs.declared.types.Entry.TheVariants as entry
use Rattle.sim_scope.specs.declared.types.Formal.{Formal}
use Rattle.sim_scope.specs.declared.types.FormalKind.{FormalKind}
use Rattle.sim_scope.specs.declared.types.FormalKind.TheVariants as shape
use Rattle.sim_scope.specs.declared.types.Mode.{Mode}
use Rattle.sim_scope.specs.declared.types.Mode.TheVariants as mode
use Rattle.sim_scope.specs.declared.types.SimType.{SimType}
use Rattle.sim_scope.specs.declared.types.StandardClass.TheVariants as standard_class
use Rattle.sim_scope.specs.Levels.{base, has_level, is_for_prefixing, is_simulation_block}
use Rattle.sim_scope.specs.Scopes.{entry_of}
use Rattle.sim_scope.specs.Source.{Source, block_of, denoted, found_at, level_of, type_at}
use Rattle.sim_tree.specs.Syntax.{Expression, Expressions, Literal, NoMore, Then}
use Rattle.sim_tree.specs.Syntax as syntax
use Rattle.sim_values.specs.declared.kind.Kind.{Kind}
use Rattle.sim_values.specs.declared.kind.Kind.TheVariants as kind
use Rattle.sim_values.specs.declared.operators.Dyadic.{Dyadic}
use Rattle.sim_values.specs.declared.operators.Dyadic.TheVariants as dyadic
use Rattle.sim_values.specs.declared.standard.Standard.{Standard}
use Rattle.sim_values.specs.declared.standard.StandardType.{StandardType}
use Rattle.sim_values.specs.Plain.{Plain, kind_of}
use Rattle.sim_values.specs.Standard.{is_image, kind_of_type as kind_of_standard, on_image, operands_of, row_of}
use Rattle.sim_code.specs.Running.{name_runs}
use Rattle.sim_code.specs.Simulations.{is_simulation_name}
use Rattle.sim_code.specs.Sets.{is_attribute_name}
use Rattle.sim_meaning.specs.Attributes.{attribute_formals, connection_at, is_connection, own_attribute}
use Rattle.sim_meaning.specs.Checks.{Passed, PassedArray, PassedProcedure, PassedValue, passed as passed_by, type_passed}
use Rattle.sim_meaning.specs.Closing.{Joining, Lazily, Negated, Plainly, Sort, class_parameters, is_placed, is_text, sort_of, stream_of, typed_token}
use Rattle.sim_meaning.specs.Constants.{text_constant}
use Rattle.sim_meaning.specs.Entries.{formals_of}
use Rattle.sim_meaning.specs.Levels.{class_at, has_levels, is_class, qualification}
use Rattle.sim_meaning.specs.Names.{procedure_named}
use Rattle.sim_meaning.specs.Texts.{StandardText, constant_of, kind_of_type, text}
use Rattle.sim_sound.specs.Held.{Around, ArrayOf, ByName, Fits, FitsIn, Holds, Place, Procedure, Refers, ResultFits, Sees, SeesConnected, Simply, StandsAround, entry_names, given_by, held_by, reference_to, text_of}

-- ---- operators

abbrev pub Ordered : Kind → Type 0
Ordered kind.Integer = Unit {0}
Ordered kind.Character = Unit {0}
Ordered _ = ⊥

-- operands of this kind, and what comes of them
abbrev pub TwoKinds : Dyadic → (operands value : Kind) → Type 0
TwoKinds (dyadic.Calculate c) k v = (k ≡ kind.Integer) × (v ≡ kind.Integer)
TwoKinds (dyadic.Compare r) k v = Ordered k × (v ≡ kind.Boolean)
TwoKinds (dyadic.CompareTexts r) k v = (k ≡ kind.Text) × (v ≡ kind.Boolean)
TwoKinds (dyadic.Connect c) k v = (k ≡ kind.Boolean) × (v ≡ kind.Boolean)
TwoKinds dyadic.SameObject k v = (k ≡ kind.Reference) × (v ≡ kind.Boolean)
TwoKinds dyadic.SameText k v = (k ≡ kind.Text) × (v ≡ kind.Boolean)

abbrev pub SortKinds : Sort → (operands value : Kind) → Type 0
SortKinds (Plainly op) k v = TwoKinds op k v
SortKinds (Negated op) k v = TwoKinds op k kind.Boolean × (v ≡ kind.Boolean)
SortKinds (Lazily b) k v = (k ≡ kind.Boolean) × (v ≡ kind.Boolean)
SortKinds Joining k v = (k ≡ kind.Text) × (v ≡ kind.Text)

abbrev pub literal_kind : Literal → Option Kind
literal_kind (syntax.IntegerValue z) = Some kind.Integer
literal_kind (syntax.CharacterValue c) = Some kind.Character
literal_kind (syntax.BooleanValue b) = Some kind.Boolean
literal_kind (syntax.TextValue bytes) = None
literal_kind syntax.NoObject = Some kind.Reference
literal_kind syntax.NoText = Some kind.Text

abbrev pub standard_kind : Option StandardType → Option Kind
standard_kind None = None
standard_kind (Some t) = Some (kind_of_standard t)

-- ---- identifiers

-- An identifier that is declared, which is known where it stands: seen from there, or an attribute of an object. An expression names what it
-- is, an array or a value. `Indices` says that the operands are integers, `Operands` that they are of these kinds, `Actuals` that they fit
-- these formal parameters, `Checked` that they may be held against any when the call is done.

abbrev pub VariableNames : Source → (Known : Type 0) → Expressions → (held h : Holds) → Type 0
VariableNames s Known NoMore held h = Fits s held h × Known
VariableNames s Known (Then e es) held h = ⊥

abbrev pub ArrayNames : Source → (Known : Type 0) → Expressions → (Indices : Type 0) → (element h : Holds) → Type 0
ArrayNames s Known NoMore Indices k h = (ArrayOf k ≡ h) × Known
ArrayNames s Known (Then e es) Indices k h = Fits s k h × Known × Indices

abbrev pub ConstantNames : Source → (Known : Type 0) → DeclNo → Expressions → Holds → Type 0
ConstantNames s Known d NoMore h = (v : Plain) × (constant_of s d ≡ Some v) × (Simply (kind_of v) ≡ h) × Known
ConstantNames s Known d (Then e es) h = ⊥

-- A call of a procedure that is a value, or of what matches a virtual, gives what its declaration says.
abbrev pub CheckedGives : Source → (Known : Type 0) → (result : Option SimType) → (Checked : Type 0) → Option Holds → Type 0
CheckedGives s Known result Checked h = FitsIn s (given_by s result) h × Known × Checked

abbrev pub HeldNames : Source → (Known : Type 0) → Expressions → (Indices Checked : Type 0) → Option Holds → Holds → Type 0
HeldNames s Known es Indices Checked (Some (Simply k)) h = VariableNames s Known es (Simply k) h
HeldNames s Known es Indices Checked (Some (Refers c)) h = VariableNames s Known es (Refers c) h
HeldNames s Known es Indices Checked (Some (ArrayOf k)) h = ArrayNames s Known es Indices k h
HeldNames s Known es Indices Checked (Some (Procedure result)) h = CheckedGives s Known result Checked (Some h)
HeldNames s Known es Indices Checked _ h = ⊥

-- a formal procedure that gives nothing
abbrev pub FormalCalled : Source → (Known : Type 0) → FormalKind → Option SimType → (Checked : Type 0) → Type 0
FormalCalled s Known shape.Procedure result Checked = CheckedGives s Known result Checked None
FormalCalled s Known kind type Checked = ⊥

-- a call gives what h says, or nothing
abbrev pub CallGives : Source → (Known : Type 0) → (result : Option SimType) → (text : ℕ) → (Actuals : List Formal → Type 0) → Option Holds → Type 0
CallGives s Known result k Actuals h = FitsIn s (given_by s result) h × Known × Actuals (formals_of s k)

abbrev pub some_holds : Option Kind → Option Holds
some_holds None = None
some_holds (Some k) = Some (Simply k)

-- `none` is a reference with each qualification
abbrev pub IsReference : Holds → Type 0
IsReference (Simply k) = kind.Reference ≡ k
IsReference (Refers class) = Unit {0}
IsReference (ArrayOf h) = ⊥
IsReference (Procedure result) = ⊥
IsReference (ByName h) = ⊥

-- a text constant is one of the program's
abbrev pub LiteralIs : Source → (token : ℕ) → Literal → Holds → Type 0
LiteralIs s token (syntax.TextValue bytes) h = (v : Plain) × (text_constant s token ≡ Some v) × (Simply (kind_of v) ≡ h)
LiteralIs s token syntax.NoObject h = IsReference h
LiteralIs s token literal h = some_holds (literal_kind literal) ≡ Some h

-- a name of the table that is done, and is no attribute of SIMSET or SIMULATION
abbrev pub DoneAlone : Standard → Type 0
DoneAlone name = (name_runs name ≡ true) × (is_attribute_name name ≡ false) × (is_simulation_name name ≡ false)

-- it gives what its row says
abbrev pub RowGives : Standard → Option Holds → Type 0
RowGives name h = DoneAlone name × (some_holds (standard_kind (row_of name).result) ≡ h)

-- a name of texts, behind its text
abbrev pub OfText : Standard → (Operands : List Kind → Type 0) → Option Holds → Type 0
OfText name Operands h = RowGives name h × (ks : List Kind) × (operands_of (row_of name).function ≡ kind.Text ∷ ks) × Operands ks

-- `image`, a name that is done on an image as a name of texts, or any other name
abbrev pub NameGives : (is_image : Bool) → (on_image : Option Standard) → Standard → (Operands : List Kind → Type 0) → Option Holds → Type 0
NameGives true other name Operands h = (Some (Simply kind.Text) ≡ h) × Operands []
NameGives false (Some of_text) name Operands h = OfText of_text Operands h
NameGives false None name Operands h = RowGives name h × Operands (operands_of (row_of name).function)

abbrev pub StandardGives : Option Standard → (Operands : List Kind → Type 0) → Option Holds → Type 0
StandardGives None Operands h = ⊥
StandardGives (Some name) Operands h = NameGives (is_image name) (on_image name) name Operands h

-- a standard name behind a dot: of sysin or sysout, or of a text
abbrev pub AttributeGives : Option Standard → (Object : Type 0) → (Operands : List Kind → Type 0) → Option Holds → Type 0
AttributeGives None Object Operands h = ⊥
AttributeGives (Some name) Object Operands h = Object × OfText name Operands h

abbrev pub BehindGives : (stream : Option ℕ) → Option Standard → (Object : Type 0) → (Operands : List Kind → Type 0) → Option Holds → Type 0
BehindGives (Some image) name Object Operands h = StandardGives name Operands h
BehindGives None name Object Operands h = AttributeGives name Object Operands h

-- an attribute of SIMSET or of a process gives what its declaration says, or nothing
abbrev pub SetGives : Source → (Known : Type 0) → Standard → (parameter result : Option SimType) → (Actuals : List Formal → Type 0) → Option Holds → Type 0
SetGives s Known name parameter result Actuals h = (is_attribute_name name ≡ true) × FitsIn s (given_by s result) h × Known × Actuals (attribute_formals parameter)

abbrev pub DeclaredGives : Source → (Known : Type 0) → DeclNo → Expressions → (Indices Checked : Type 0) → (Actuals : List Formal → Type 0) → Option Entry → Option Holds → Type 0
DeclaredGives s Known d es Indices Checked Actuals (Some (entry.Procedure result k)) h = CallGives s Known result k Actuals h
DeclaredGives s Known d es Indices Checked Actuals (Some (entry.Virtual result own)) h = CheckedGives s Known result Checked h
DeclaredGives s Known d es Indices Checked Actuals (Some (entry.Attribute name parameter result)) h = SetGives s Known name parameter result Actuals h
DeclaredGives s Known d es Indices Checked Actuals (Some (entry.Constant t)) (Some h) = ConstantNames s Known d es h
DeclaredGives s Known d es Indices Checked Actuals (Some e) (Some h) = HeldNames s Known es Indices Checked (entry_names s (Some e)) h
DeclaredGives s Known d es Indices Checked Actuals (Some (entry.Formal f)) None = FormalCalled s Known f.kind f.ty Checked
DeclaredGives s Known d es Indices Checked Actuals _ _ = ⊥

-- An attribute of an object: what is in front of the dot refers to a class that has it in one of its levels.
abbrev pub ObjectHas : Source → (Object : ℕ → Type 0) → DeclNo → Type 0
ObjectHas s Object d = (class : ℕ) × (is_class (text s class) ≡ true) × (has_level s.tables class (block_of s d) ≡ true) × Object class

-- behind a dot: `Text` says that a text stands in front of it, `Object` that a reference to an object of a class does
abbrev pub DotGives : Source → Option Denotation → (stream : Option ℕ) → (Text : Type 0) → (Object : ℕ → Type 0) → Expressions → (Indices Checked : Type 0) → (Operands : List Kind → Type 0) → (Actuals : List Formal → Type 0) → Option Holds → Type 0
DotGives s (Some (denotation.Standard name)) stream Text Object es Indices Checked Operands Actuals h = BehindGives stream (procedure_named name) Text Operands h
DotGives s (Some (denotation.Declared d)) stream Text Object es Indices Checked Operands Actuals h = DeclaredGives s (ObjectHas s Object d) d es Indices Checked Actuals (entry_of s.tables d) h
DotGives s None stream Text Object es Indices Checked Operands Actuals h = ⊥

-- a declaration is seen from a place, through a connection or not
abbrev pub KnownAt : Source → Place → (connection : Option ℕ) → DeclNo → Type 0
KnownAt s from None d = Sees s from d
KnownAt s from (Some k) d = SeesConnected s from k d

abbrev pub NamedGives : Source → Place → (connection : Option ℕ) → Option Denotation → Expressions → (Indices Checked : Type 0) → (Operands : List Kind → Type 0) → (Actuals : List Formal → Type 0) → Option Holds → Type 0
NamedGives s from connection (Some (denotation.Declared d)) es Indices Checked Operands Actuals h = DeclaredGives s (KnownAt s from connection d) d es Indices Checked Actuals (entry_of s.tables d) h
NamedGives s from None (Some (denotation.Standard name)) es Indices Checked Operands Actuals h = StandardGives (procedure_named name) Operands h
NamedGives s from connection _ es Indices Checked Operands Actuals h = ⊥

-- `this`: the object of a class around, a prefixed block around, or what is connected
abbrev pub ThisIs : Source → Place → (is_connection has_levels : Bool) → (found : ℕ) → Holds → Type 0
ThisIs s from true c k h = StandsAround s from k × Fits s (reference_to (base s.tables k)) h
ThisIs s from false true k h = StandsAround s from k × Fits s (Refers k) h
ThisIs s from false false k h = ⊥

abbrev pub ThisFound : Source → Place → (found : Option ℕ) → Holds → Type 0
ThisFound s from None h = ⊥
ThisFound s from (Some k) h = ThisIs s from (is_connection (text s k)) (has_levels (text s k)) k h

-- an identifier: an attribute of SIMSET or of a process that is seen without a connection is one of the object around
abbrev pub OwnKnown : Source → Place → (token : ℕ) → DeclNo → Type 0
OwnKnown s from token d = ObjectHas s (λ class. ThisFound s from (found_at s token) (Refers class)) d

-- A procedure of a simulation block, which is found around: it is a text around that is no connection, and has the procedure in one of its levels.
pub record SimulationKnown (s : Source) (from : Place) (token : ℕ) (d : DeclNo) : Type 0 where
  pub found : ℕ
  pub is_found : found_at s token ≡ Some found
  pub around : StandsAround s from found
  pub solid : is_connection (text s found) ≡ false
  pub level : has_level s.tables found (block_of s d) ≡ true
  pub simulates : is_simulation_block s.tables (block_of s d) ≡ true

abbrev pub SimulationGives : Source → (Known : Type 0) → (parameter result : Option SimType) → (Actuals : List Formal → Type 0) → Option Holds → Type 0
SimulationGives s Known parameter result Actuals h = FitsIn s (given_by s result) h × Known × Actuals (attribute_formals parameter)

abbrev pub OwnNameGives : (simulation : Bool) → (Simulation Other : Type 0) → Type 0
OwnNameGives true Simulation Other = Simulation
OwnNameGives false Simulation Other = Other

abbrev pub OwnGives : Source → Place → (token : ℕ) → DeclNo → (Actuals : List Formal → Type 0) → Option Entry → Option Holds → (Other : Type 0) → Type 0
OwnGives s from token d Actuals (Some (entry.Attribute name parameter result)) h Other =
    OwnNameGives (is_simulation_name name) (SimulationGives s (SimulationKnown s from token d) parameter result Actuals h) Other
OwnGives s from token d Actuals e h Other = Other

abbrev pub IdentifierGives : Source → Place → (token : ℕ) → (connection : Option ℕ) → (own : Option DeclNo) → Expressions → (Indices Checked : Type 0) → (Operands : List Kind → Type 0) → (Actuals : List Formal → Type 0) → Option Holds → Type 0
IdentifierGives s from token None (Some d) es Indices Checked Operands Actuals h = OwnGives s from token d Actuals (entry_of s.tables d) h (DeclaredGives s (OwnKnown s from token d) d es Indices Checked Actuals (entry_of s.tables d) h)
IdentifierGives s from token None None es Indices Checked Operands Actuals h = NamedGives s from None (denoted s token) es Indices Checked Operands Actuals h
IdentifierGives s from token (Some k) own es Indices Checked Operands Actuals h = NamedGives s from (Some k) (denoted s token) es Indices Checked Operands Actuals h

-- ---- where something lies

-- a variable or an element that holds this
abbrev pub LeftHeld : (Known : Type 0) → Expressions → (Indices : Type 0) → Option Holds → Holds → Type 0
LeftHeld Known NoMore Indices (Some (Simply k)) h = (Simply k ≡ h) × Known
LeftHeld Known NoMore Indices (Some (Refers c)) h = (Refers c ≡ h) × Known
LeftHeld Known (Then e es) Indices (Some (ArrayOf k)) h = (k ≡ h) × Known × Indices
LeftHeld Known _ Indices _ h = ⊥

-- no procedure as a place
abbrev pub PlaceDeclared : Source → (Known : Type 0) → Expressions → (Indices : Type 0) → Option Entry → Holds → Type 0
PlaceDeclared s Known es Indices (Some (entry.Procedure result k)) h = ⊥
PlaceDeclared s Known es Indices (Some e) h = LeftHeld Known es Indices (entry_names s (Some e)) h
PlaceDeclared s Known es Indices None h = ⊥

abbrev pub PlaceNamed : Source → Place → (connection : Option ℕ) → Option Denotation → Expressions → (Indices : Type 0) → Holds → Type 0
PlaceNamed s from connection (Some (denotation.Declared d)) es Indices h = PlaceDeclared s (KnownAt s from connection d) es Indices (entry_of s.tables d) h
PlaceNamed s from connection _ es Indices h = ⊥

abbrev pub PlaceDot : Source → Option Denotation → (Object : ℕ → Type 0) → Expressions → (Indices : Type 0) → Holds → Type 0
PlaceDot s (Some (denotation.Declared d)) Object es Indices h = PlaceDeclared s (ObjectHas s Object d) es Indices (entry_of s.tables d) h
PlaceDot s _ Object es Indices h = ⊥

-- ---- actual parameters

-- A reference is held against the qualification of its formal parameter when it is passed.
abbrev pub passed : Holds → Holds
passed (Refers class) = Simply kind.Reference
passed h = h

-- A variable that is passed by name holds what the formal parameter means. A reference has a qualification of its own, and is held against that of the
-- formal parameter at each use.
abbrev pub VariablePassed : (class : Option ℕ) → (Lies : Holds → Type 0) → Kind → Type 0
VariablePassed None Lies k = (k ≡ kind.Reference → ⊥) × Lies (Simply k)
VariablePassed (Some class) Lies k = (k ≡ kind.Reference) × Lies (Refers class)

-- any other expression gives a value of the kind
abbrev pub ActualPassed : (placed : Bool) → (class : Option ℕ) → (Is Lies : Holds → Type 0) → Kind → Type 0
ActualPassed true class Is Lies k = VariablePassed class Lies k
ActualPassed false class Is Lies k = Is (Simply k)

-- `Is` says of an actual parameter what it is as a value, `Named` what as one by name, `Gives` what as a procedure
abbrev pub ActualFits : Source → Mode → FormalKind → Option SimType → (Is : Holds → Type 0) → (Named : Kind → Type 0) → (Gives : Option SimType → Type 0) → Type 0
ActualFits s mode.ByValue shape.Simple (Some t) Is Named Gives = Is (passed (held_by s t))
ActualFits s mode.ByReference shape.Simple (Some t) Is Named Gives = Is (passed (held_by s t))
ActualFits s mode.ByName shape.Simple (Some t) Is Named Gives = Named (kind_of_type t)
ActualFits s m shape.Array (Some t) Is Named Gives = Is (ArrayOf (held_by s t))
ActualFits s m shape.Procedure result Is Named Gives = Gives result
ActualFits s m kind None Is Named Gives = ⊥

-- A procedure alone, which gives what a type says, or a reference of a class inside: one that is declared, a virtual, or a formal one.
abbrev pub FormalStands : Source → (Known : Type 0) → FormalKind → (given wanted : Option SimType) → Type 0
FormalStands s Known shape.Procedure given wanted = ResultFits s (given_by s given) (given_by s wanted) × Known
FormalStands s Known kind given wanted = ⊥

abbrev pub ProcedureDeclared : Source → (Known : Type 0) → Option Entry → (wanted : Option SimType) → Type 0
ProcedureDeclared s Known (Some (entry.Procedure given k)) wanted = ResultFits s (given_by s given) (given_by s wanted) × Known
ProcedureDeclared s Known (Some (entry.Virtual given own)) wanted = ResultFits s (given_by s given) (given_by s wanted) × Known
ProcedureDeclared s Known (Some (entry.Formal f)) wanted = FormalStands s Known f.kind f.ty wanted
ProcedureDeclared s Known _ wanted = ⊥

abbrev pub ProcedureNamed : Source → Place → (connection : Option ℕ) → Option Denotation → (wanted : Option SimType) → Type 0
ProcedureNamed s from connection (Some (denotation.Declared d)) wanted = ProcedureDeclared s (KnownAt s from connection d) (entry_of s.tables d) wanted
ProcedureNamed s from connection _ wanted = ⊥

abbrev pub ProcedureDot : Source → Option Denotation → (Object : ℕ → Type 0) → (wanted : Option SimType) → Type 0
ProcedureDot s (Some (denotation.Declared d)) Object wanted = ProcedureDeclared s (ObjectHas s Object d) (entry_of s.tables d) wanted
ProcedureDot s _ Object wanted = ⊥

-- What an actual parameter is that is held against the formal one when the call is done, whichever that is. A reference is held against the class
-- of the formal one when it is passed. A call of a procedure without a result is no value.
abbrev pub ValueOf : Option SimType → (Is : Holds → Type 0) → (Named : Kind → Type 0) → Type 0
ValueOf None Is Named = Unit {0}
ValueOf (Some t) Is Named = Is (Simply (kind_of_type t)) × Named (kind_of_type t)

abbrev pub ValueIs : Option SimType → (Is : Holds → Type 0) → (Named : Kind → Type 0) → Type 0
ValueIs None Is Named = ⊥
ValueIs (Some t) Is Named = Is (Simply (kind_of_type t)) × Named (kind_of_type t)

abbrev pub ArrayIs : Source → Option SimType → (Is : Holds → Type 0) → Type 0
ArrayIs s None Is = ⊥
ArrayIs s (Some t) Is = Is (ArrayOf (held_by s t))

abbrev pub ParameterOf : Source → Passed → (Is : Holds → Type 0) → (Named : Kind → Type 0) → (Gives : Option SimType → Type 0) → Type 0
ParameterOf s (PassedArray element) Is Named Gives = ArrayIs s element Is
ParameterOf s (PassedProcedure result zero) Is Named Gives = Gives result × ValueOf result Is Named
ParameterOf s (PassedProcedure result (suc n)) Is Named Gives = Gives result
ParameterOf s (PassedValue type is_variable) Is Named Gives = ValueIs type Is Named

-- the class of a type, if it has one, is of the level of those that are declared in a text around
abbrev pub DeclaredNear : Source → Place → (class : Option ℕ) → Type 0
DeclaredNear s from None = Unit {0}
DeclaredNear s from (Some c) = (u : ℕ) × Around s.tables (text_of from) u × (level_of s c ≡ suc (level_of s u))

abbrev pub ClassNear : Source → Place → Option SimType → Type 0
ClassNear s from type = DeclaredNear s from (qualification s type)

-- ---- classes

-- a class that is named, as its text
pub record ClassNamed (s : Source) (token : ℕ) : Type 0 where
  pub class : ℕ
  pub is : class_at s token ≡ Some class

-- A class `process` that a class has for its prefix, or of which an object is made, was brought into a block by `simulation`.
pub record ProcessClassThere (s : Source) (k : ℕ) : Type 0 where
  pub block : ℕ
  pub is : k ≡ block + 4
  pub simulates : is_simulation_block s.tables block ≡ true

-- the class is seen, and the actual parameters fit the formal parameters of all its levels
pub record Generates (s : Source) (from : Place) (token : ℕ) (Actuals : List Formal → Type 0) : Type 0 where
  pub declaration : DeclNo
  pub denotes : denoted s token ≡ Some (denotation.Declared declaration)
  pub class : ℕ
  pub declares : entry_of s.tables declaration ≡ Some (entry.Class class)
  -- what has `simulation` in front is only for prefixing
  pub single : is_for_prefixing s.tables class ≡ false
  pub process : text s class ≡ Some (StandardText standard_class.Process) → ProcessClassThere s class
  pub seen : Sees s from declaration
  pub actuals : Actuals (class_parameters s (Some class))

abbrev pub NewIs : Source → Place → (token : ℕ) → (Actuals : List Formal → Type 0) → Holds → Type 0
NewIs s from token Actuals h = (g : Generates s from token Actuals) × Fits s (Refers g.class) h

-- ---- expressions

abbrev mutual
  pub ExprIs : Source → Place → Expression → Holds → Type 0
  ExprIs s from (syntax.If token c a b) h = ExprIs s from c (Simply kind.Boolean) × ExprIs s from a h × ExprIs s from b h
  ExprIs s from (syntax.Binary op token a b) h = (k : Kind) × (v : Kind) × SortKinds (sort_of (is_text s a) op) k v × (Simply v ≡ h) × ExprIs s from a (Simply k) × ExprIs s from b (Simply k)
  ExprIs s from (syntax.Not token a) h = (Simply kind.Boolean ≡ h) × ExprIs s from a (Simply kind.Boolean)
  ExprIs s from (syntax.Signed sign token a) h = (Simply kind.Integer ≡ h) × ExprIs s from a (Simply kind.Integer)
  ExprIs s from (syntax.Member member token a class) h = (Simply kind.Boolean ≡ h) × ClassNamed s class.token.0 × ExprIs s from a (Simply kind.Reference)
  ExprIs s from (syntax.Dot token a name es) h =
      DotGives s (denoted s name.token.0) (stream_of s a) (ExprIs s from a (Simply kind.Text)) (λ c. ExprIs s from a (Refers c)) es (AreIntegers s from es) (ParametersAre s from es) (λ ks. AreOf s from es ks) (λ fs. ActualsFit s from es fs) (Some h)
  ExprIs s from (syntax.Qua token a class) h = (c : ClassNamed s class.token.0) × Fits s (Refers c.class) h × ExprIs s from a (Simply kind.Reference)
  ExprIs s from (syntax.Constant literal token) h = LiteralIs s token literal h
  ExprIs s from (syntax.Named name es) h =
      IdentifierGives s from name.token.0 (connection_at s name.token.0) (own_attribute s name.token.0) es (AreIntegers s from es) (ParametersAre s from es) (λ ks. AreOf s from es ks) (λ fs. ActualsFit s from es fs) (Some h)
  ExprIs s from (syntax.This token class) h = ThisFound s from (found_at s token) h
  ExprIs s from (syntax.New token class es) h = NewIs s from class.token.0 (λ fs. ActualsFit s from es fs) h
  ExprIs s from (syntax.Parentheses token a) h = ExprIs s from a h

  pub AreIntegers : Source → Place → Expressions → Type 0
  AreIntegers s from NoMore = Unit {0}
  AreIntegers s from (Then e es) = ExprIs s from e (Simply kind.Integer) × AreIntegers s from es

  pub AreOf : Source → Place → Expressions → List Kind → Type 0
  AreOf s from NoMore [] = Unit {0}
  AreOf s from NoMore (k ∷ ks) = ⊥
  AreOf s from (Then e es) [] = ⊥
  AreOf s from (Then e es) (k ∷ ks) = ExprIs s from e (Simply k) × AreOf s from es ks

  pub ActualsFit : Source → Place → Expressions → List Formal → Type 0
  ActualsFit s from NoMore [] = Unit {0}
  ActualsFit s from NoMore (f ∷ fs) = ⊥
  ActualsFit s from (Then e es) [] = ⊥
  ActualsFit s from (Then e es) (f ∷ fs) =
      ActualFits s f.mode f.kind f.ty (ExprIs s from e) (ActualPassed (is_placed s e) (qualification s (type_at s (typed_token e))) (ExprIs s from e) (PlaceIs s from e)) (ProcedureIs s from e) × ActualsFit s from es fs

  pub ParametersAre : Source → Place → Expressions → Type 0
  ParametersAre s from NoMore = Unit {0}
  ParametersAre s from (Then e es) =
      ParameterOf s (passed_by s e) (ExprIs s from e) (ActualPassed (is_placed s e) (qualification s (type_at s (typed_token e))) (ExprIs s from e) (PlaceIs s from e)) (ProcedureIs s from e)
      × ClassNear s from (type_passed (passed_by s e)) × ParametersAre s from es

  -- a procedure alone
  pub ProcedureIs : Source → Place → Expression → (wanted : Option SimType) → Type 0
  ProcedureIs s from (syntax.Named name NoMore) wanted = ProcedureNamed s from (connection_at s name.token.0) (denoted s name.token.0) wanted
  ProcedureIs s from (syntax.Dot token a name NoMore) wanted = ProcedureDot s (denoted s name.token.0) (λ c. ExprIs s from a (Refers c)) wanted
  ProcedureIs s from _ wanted = ⊥

  -- where a variable or an element lies that holds this
  pub PlaceIs : Source → Place → Expression → Holds → Type 0
  PlaceIs s from (syntax.Named name es) h = PlaceNamed s from (connection_at s name.token.0) (denoted s name.token.0) es (AreIntegers s from es) h
  PlaceIs s from (syntax.Dot token a name es) h = PlaceDot s (denoted s name.token.0) (λ c. ExprIs s from a (Refers c)) es (AreIntegers s from es) h
  PlaceIs s from _ h = ⊥

-- an actual parameter by name, which means values of a kind
abbrev pub NamedIs : Source → Place → Expression → Kind → Type 0
NamedIs s from e k = ActualPassed (is_placed s e) (qualification s (type_at s (typed_token e))) (ExprIs s from e) (PlaceIs s from e) k

-- an actual parameter, as one by name, or where it is evaluated when a call is done that is checked: it means this, which may be a procedure
abbrev pub ActualIs : Source → Place → (as_procedure : Bool) → Expression → Holds → Type 0
ActualIs s from true e (Procedure result) = ProcedureIs s from e result
ActualIs s from false e (Simply k) = NamedIs s from e k
ActualIs s from false e (ArrayOf h) = ExprIs s from e (ArrayOf h)
ActualIs s from as_procedure e h = ⊥

abbrev pub ParameterIs : Source → Place → Expression → Type 0
ParameterIs s from e = ParameterOf s (passed_by s e) (ExprIs s from e) (NamedIs s from e) (ProcedureIs s from e) × ClassNear s from (type_passed (passed_by s e))
