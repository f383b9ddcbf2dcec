-- The closed trees of what objects have: of attributes behind a dot, and of those that are seen in a connection; of the classes that are
-- named in expressions; and of references, which have a qualification.
use Rattle.std.specs.Prelude.{ℕ, Bool, true, false, if◌then◌else◌, List, [], ◌∷◌, slice_get, Option, Some, None}
use Rattle.sim_base.specs.declared.numbering.DeclNo.{DeclNo}
use Rattle.sim_scope.specs.declared.scopes.Denotation.{Denotation}
use Rattle.sim_scope.specs.declared.scopes.Denotation.TheVariants as denotation
use Rattle.sim_scope.specs.declared.types.Entry.{Entry}
use Rattle.sim_scope.specs.declared.types.Entry.TheVariants as entry
use Rattle.sim_scope.specs.declared.types.Formal.{Formal}
use Rattle.sim_scope.specs.declared.types.FormalKind.{FormalKind}
use Rattle.sim_scope.specs.declared.types.FormalKind.TheVariants as shape
use Rattle.sim_scope.specs.declared.types.Mode.{Mode}
use Rattle.sim_scope.specs.declared.types.Mode.TheVariants as mode
use Rattle.sim_scope.specs.declared.types.SimType.{SimType}
use Rattle.sim_scope.specs.Scopes.{entry_of}
use Rattle.sim_scope.specs.Source.{Source, block_of, denoted, found_at, level_of}
use Rattle.sim_scope.specs.Tables.{BlockOf}
use Rattle.sim_tree.specs.declared.expr.Membership.{Membership}
use Rattle.sim_tree.specs.Syntax.{Expressions, NoMore, Then}
use Rattle.sim_values.specs.declared.standard.Standard.{Standard}
use Rattle.sim_values.specs.declared.standard.Standard.TheVariants as name_of
use Rattle.sim_values.specs.Plain.{Object}
use Rattle.sim_code.specs.Instances.{at_level}
use Rattle.sim_code.specs.Sets.{is_set_name}
use Rattle.sim_code.specs.Simulations.{is_process_name, is_simulation_name}
use Rattle.sim_code.specs.Transfers.{Calling, Detaching, Resuming, Transfer}
use Rattle.sim_meaning.specs.Names.{procedure_named}
use Rattle.sim_meaning.specs.Levels.{is_process_itself, qualification}
use Rattle.sim_meaning.specs.Texts.{ConnectionText, Text, text}
use Rattle.sim_meaning.specs.Pending.{AttributeOf, Cell, CheckedOf, Connection, Declared, ElementOf, FitsOf, Further, Given, Instances, KeptOf, Key, MatchOf, MemberOf, NewOf, NoTerm, NotNoneOf, OriginOf, PlaceOf, ProcessOf, QuaOf, QualifiedElementOf, QualifiedPlaceOf, RemoteCallOf, RemoteProcedureOf, SetOf, SimulationOf, Term, Terms, TransferOf, NoMeaning, ValueAt}

-- whether an expression that stands as a statement leaves a value
abbrev pub has_type : Option SimType → Bool
has_type None = false
has_type (Some type) = true

-- what is there, or else another tree
abbrev pub if_any : {A : Type 0} → Option A → (A → Term) → Term → Term
if_any None f other = other
if_any (Some a) f other = f a

-- ---- connections

abbrev pub is_connection : Option Text → Bool
is_connection (Some ConnectionText) = true
is_connection _ = false

abbrev pub connection_in : Source → Option ℕ → Option ℕ
connection_in s None = None
connection_in s (Some k) = if is_connection (text s k) then Some k else None

-- the connection through which what an identifier denotes is seen, if it is one
unfoldable pub connection_at : Source → (token : ℕ) → Option ℕ
connection_at s token = connection_in s (found_at s token)

abbrev pub first_in : Option BlockOf → ℕ
first_in None = 0
first_in (Some b) = b.first

-- A connection keeps its object in a cell of the instance in which it stands; the cell has the token with which the connection begins.
abbrev pub cell_of_connection : Source → (connection : ℕ) → Key
cell_of_connection s k = Connection (first_in (slice_get s.tables.blocks k))

abbrev pub connected_object : Source → Instances → ℕ → (connection : ℕ) → Term
connected_object s m i k = if_any (at_level m (level_of s k) i) (λ j. Cell j (cell_of_connection s k)) NoMeaning

-- ---- attributes

-- a variable, a constant or an array is found in the object, by the class that declares it
abbrev pub attribute_place : Source → (line : ℕ) → DeclNo → (object : Term) → Term
attribute_place s line d object = AttributeOf (block_of s d) (Declared d.0) None line object

abbrev pub variable_attribute : (place : Term) → Expressions → Term
variable_attribute place NoMore = ValueAt place
variable_attribute place (Then e es) = NoMeaning

-- an array by itself, or one of its elements
abbrev pub array_attribute : (line : ℕ) → (place : Term) → Expressions → Terms → Term
array_attribute line place NoMore terms = ValueAt place
array_attribute line place (Then e es) terms = ValueAt (ElementOf line (ValueAt place) terms)

abbrev pub parameter_attribute : (line : ℕ) → FormalKind → (place : Term) → Expressions → Terms → Term
parameter_attribute line shape.Simple place es terms = variable_attribute place es
parameter_attribute line shape.Array place es terms = array_attribute line place es terms
parameter_attribute line shape.Procedure place es terms = NoMeaning

-- A procedure of SIMSET, or one of a process, is done on the object: E6 of none, before its actual parameter.
abbrev pub process_term : Bool → Standard → (line : ℕ) → (object : Term) → Term
process_term true name line object = ProcessOf name line (NotNoneOf line object)
process_term false name line object = NoMeaning

abbrev pub attribute_of_object : Bool → Standard → (line : ℕ) → (object : Term) → (actuals : Terms) → Term
attribute_of_object true name line object actuals = SetOf name (Further (NotNoneOf line object) actuals)
attribute_of_object false name line object actuals = process_term (is_process_name name) name line object

abbrev pub entry_attribute : Source → (home line : ℕ) → DeclNo → Option Entry → (object : Term) → Expressions → Terms → (actuals : Terms) → Term
entry_attribute s i line d (Some (entry.Variable type)) object es terms actuals = variable_attribute (attribute_place s line d object) es
entry_attribute s i line d (Some (entry.Constant type)) object es terms actuals = variable_attribute (attribute_place s line d object) es
entry_attribute s i line d (Some (entry.Array element dimensions)) object es terms actuals = array_attribute line (attribute_place s line d object) es terms
entry_attribute s i line d (Some (entry.Formal f)) object es terms actuals = parameter_attribute line f.kind (attribute_place s line d object) es terms
entry_attribute s i line d (Some (entry.Procedure result block)) object es terms actuals = RemoteCallOf object block actuals line
entry_attribute s i line d (Some (entry.Virtual result own)) object es terms actuals = CheckedOf (MatchOf object d.0 line) (has_type result) i es line
entry_attribute s i line d (Some (entry.Attribute name parameter result)) object es terms actuals = attribute_of_object (is_set_name name) name line object actuals
entry_attribute s i line d _ object es terms actuals = NoMeaning

-- the attribute of an object, as it is used in an instance, with its operands, as they are closed for themselves and for formal parameters
abbrev pub attribute : Source → (home line : ℕ) → (object : Term) → Expressions → Terms → (actuals : DeclNo → Terms) → DeclNo → Term
attribute s i line object es terms actuals d = entry_attribute s i line d (entry_of s.tables d) object es terms (actuals d)

-- a procedure of an object as a value
abbrev pub entry_procedure : (line : ℕ) → DeclNo → Option Entry → (object : Term) → Term
entry_procedure line d (Some (entry.Procedure result block)) object = RemoteProcedureOf object block line
entry_procedure line d (Some (entry.Virtual result own)) object = MatchOf object d.0 line
entry_procedure line d _ object = NoMeaning

abbrev pub attribute_procedure : Source → (line : ℕ) → (object : Term) → DeclNo → Term
attribute_procedure s line object d = entry_procedure line d (entry_of s.tables d) object

abbrev pub declared_attribute : Option Denotation → Option DeclNo
declared_attribute (Some (denotation.Declared d)) = Some d
declared_attribute _ = None

-- ---- where they lie

abbrev pub variable_at : (place : Term) → Expressions → Term
variable_at place NoMore = place
variable_at place (Then e es) = NoMeaning

abbrev pub element_at : (line : ℕ) → (place : Term) → Expressions → Terms → Term
element_at line place NoMore terms = NoMeaning
element_at line place (Then e es) terms = ElementOf line (ValueAt place) terms

abbrev pub parameter_at : (line : ℕ) → FormalKind → (place : Term) → Expressions → Terms → Term
parameter_at line shape.Simple place es terms = variable_at place es
parameter_at line shape.Array place es terms = element_at line place es terms
parameter_at line shape.Procedure place es terms = NoMeaning

abbrev pub entry_at : Source → (line : ℕ) → DeclNo → Option Entry → (object : Term) → Expressions → Terms → Term
entry_at s line d (Some (entry.Variable type)) object es terms = variable_at (attribute_place s line d object) es
entry_at s line d (Some (entry.Array element dimensions)) object es terms = element_at line (attribute_place s line d object) es terms
entry_at s line d (Some (entry.Formal f)) object es terms = parameter_at line f.kind (attribute_place s line d object) es terms
entry_at s line d _ object es terms = NoMeaning

-- where a variable or an element lies that is an attribute of an object
abbrev pub place_of_attribute : Source → (line : ℕ) → (object : Term) → Expressions → Terms → DeclNo → Term
place_of_attribute s line object es terms d = entry_at s line d (entry_of s.tables d) object es terms

-- ---- classes

-- `new`; an object of `process` itself keeps the token of that identifier
abbrev pub origin_if : (is_process : Bool) → (class token line : ℕ) → (object : Term) → Term
origin_if false k token line object = object
origin_if true k token line object = OriginOf k token line object

abbrev pub generation : Source → (token : ℕ) → Option ℕ → (class : Option ℕ) → (actuals : Terms) → (line : ℕ) → Term
generation s token (Some j) (Some k) terms line = origin_if (is_process_itself s k) k token line (NewOf j k terms line)
generation s token _ _ terms line = NoMeaning

-- `is` and `in`; `qua`

abbrev pub membership_term : Membership → (class : Option ℕ) → Term → Term
membership_term member class a = if_any class (λ k. MemberOf member k a) NoMeaning

abbrev pub qua_term : (class : Option ℕ) → (line : ℕ) → Term → Term
qua_term class line a = if_any class (λ k. QuaOf k line a) NoMeaning

-- `this` is the connected object, or the object or prefixed block that is found outward
abbrev pub this_instance : Option ℕ → Term
this_instance None = NoMeaning
this_instance (Some j) = Given (Object j)

abbrev pub this_term : Source → Instances → ℕ → (found : Option ℕ) → Term
this_term s m i None = NoMeaning
this_term s m i (Some k) = if_any (connection_in s (Some k)) (λ c. connected_object s m i c) (this_instance (at_level m (level_of s k) i))

-- ---- procedures of SIMSET and SIMULATION

-- one that is seen without a dot, by its declaration
abbrev pub is_standard_attribute : Option Entry → Bool
is_standard_attribute (Some (entry.Attribute name parameter result)) = true
is_standard_attribute _ = false

abbrev pub attribute_if : Bool → DeclNo → Option DeclNo
attribute_if true d = Some d
attribute_if false d = None

abbrev pub attribute_denoted : Source → Option Denotation → Option DeclNo
attribute_denoted s (Some (denotation.Declared d)) = attribute_if (is_standard_attribute (entry_of s.tables d)) d
attribute_denoted s _ = None

unfoldable pub own_attribute : Source → (token : ℕ) → Option DeclNo
own_attribute s token = attribute_denoted s (denoted s token)

-- the formal parameter of a standard attribute, if it has one: a reference, of `hold` an integer
abbrev pub attribute_formals : Option SimType → List Formal
attribute_formals None = []
attribute_formals (Some type) = record { mode = mode.ByReference; kind = shape.Simple; ty = Some type } ∷ []

-- one of a simulation block is done on that
abbrev pub simulation_term : Source → Bool → Standard → (block : Option ℕ) → (actuals : Terms) → (line : ℕ) → (other : Term) → Term
simulation_term s true name (Some j) actuals line other = SimulationOf j name actuals line
simulation_term s true name None actuals line other = NoMeaning
simulation_term s false name j actuals line other = other

abbrev pub block_found : Source → Instances → ℕ → (found : Option ℕ) → Option ℕ
block_found s m i None = None
block_found s m i (Some k) = at_level m (level_of s k) i

abbrev pub own_term : Source → Option Entry → (block : Option ℕ) → (actuals : Terms) → (line : ℕ) → (other : Term) → Term
own_term s (Some (entry.Attribute name parameter result)) j actuals line other = simulation_term s (is_simulation_name name) name j actuals line other
own_term s e j actuals line other = other

-- ---- transfers of control

-- `detach`, `call` and `resume`, where an identifier denotes one of these
abbrev pub transfer_of : Standard → Option Transfer
transfer_of name_of.Detach = Some Detaching
transfer_of name_of.Call = Some Calling
transfer_of name_of.Resume = Some Resuming
transfer_of _ = None

abbrev pub transfer_named : Option Standard → Option Transfer
transfer_named None = None
transfer_named (Some name) = transfer_of name

abbrev pub transfer_denoted : Option Denotation → Option Transfer
transfer_denoted (Some (denotation.Standard name)) = transfer_named (procedure_named name)
transfer_denoted _ = None

unfoldable pub transfer_at : Source → (token : ℕ) → Option Transfer
transfer_at s token = transfer_denoted (denoted s token)

-- `x.detach`: E6 where x is none
abbrev pub detach_term : (line : ℕ) → (object : Term) → Term
detach_term line object = TransferOf Detaching line (NotNoneOf line object)

-- `detach` is that of the object or prefixed block around, or of the connected object; `call` and `resume` have the component as their actual
-- parameter
abbrev pub transfer_term : Transfer → (line : ℕ) → (around : Term) → Terms → Term
transfer_term Detaching line around terms = detach_term line around
transfer_term t line around (Further a NoTerm) = TransferOf t line a
transfer_term t line around _ = NoMeaning

-- ---- references

-- where a reference lies, with its qualification
abbrev pub qualified : (class : ℕ) → (place : Term) → Term
qualified k (PlaceOf j key) = QualifiedPlaceOf j key k
qualified k (ElementOf line a ts) = QualifiedElementOf line k a ts
qualified k (AttributeOf text key class line a) = AttributeOf text key (Some k) line a
qualified k _ = NoMeaning

abbrev pub qualified_place : (class : Option ℕ) → (place : Term) → Term
qualified_place None place = NoMeaning
qualified_place (Some k) place = qualified k place

-- the qualification of a parameter that is a reference
abbrev pub parameter_qualification : Source → FormalKind → Option SimType → Option ℕ
parameter_qualification s shape.Simple type = qualification s type
parameter_qualification s shape.Array type = None
parameter_qualification s shape.Procedure type = None

-- an actual parameter is held against the qualification of its formal parameter
abbrev pub fitting : (class : Option ℕ) → (line : ℕ) → Term → Term
fitting None line a = a
fitting (Some k) line a = FitsOf k line a

-- an array that is passed by reference to a class is kept
abbrev pub kept_if : Mode → FormalKind → Term → Term
kept_if mode.ByReference shape.Array a = KeptOf a
kept_if _ _ a = a

abbrev pub with_arrays_kept : List Formal → Terms → Terms
with_arrays_kept (f ∷ fs) (Further a ts) = Further (kept_if f.mode f.kind a) (with_arrays_kept fs ts)
with_arrays_kept _ ts = ts
