-- Which expressions are built.
use Rattle.std.specs.Prelude.{◌≡◌, ◌&&◌, ◌||◌, ⊤, ℕ, zero, suc, Bool, true, false, ◌==◌, if◌then◌else◌, List, [], ◌∷◌, length, Option, Some, None}
use Rattle.sim_base.specs.declared.numbering.DeclNo.{DeclNo}
use Rattle.sim_scope.specs.declared.scopes.Denotation.{Denotation}
use Rattle.sim_scope.specs.declared.scopes.Denotation.TheVariants as denotation
use Rattle.sim_scope.specs.declared.types.Entry.{Entry}
use Rattle.sim_scope.specs.declared.types.Entry.TheVariants as entry
use Rattle.sim_scope.specs.declared.types.Formal.{Formal}
use Rattle.sim_scope.specs.declared.types.FormalKind.{FormalKind}
use Rattle.sim_scope.specs.declared.types.FormalKind.TheVariants as shape
use Rattle.sim_scope.specs.declared.types.Mode.{Mode}
use Rattle.sim_scope.specs.declared.types.SimType.{SimType}
use Rattle.sim_scope.specs.declared.types.Mode.TheVariants as mode
use Rattle.sim_scope.specs.Access.{encloser}
use Rattle.sim_scope.specs.Scopes.{entry_of}
use Rattle.sim_scope.specs.Source.{Source, block_of, denoted, found_at}
use Rattle.sim_scope.specs.Tables.{Tables}
use Rattle.sim_tree.specs.Syntax.{Expression, Expressions, Literal, NoMore, Then}
use Rattle.sim_tree.specs.Syntax as syntax
use Rattle.sim_values.specs.declared.standard.Standard.{Standard}
use Rattle.sim_values.specs.Standard.{is_image, moves_position, on_image, operands_of, row_of}
use Rattle.sim_values.specs.Plain.{Plain, Integer, Truth, Character, Text}
use Rattle.sim_code.specs.Simulations.{is_simulation_name}
use Rattle.sim_code.specs.Running.{name_runs}
use Rattle.sim_meaning.specs.Attributes.{cell_of_connection, connection_at, is_connection, own_attribute}
use Rattle.sim_meaning.specs.Closing.{class_parameters, formals_at, is_attribute, is_placed, is_variable, left_type, result_meant, stream_of}
use Rattle.sim_meaning.specs.Constants.{text_constant}
use Rattle.sim_meaning.specs.Levels.{class_at, qualification}
use Rattle.sim_meaning.specs.Names.{procedure_named}
use Rattle.sim_meaning.specs.Pending.{Declared, Held, Key, Result, same_key}
use Rattle.sim_meaning.specs.Texts.{constant_of, text}
use Rattle.sim_meaning.specs.Checks.{passed}
use Rattle.codegen_expr.specs.CodeExpr.{Checked, Listed, Parameters, SetNamed, SimulationNamed, gives, is_procedure, is_value, operands, parameters_at}
use Rattle.codegen_expr.specs.Sites.{frame_text, own_part, prefix_of}

-- ---- cells

abbrev pub around_or : (ℕ → Bool) → Option ℕ → Bool
around_or f None = false
around_or f (Some t) = f t

-- whether a text is this one, or one of so many in front of it is
unfoldable pub is_level : Tables → ℕ → (text level : ℕ) → Bool
is_level tables zero text level = text == level
is_level tables (suc more) text level = if text == level then true else around_or (λ t. is_level tables more t level) (prefix_of tables text)

-- whether one of so many texts, from one outward, is this one or has it in front
unfoldable pub is_around : Tables → ℕ → (inner outer : ℕ) → Bool
is_around tables zero inner outer = false
is_around tables (suc more) inner outer = if is_level tables (length tables.blocks) inner outer then true else around_or (λ t. is_around tables more t outer) (encloser tables inner)

-- the text is this one or has it in front, or stands in such a text
pub record StandsIn (s : Source) (inner outer : ℕ) : Type 0 where
  pub found : is_around s.tables (length s.tables.blocks) inner outer ≡ true

-- where the first cell with this key is, counted from a number on
abbrev pub place_from : ℕ → Key → List Held → Option ℕ
place_from n key [] = None
place_from n key (h ∷ hs) = if same_key h.key key then Some n else place_from (suc n) key hs

-- the place of a cell in a text's own part of its frames, if they have it
unfoldable pub slot_in : Source → (text : ℕ) → Key → Option ℕ
slot_in s k key = place_from 0 key (own_part s k)

abbrev pub is_there : Option ℕ → Bool
is_there None = false
is_there (Some n) = true

-- the frames of the text have the cell, and the text is around
pub record KeyBuilt (s : Source) (inner outer : ℕ) (key : Key) : Type 0 where
  pub has : is_there (slot_in s outer key) ≡ true
  pub inside : StandsIn s inner outer

-- the cell of a declaration
abbrev pub CellBuilt : Source → (text : ℕ) → DeclNo → Type 0
CellBuilt s text d = KeyBuilt s text (block_of s d) (Declared d.0)

-- ---- identifiers

abbrev pub PlainBuilt : Plain → Type 0
PlainBuilt (Integer z) = ⊤
PlainBuilt (Truth b) = ⊤
PlainBuilt (Character c) = ⊤
PlainBuilt (Text t) = ⊤
PlainBuilt _ = ⊥

abbrev pub VariableBuilt : Source → (text : ℕ) → DeclNo → Expressions → Type 0
VariableBuilt s text d NoMore = CellBuilt s text d
VariableBuilt s text d (Then e es) = ⊥

abbrev pub ConstantBuilt : Option Plain → Expressions → Type 0
ConstantBuilt (Some v) NoMore = PlainBuilt v
ConstantBuilt _ es = ⊥

abbrev pub ArrayBuilt : Source → (text : ℕ) → DeclNo → Expressions → (Subscripts : Type 0) → Type 0
ArrayBuilt s text d NoMore Subscripts = CellBuilt s text d
ArrayBuilt s text d (Then e es) Subscripts = CellBuilt s text d × Subscripts

abbrev pub FormalBuilt : Source → (text : ℕ) → DeclNo → FormalKind → Expressions → (Subscripts : Type 0) → (Actuals : Parameters → Type 0) → Type 0
FormalBuilt s text d shape.Simple es Subscripts Actuals = VariableBuilt s text d es
FormalBuilt s text d shape.Array es Subscripts Actuals = ArrayBuilt s text d es Subscripts
FormalBuilt s text d shape.Procedure es Subscripts Actuals = CellBuilt s text d × Actuals Checked

-- a call of a procedure that is declared in a text around
abbrev pub CallBuilt : Source → (text : ℕ) → DeclNo → (Actuals : Type 0) → Type 0
CallBuilt s text d Actuals = StandsIn s text (block_of s d) × Actuals

abbrev pub DeclaredBuilt : Source → (text : ℕ) → DeclNo → Option Entry → Expressions → (Operands : Type 0) → (Actuals : Parameters → Type 0) → Type 0
DeclaredBuilt s text d (Some (entry.Variable type)) es Operands Actuals = VariableBuilt s text d es
DeclaredBuilt s text d (Some (entry.Constant type)) es Operands Actuals = ConstantBuilt (constant_of s d) es
DeclaredBuilt s text d (Some (entry.Array element dimensions)) es Operands Actuals = ArrayBuilt s text d es Operands
DeclaredBuilt s text d (Some (entry.Formal f)) es Operands Actuals = FormalBuilt s text d f.kind es Operands Actuals
DeclaredBuilt s text d (Some (entry.Procedure result block)) es Operands Actuals = CallBuilt s text d (Actuals (Listed (formals_at s d)))
DeclaredBuilt s text d (Some (entry.Virtual result own)) es Operands Actuals = StandsIn s text (block_of s d) × Actuals Checked
DeclaredBuilt s text d _ es Operands Actuals = ⊥

-- a standard name that the machine does, with as many operands as it takes
pub record NameBuilt (name : Standard) (count : ℕ) : Type 0 where
  pub runs : name_runs name ≡ true
  pub as_many : count ≡ length (operands_of (row_of name).function)

abbrev pub NothingMore : Expressions → Type 0
NothingMore NoMore = ⊤
NothingMore (Then e es) = ⊥

-- a name of both images is done on one of them
abbrev pub ImageNameBuilt : (is_image : Bool) → (on_image : Option Standard) → Standard → Expressions → (Operands : Type 0) → Type 0
ImageNameBuilt true other name es Operands = NothingMore es
ImageNameBuilt false (Some of_text) name es Operands = NameBuilt of_text (suc (operands es)) × Operands
ImageNameBuilt false None name es Operands = NameBuilt name (operands es) × Operands

abbrev pub StandardBuilt : Option Standard → Expressions → (Operands : Type 0) → Type 0
StandardBuilt None es Operands = ⊥
StandardBuilt (Some name) es Operands = ImageNameBuilt (is_image name) (on_image name) name es Operands

abbrev pub NamedBuilt : Source → (text : ℕ) → Option Denotation → Expressions → (Operands : Type 0) → (Actuals : Parameters → Type 0) → Type 0
NamedBuilt s text None es Operands Actuals = ⊥
NamedBuilt s text (Some (denotation.Declared d)) es Operands Actuals = DeclaredBuilt s text d (entry_of s.tables d) es Operands Actuals
NamedBuilt s text (Some (denotation.Standard name)) es Operands Actuals = StandardBuilt (procedure_named name) es Operands

-- ---- objects

-- the frames of its text have the cell of an attribute
abbrev pub HasBuilt : Source → (home : ℕ) → Key → Type 0
HasBuilt s home key = is_there (slot_in s home key) ≡ true

abbrev pub ConstantOfBuilt : Source → DeclNo → Expressions → (Object : Type 0) → Type 0
ConstantOfBuilt s d es Object = Object × HasBuilt s (block_of s d) (Declared d.0) × ConstantBuilt (constant_of s d) es

abbrev pub VariableOfBuilt : Source → DeclNo → Expressions → (Object : Type 0) → Type 0
VariableOfBuilt s d NoMore Object = Object × HasBuilt s (block_of s d) (Declared d.0)
VariableOfBuilt s d (Then e es) Object = ⊥

abbrev pub ArrayOfBuilt : Source → DeclNo → (Object Subscripts : Type 0) → Type 0
ArrayOfBuilt s d Object Subscripts = Object × HasBuilt s (block_of s d) (Declared d.0) × Subscripts

abbrev pub ParameterOfBuilt : Source → DeclNo → FormalKind → Expressions → (Object Subscripts : Type 0) → Type 0
ParameterOfBuilt s d shape.Simple es Object Subscripts = VariableOfBuilt s d es Object
ParameterOfBuilt s d shape.Array es Object Subscripts = ArrayOfBuilt s d Object Subscripts
ParameterOfBuilt s d shape.Procedure es Object Subscripts = ⊥

-- what an object has
abbrev pub OfObjectBuilt : Source → DeclNo → Option Entry → Expressions → (Object Operands Actuals : Type 0) → Type 0
OfObjectBuilt s d (Some (entry.Variable type)) es Object Operands Actuals = VariableOfBuilt s d es Object
OfObjectBuilt s d (Some (entry.Constant type)) es Object Operands Actuals = ConstantOfBuilt s d es Object
OfObjectBuilt s d (Some (entry.Array element dimensions)) es Object Operands Actuals = ArrayOfBuilt s d Object Operands
OfObjectBuilt s d (Some (entry.Formal f)) es Object Operands Actuals = ParameterOfBuilt s d f.kind es Object Operands
OfObjectBuilt s d (Some (entry.Procedure result block)) es Object Operands Actuals = Object × Actuals
OfObjectBuilt s d (Some (entry.Attribute name parameter result)) es Object Operands Actuals = Object × SetNamed name result (operands es) × Actuals
OfObjectBuilt s d (Some (entry.Virtual result own)) es Object Operands Actuals = Object × Actuals
OfObjectBuilt s d _ es Object Operands Actuals = ⊥

-- where a variable or an element lies that an object has
abbrev pub ArrayPlaceOfBuilt : Source → DeclNo → Expressions → (Object Subscripts : Type 0) → Type 0
ArrayPlaceOfBuilt s d NoMore Object Subscripts = ⊥
ArrayPlaceOfBuilt s d (Then e es) Object Subscripts = ArrayOfBuilt s d Object Subscripts

abbrev pub ParameterPlaceOfBuilt : Source → DeclNo → FormalKind → Expressions → (Object Subscripts : Type 0) → Type 0
ParameterPlaceOfBuilt s d shape.Simple es Object Subscripts = VariableOfBuilt s d es Object
ParameterPlaceOfBuilt s d shape.Array es Object Subscripts = ArrayPlaceOfBuilt s d es Object Subscripts
ParameterPlaceOfBuilt s d shape.Procedure es Object Subscripts = ⊥

abbrev pub PlaceOfObjectBuilt : Source → DeclNo → Option Entry → Expressions → (Object Subscripts : Type 0) → Type 0
PlaceOfObjectBuilt s d (Some (entry.Variable type)) es Object Subscripts = VariableOfBuilt s d es Object
PlaceOfObjectBuilt s d (Some (entry.Array element dimensions)) es Object Subscripts = ArrayPlaceOfBuilt s d es Object Subscripts
PlaceOfObjectBuilt s d (Some (entry.Formal f)) es Object Subscripts = ParameterPlaceOfBuilt s d f.kind es Object Subscripts
PlaceOfObjectBuilt s d _ es Object Subscripts = ⊥

abbrev pub PlaceBehindBuilt : Source → Option Denotation → Expressions → (Object Subscripts : Type 0) → Type 0
PlaceBehindBuilt s (Some (denotation.Declared d)) es Object Subscripts = PlaceOfObjectBuilt s d (entry_of s.tables d) es Object Subscripts
PlaceBehindBuilt s _ es Object Subscripts = ⊥

-- a connection around, with its cell
pub record ConnectedBuilt (s : Source) (text connection : ℕ) : Type 0 where
  pub has : is_there (slot_in s (frame_text s connection) (cell_of_connection s connection)) ≡ true
  pub inside : StandsIn s text connection

abbrev pub ThroughBuilt : (connection : Option ℕ) → (Connected : ℕ → Type 0) → (Plain : Type 0) → Type 0
ThroughBuilt None Connected Plain = Plain
ThroughBuilt (Some k) Connected Plain = Connected k

abbrev pub ConnectedNameBuilt : Source → (text connection : ℕ) → Option Denotation → Expressions → (Operands : Type 0) → (Actuals : Parameters → Type 0) → Type 0
ConnectedNameBuilt s text k (Some (denotation.Declared d)) es Operands Actuals = OfObjectBuilt s d (entry_of s.tables d) es (ConnectedBuilt s text k) Operands (Actuals (parameters_at s d))
ConnectedNameBuilt s text k _ es Operands Actuals = ⊥

abbrev pub OwnBuilt : (own : Option DeclNo) → (Own : DeclNo → Type 0) → (Other : Type 0) → Type 0
OwnBuilt None Own Other = Other
OwnBuilt (Some d) Own Other = Own d

-- a name of a simulation block, which is a text around; or another attribute of the object around
abbrev pub SimulationFoundBuilt : Source → (text : ℕ) → (found : Option ℕ) → Standard → (result : Option SimType) → Expressions → (Actuals : Type 0) → Type 0
SimulationFoundBuilt s text None name result es Actuals = ⊥
SimulationFoundBuilt s text (Some k) name result es Actuals = SimulationNamed name result (operands es) × StandsIn s text k × Actuals

abbrev pub OwnByBuilt : (simulation : Bool) → (Simulation Other : Type 0) → Type 0
OwnByBuilt true Simulation Other = Simulation
OwnByBuilt false Simulation Other = Other

abbrev pub OwnNameBuilt : Source → (text : ℕ) → (found : Option ℕ) → Option Entry → Expressions → (Actuals Other : Type 0) → Type 0
OwnNameBuilt s text found (Some (entry.Attribute name parameter result)) es Actuals Other = OwnByBuilt (is_simulation_name name) (SimulationFoundBuilt s text found name result es Actuals) Other
OwnNameBuilt s text found e es Actuals Other = Other

-- `this`
abbrev pub ThisOfBuilt : Source → (text found : ℕ) → (is_connection : Bool) → Type 0
ThisOfBuilt s text k true = ConnectedBuilt s text k
ThisOfBuilt s text k false = StandsIn s text k

abbrev pub ThisFoundBuilt : Source → (text : ℕ) → (found : Option ℕ) → Type 0
ThisFoundBuilt s t None = ⊥
ThisFoundBuilt s t (Some k) = ThisOfBuilt s t k (is_connection (text s k))

-- a class that an identifier denotes
abbrev pub ClassBuilt : (class : Option ℕ) → Type 0
ClassBuilt None = ⊥
ClassBuilt (Some k) = ⊤

-- a class that is declared in a text around
abbrev pub GenerationBuilt : Source → (text : ℕ) → Option Denotation → (class : Option ℕ) → (Actuals : Type 0) → Type 0
GenerationBuilt s text (Some (denotation.Declared d)) (Some k) Actuals = StandsIn s text (block_of s d) × Actuals
GenerationBuilt s text _ _ Actuals = ⊥

-- ---- attributes of texts, behind a dot

abbrev pub ArrayPlaceBuilt : Source → (text : ℕ) → DeclNo → Expressions → (Subscripts : Type 0) → Type 0
ArrayPlaceBuilt s text d NoMore Subscripts = ⊥
ArrayPlaceBuilt s text d (Then e es) Subscripts = CellBuilt s text d × Subscripts

abbrev pub FormalPlaceBuilt : Source → (text : ℕ) → DeclNo → FormalKind → Expressions → (Subscripts : Type 0) → Type 0
FormalPlaceBuilt s text d shape.Simple es Subscripts = VariableBuilt s text d es
FormalPlaceBuilt s text d shape.Array es Subscripts = ArrayPlaceBuilt s text d es Subscripts
FormalPlaceBuilt s text d shape.Procedure es Subscripts = ⊥

abbrev pub DeclaredPlaceBuilt : Source → (text : ℕ) → DeclNo → Option Entry → Expressions → (Subscripts : Type 0) → Type 0
DeclaredPlaceBuilt s text d (Some (entry.Variable type)) es Subscripts = VariableBuilt s text d es
DeclaredPlaceBuilt s text d (Some (entry.Array element dimensions)) es Subscripts = ArrayPlaceBuilt s text d es Subscripts
DeclaredPlaceBuilt s text d (Some (entry.Formal f)) es Subscripts = FormalPlaceBuilt s text d f.kind es Subscripts
DeclaredPlaceBuilt s text d _ es Subscripts = ⊥

abbrev pub NamedPlaceBuilt : Source → (text : ℕ) → Option Denotation → Expressions → (Subscripts : Type 0) → Type 0
NamedPlaceBuilt s text (Some (denotation.Declared d)) es Subscripts = DeclaredPlaceBuilt s text d (entry_of s.tables d) es Subscripts
NamedPlaceBuilt s text _ es Subscripts = ⊤

abbrev pub StreamBuilt : (stream : Option ℕ) → (Other : Type 0) → Type 0
StreamBuilt None Other = Other
StreamBuilt (Some image) Other = ⊤

abbrev pub ObjectBuilt : (place : Bool) → (Place Value : Type 0) → Type 0
ObjectBuilt true Place Value = Place
ObjectBuilt false Place Value = Value

abbrev pub AttributeBuilt : Option Standard → (is_variable : Bool) → Expressions → (Place Value Operands : Type 0) → Type 0
AttributeBuilt None is_variable es Place Value Operands = ⊥
AttributeBuilt (Some name) is_variable es Place Value Operands = NameBuilt name (suc (operands es)) × ObjectBuilt (moves_position name && is_variable) Place Value × Operands

abbrev pub BehindDotBuilt : (stream : Option ℕ) → Option Standard → (is_variable : Bool) → Expressions → (Place Value Operands : Type 0) → Type 0
BehindDotBuilt (Some image) name is_variable es Place Value Operands = StandardBuilt name es Operands
BehindDotBuilt None name is_variable es Place Value Operands = AttributeBuilt name is_variable es Place Value Operands

abbrev pub DotBuilt : Source → Option Denotation → (stream : Option ℕ) → (is_variable : Bool) → Expressions → (Place Value Operands : Type 0) → (Actuals : Parameters → Type 0) → Type 0
DotBuilt s None stream is_variable es Place Value Operands Actuals = ⊥
DotBuilt s (Some (denotation.Standard name)) stream is_variable es Place Value Operands Actuals = BehindDotBuilt stream (procedure_named name) is_variable es Place Value Operands
DotBuilt s (Some (denotation.Declared d)) stream is_variable es Place Value Operands Actuals = OfObjectBuilt s d (entry_of s.tables d) es Value Operands (Actuals (parameters_at s d))

-- ---- procedures as values

abbrev pub ProcedureOfObjectBuilt : Option Entry → (Object : Type 0) → Type 0
ProcedureOfObjectBuilt (Some (entry.Procedure result block)) Object = Object
ProcedureOfObjectBuilt (Some (entry.Virtual result own)) Object = Object
ProcedureOfObjectBuilt _ Object = ⊥

abbrev pub ProcedureBehindBuilt : Source → Option Denotation → (Object : Type 0) → Type 0
ProcedureBehindBuilt s (Some (denotation.Declared d)) Object = ProcedureOfObjectBuilt (entry_of s.tables d) Object
ProcedureBehindBuilt s _ Object = ⊥

abbrev pub FormalValueBuilt : Source → (text : ℕ) → DeclNo → FormalKind → Type 0
FormalValueBuilt s text d shape.Procedure = CellBuilt s text d
FormalValueBuilt s text d kind = ⊥

abbrev pub ProcedureEntryBuilt : Source → (text : ℕ) → DeclNo → Option Entry → Type 0
ProcedureEntryBuilt s text d (Some (entry.Procedure result block)) = StandsIn s text (block_of s d)
ProcedureEntryBuilt s text d (Some (entry.Virtual result own)) = StandsIn s text (block_of s d)
ProcedureEntryBuilt s text d (Some (entry.Formal f)) = FormalValueBuilt s text d f.kind
ProcedureEntryBuilt s text d _ = ⊥

abbrev pub ProcedureNamedBuilt : Source → (text : ℕ) → Option Denotation → Type 0
ProcedureNamedBuilt s text (Some (denotation.Declared d)) = ProcedureEntryBuilt s text d (entry_of s.tables d)
ProcedureNamedBuilt s text _ = ⊥

-- ---- actual parameters

-- `Given` is what a thunk gives, for a procedure or for anything else
abbrev pub ActualBuilt : Mode → FormalKind → (Value Procedure Given : Type 0) → Type 0
ActualBuilt mode shape.Procedure Value Procedure Given = Procedure
ActualBuilt mode.ByName shape.Array Value Procedure Given = Given
ActualBuilt mode.ByName shape.Simple Value Procedure Given = Given
ActualBuilt mode.ByValue kind Value Procedure Given = Value
ActualBuilt mode.ByReference kind Value Procedure Given = Value

-- what an actual parameter of a call that is checked when it is done gives as a value, if it can be one, and as a procedure, if it is one
abbrev pub IfBuilt : Bool → (Given : Type 0) → Type 0
IfBuilt true Given = Given
IfBuilt false Given = ⊤

-- ---- expressions

abbrev pub LiteralBuilt : Source → (token : ℕ) → Literal → Type 0
LiteralBuilt s token (syntax.IntegerValue z) = ⊤
LiteralBuilt s token (syntax.CharacterValue c) = ⊤
LiteralBuilt s token (syntax.TextValue bytes) = ConstantBuilt (text_constant s token) NoMore
LiteralBuilt s token (syntax.BooleanValue b) = ⊤
LiteralBuilt s token syntax.NoText = ⊤
LiteralBuilt s token syntax.NoObject = ⊤

-- actual parameters for formal ones that are listed, or that are checked when the call is done
abbrev pub ActualsBuiltBy : (Passed : List Formal → Type 0) → (Checks : Type 0) → Parameters → Type 0
ActualsBuiltBy Passed Checks (Listed fs) = Passed fs
ActualsBuiltBy Passed Checks Checked = Checks

abbrev mutual
  pub IsBuilt : Source → (text : ℕ) → Expression → Type 0
  IsBuilt s text (syntax.If token c a b) = IsBuilt s text c × IsBuilt s text a × IsBuilt s text b
  IsBuilt s text (syntax.Binary op token a b) = IsBuilt s text a × IsBuilt s text b
  IsBuilt s text (syntax.Not token a) = IsBuilt s text a
  IsBuilt s text (syntax.Signed sign token a) = IsBuilt s text a
  IsBuilt s text (syntax.Member member token a class) = ClassBuilt (class_at s class.token.0) × IsBuilt s text a
  IsBuilt s text (syntax.Dot token a name es) =
      (gives s (denoted s name.token.0) ≡ true) × DotBuilt s (denoted s name.token.0) (stream_of s a) (is_variable s a || is_attribute s a) es (PlaceBuilt s text a) (IsBuilt s text a) (AreBuilt s text es) (λ formals. ActualsBuiltBy (λ fs. PassedBuilt s text es fs) (ParametersBuilt s text es) formals)
  IsBuilt s text (syntax.Qua token a class) = ClassBuilt (class_at s class.token.0) × IsBuilt s text a
  IsBuilt s text (syntax.Constant literal token) = LiteralBuilt s token literal
  IsBuilt s text (syntax.Named name es) =
      (gives s (denoted s name.token.0) ≡ true) × ThroughBuilt (connection_at s name.token.0)
      (λ k. ConnectedNameBuilt s text k (denoted s name.token.0) es (AreBuilt s text es) (λ formals. ActualsBuiltBy (λ fs. PassedBuilt s text es fs) (ParametersBuilt s text es) formals))
      (OwnBuilt (own_attribute s name.token.0)
      (λ d. OwnNameBuilt s text (found_at s name.token.0) (entry_of s.tables d) es (PassedBuilt s text es (formals_at s d))
      (OfObjectBuilt s d (entry_of s.tables d) es (ThisFoundBuilt s text (found_at s name.token.0)) (AreBuilt s text es) (ActualsBuiltBy (λ fs. PassedBuilt s text es fs) (ParametersBuilt s text es) (parameters_at s d))))
      (NamedBuilt s text (denoted s name.token.0) es (AreBuilt s text es) (λ formals. ActualsBuiltBy (λ fs. PassedBuilt s text es fs) (ParametersBuilt s text es) formals)))
  IsBuilt s text (syntax.This token class) = ThisFoundBuilt s text (found_at s token)
  IsBuilt s text (syntax.New token class es) = GenerationBuilt s text (denoted s class.token.0) (class_at s class.token.0) (PassedBuilt s text es (class_parameters s (class_at s class.token.0)))
  IsBuilt s text (syntax.Parentheses token a) = IsBuilt s text a

  -- a variable, where it lies
  pub PlaceBuilt : Source → (text : ℕ) → Expression → Type 0
  PlaceBuilt s text (syntax.Named name es) =
      ThroughBuilt (connection_at s name.token.0) (λ k. PlaceBehindBuilt s (denoted s name.token.0) es (ConnectedBuilt s text k) (AreBuilt s text es)) (NamedPlaceBuilt s text (denoted s name.token.0) es (AreBuilt s text es))
  PlaceBuilt s text (syntax.Dot token a name es) = StreamBuilt (stream_of s a) (PlaceBehindBuilt s (denoted s name.token.0) es (IsBuilt s text a) (AreBuilt s text es))
  PlaceBuilt s text _ = ⊥

  pub AreBuilt : Source → (text : ℕ) → Expressions → Type 0
  AreBuilt s text NoMore = ⊤
  AreBuilt s text (Then e es) = IsBuilt s text e × AreBuilt s text es

  -- a procedure, as a value
  pub ProcedureBuilt : Source → (text : ℕ) → Expression → Type 0
  ProcedureBuilt s text (syntax.Named name NoMore) =
      ThroughBuilt (connection_at s name.token.0) (λ k. ProcedureBehindBuilt s (denoted s name.token.0) (ConnectedBuilt s text k)) (ProcedureNamedBuilt s text (denoted s name.token.0))
  ProcedureBuilt s text (syntax.Dot token a name NoMore) = ProcedureBehindBuilt s (denoted s name.token.0) (IsBuilt s text a)
  ProcedureBuilt s text _ = ⊥

  -- actual parameters, one for each formal
  pub PassedBuilt : Source → (text : ℕ) → Expressions → List Formal → Type 0
  PassedBuilt s text NoMore [] = ⊤
  PassedBuilt s text NoMore (f ∷ fs) = ⊥
  PassedBuilt s text (Then e es) [] = ⊥
  PassedBuilt s text (Then e es) (f ∷ fs) = ActualBuilt f.mode f.kind (IsBuilt s text e) (ProcedureBuilt s text e) (ObjectBuilt (is_placed s e) (PlaceBuilt s text e) (IsBuilt s text e)) × PassedBuilt s text es fs

  pub ParametersBuilt : Source → (text : ℕ) → Expressions → Type 0
  ParametersBuilt s text NoMore = ⊤
  ParametersBuilt s text (Then e es) =
      IfBuilt (is_value (passed s e)) (ObjectBuilt (is_placed s e) (PlaceBuilt s text e) (IsBuilt s text e)) × IfBuilt (is_procedure (passed s e)) (ProcedureBuilt s text e) × ParametersBuilt s text es

abbrev pub ActualsBuilt : Source → (text : ℕ) → Expressions → Parameters → Type 0
ActualsBuilt s text es formals = ActualsBuiltBy (λ fs. PassedBuilt s text es fs) (ParametersBuilt s text es) formals

-- where a reference lies, with its qualification
abbrev pub PlaceOrResultBuilt : Source → (text : ℕ) → (own : Option ℕ) → (Place : Type 0) → Type 0
PlaceOrResultBuilt s text None Place = Place
PlaceOrResultBuilt s text (Some home) Place = KeyBuilt s text home Result

abbrev pub ReferenceBuilt : Source → (text : ℕ) → Expression → Type 0
ReferenceBuilt s text e = ClassBuilt (qualification s (left_type s e)) × PlaceOrResultBuilt s text (result_meant s e) (PlaceBuilt s text e)
