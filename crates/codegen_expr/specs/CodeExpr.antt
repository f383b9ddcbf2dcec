-- Which code stands for an expression. At its beginning there are n values on the operand stack, at its end one more.
use Rattle.std.specs.Prelude.{◌≡◌, ◌<◌, ◌&&◌, ◌||◌, ℕ, zero, suc, Bool, true, false, ℤ, pos, List, [], ◌∷◌, length, slice_get, Option, Some, None}
use Rattle.sim_base.specs.declared.numbering.DeclNo.{DeclNo}
use Rattle.sim_scope.specs.declared.scopes.Denotation.{Denotation}
use Rattle.sim_scope.specs.declared.scopes.Denotation.TheVariants as denotation
use Rattle.sim_scope.specs.declared.types.Entry.{Entry}
use Rattle.sim_scope.specs.declared.types.Entry.TheVariants as entry
use Rattle.sim_scope.specs.declared.types.Formal.{Formal}
use Rattle.sim_scope.specs.declared.types.FormalKind.{FormalKind}
use Rattle.sim_scope.specs.declared.types.FormalKind.TheVariants as shape
use Rattle.sim_scope.specs.declared.types.Mode.{Mode}
use Rattle.sim_scope.specs.declared.types.Mode.TheVariants as mode
use Rattle.sim_scope.specs.declared.types.SimType.{SimType}
use Rattle.sim_scope.specs.declared.types.SimType.TheVariants as t
use Rattle.sim_scope.specs.Scopes.{entry_of}
use Rattle.sim_scope.specs.Source.{Source, block_of, denoted, found_at, level_of, line_at, type_at}
use Rattle.sim_tree.specs.declared.expr.Membership.{Membership}
use Rattle.sim_tree.specs.declared.expr.Membership.TheVariants as membership
use Rattle.sim_tree.specs.declared.expr.Sign.{Sign}
use Rattle.sim_tree.specs.declared.expr.Sign.TheVariants as sign
use Rattle.sim_tree.specs.Syntax.{Expression, Expressions, Literal, NoMore, Then}
use Rattle.sim_tree.specs.Syntax as syntax
use Rattle.sim_values.specs.declared.operators.Calculation.TheVariants as calculation
use Rattle.sim_values.specs.declared.operators.Comparison.{Comparison}
use Rattle.sim_values.specs.declared.operators.Comparison.TheVariants as comparison
use Rattle.sim_values.specs.declared.operators.Connective.TheVariants as connective
use Rattle.sim_values.specs.declared.operators.Dyadic.{Dyadic}
use Rattle.sim_values.specs.declared.operators.Dyadic.TheVariants as dyadic
use Rattle.sim_values.specs.declared.operators.Monadic.{Monadic}
use Rattle.sim_values.specs.declared.operators.Monadic.TheVariants as monadic
use Rattle.sim_values.specs.declared.standard.Standard.{Standard}
use Rattle.sim_values.specs.declared.standard.Standard.TheVariants as name_of
use Rattle.sim_values.specs.declared.value.TextVal.{TextVal}
use Rattle.sim_values.specs.Plain.{Plain, Integer, Truth, Character, Text}
use Rattle.sim_values.specs.Standard.{is_image, moves_position, on_image, operands_of, row_of}
use Rattle.sim_code.specs.declared.code.CodeActual.{CodeActual}
use Rattle.sim_code.specs.declared.code.CodeType.{CodeType}
use Rattle.sim_code.specs.declared.code.CodeType.TheVariants as type
use Rattle.sim_code.specs.declared.instr.Instr.{Instr}
use Rattle.sim_code.specs.declared.instr.Instr.TheVariants as i
use Rattle.sim_code.specs.Code.{CodeOf}
use Rattle.sim_code.specs.Names.{standard_names}
use Rattle.sim_code.specs.Rows.{text_value}
use Rattle.sim_code.specs.Simulations.{actual_count, is_simulation_name}
use Rattle.sim_code.specs.Sets.{is_attribute_name, parameter_count}
use Rattle.sim_meaning.specs.Attributes.{cell_of_connection, connection_at, is_connection, own_attribute}
use Rattle.sim_meaning.specs.Checks.{Passed, PassedArray, PassedProcedure, PassedValue, passed}
use Rattle.sim_meaning.specs.Closing.{by_name, class_of_formal, class_passed, has_type, is_placed, Joining, Lazily, Negated, Plainly, Sort, class_parameters, formals_at, is_attribute, is_text, is_text_type, is_variable, left_type, result_meant, sort_of, stream_of, sysout, typed_token}
use Rattle.sim_meaning.specs.Constants.{constants_of, text_constant}
use Rattle.sim_meaning.specs.Levels.{class_at, is_process_itself, qualification}
use Rattle.sim_meaning.specs.Names.{procedure_named}
use Rattle.sim_meaning.specs.Pending.{Declared, ForParameter, ForPlace, ForValue, Origin, Result, Use}
use Rattle.sim_meaning.specs.Statements.{has_value, standard_leaves}
use Rattle.sim_meaning.specs.Texts.{constant_of, text}
use Rattle.codegen_expr.specs.Sites.{Ahead, At, HasCell, IfAt, Inside, Is, Pushes, Site, block_number, class_number, frame_text, slot_of}

-- ---- operators

abbrev pub relation_number : Comparison → ℤ
relation_number comparison.Less = pos 0
relation_number comparison.LessOrEqual = pos 1
relation_number comparison.Equal = pos 2
relation_number comparison.GreaterOrEqual = pos 3
relation_number comparison.Greater = pos 4
relation_number comparison.NotEqual = pos 5

abbrev pub two_instr : Dyadic → Instr
two_instr (dyadic.Calculate calculation.Add) = i.Add
two_instr (dyadic.Calculate calculation.Subtract) = i.Sub
two_instr (dyadic.Calculate calculation.Multiply) = i.Mul
two_instr (dyadic.Calculate calculation.Divide) = i.Div
two_instr (dyadic.Calculate calculation.Power) = i.Pow
two_instr (dyadic.Compare r) = i.Rel (relation_number r)
two_instr (dyadic.CompareTexts r) = i.RelT (relation_number r)
two_instr (dyadic.Connect connective.And) = i.And
two_instr (dyadic.Connect connective.Or) = i.Or
two_instr (dyadic.Connect connective.Implies) = i.Imp
two_instr (dyadic.Connect connective.Equivalent) = i.Eqv
two_instr dyadic.SameObject = i.Same
two_instr dyadic.SameText = i.SameT

abbrev pub one_instr : Monadic → Instr
one_instr monadic.Negate = i.Neg
one_instr monadic.Not = i.Not

-- a text is a constant of the program
pub record IsConstant (s : Source) (t : TextVal) : Type 0 where
  pub bytes : List ℕ
  pub listed : slice_get (constants_of s) t.text_frame ≡ Some bytes
  pub whole : Text t ≡ text_value t.text_frame bytes

-- a plain value
abbrev pub PlainAt : Source → CodeOf → Site → ℕ → Plain → ℕ → ℕ → Type 0
PlainAt s code site n (Integer z) p q = Pushes code site n (i.Int z) p q
PlainAt s code site n (Truth true) p q = Pushes code site n (i.Bool (pos 1)) p q
PlainAt s code site n (Truth false) p q = Pushes code site n (i.Bool (pos 0)) p q
PlainAt s code site n (Character c) p q = (c < 256) × Pushes code site n (i.Char (pos c)) p q
PlainAt s code site n (Text t) p q = IsConstant s t × Pushes code site n (i.TextK (pos t.text_frame)) p q
PlainAt s code site n _ p q = ⊥

abbrev pub OneAt : CodeOf → Monadic → (line : ℕ) → (A : ℕ → ℕ → Type 0) → ℕ → ℕ → Type 0
OneAt code op line A p q = (x : ℕ) × A p x × At code (one_instr op) line x q

-- these instructions stand one behind another, all with this line
abbrev pub Stand : CodeOf → (line : ℕ) → List Instr → ℕ → ℕ → Type 0
Stand code line [] p q = q ≡ p
Stand code line (x ∷ xs) p q = (y : ℕ) × At code x line p y × Stand code line xs y q

-- What `&` does with both texts on the stack, in the three temps of expressions of a level. 20 is `length`, 14 `blanks`, 27 `sub`. `==` tells that both
-- are texts. The lengths are added; where that sum and one is no integer, that is told first. Then there is a new text of both lengths, the left one is
-- assigned to it, and the right one to its rest.
abbrev pub joined_in : (level left right new : ℕ) → List Instr
joined_in l a b c =
    i.Store (pos l) (pos b) ∷ i.Store (pos l) (pos a) ∷ i.Load (pos l) (pos a) ∷ i.Load (pos l) (pos b) ∷ i.SameT ∷ i.Pop ∷
    i.Load (pos l) (pos a) ∷ i.Std (pos 20) ∷ i.Load (pos l) (pos b) ∷ i.Std (pos 20) ∷ i.Add ∷ i.Dup ∷ i.Int (pos 1) ∷ i.Add ∷ i.Pop ∷ i.Std (pos 14) ∷ i.Store (pos l) (pos c) ∷
    i.Load (pos l) (pos c) ∷ i.Load (pos l) (pos a) ∷ i.AssignT ∷
    i.Load (pos l) (pos c) ∷ i.Load (pos l) (pos a) ∷ i.Std (pos 20) ∷ i.Int (pos 1) ∷ i.Add ∷ i.Load (pos l) (pos b) ∷ i.Std (pos 20) ∷ i.Std (pos 27) ∷
    i.Load (pos l) (pos b) ∷ i.AssignT ∷ i.Load (pos l) (pos c) ∷ []

abbrev pub join_instrs : (level temp : ℕ) → List Instr
join_instrs l t = joined_in l t (suc t) (suc (suc t))

-- `&`: A is the left text on n values, C the right one on one more
pub record JoinAt (s : Source) (code : CodeOf) (site : Site) (n line : ℕ) (A C : ℕ → ℕ → Type 0) (p q : ℕ) : Type 0 where
  pub x : ℕ
  pub y : ℕ
  pub within : suc (suc site.temps) < site.size
  pub left : A p x
  pub right : C x y
  pub room : suc (suc n) < site.room
  pub joins : Stand code line (join_instrs (level_of s site.text) site.temps) y q

-- A is the first operand on n values, B the second one on n values, and C the second one on one more
abbrev pub TwoAt : Source → CodeOf → Site → ℕ → Sort → (line : ℕ) → (A B C : ℕ → ℕ → Type 0) → ℕ → ℕ → Type 0
TwoAt s code site n (Plainly op) line A B C p q = (x : ℕ) × (y : ℕ) × A p x × C x y × At code (two_instr op) line y q
TwoAt s code site n (Negated op) line A B C p q = (x : ℕ) × (y : ℕ) × (z : ℕ) × A p x × C x y × At code (two_instr op) line y z × At code i.Not line z q
TwoAt s code site n (Lazily true) line A B C p q = IfAt code A (PlainAt s code site n (Truth true)) B p q
TwoAt s code site n (Lazily false) line A B C p q = IfAt code A B (PlainAt s code site n (Truth false)) p q
TwoAt s code site n Joining line A B C p q = JoinAt s code site n line A C p q

abbrev pub SignedAt : CodeOf → Sign → (line : ℕ) → (A : ℕ → ℕ → Type 0) → ℕ → ℕ → Type 0
SignedAt code sign.Plus line A p q = A p q
SignedAt code sign.Minus line A p q = OneAt code monadic.Negate line A p q

-- a value that is there
abbrev pub GivenAt : Source → CodeOf → Site → ℕ → Option Plain → ℕ → ℕ → Type 0
GivenAt s code site n None p q = ⊥
GivenAt s code site n (Some v) p q = PlainAt s code site n v p q

abbrev pub LiteralAt : Source → CodeOf → Site → ℕ → (token : ℕ) → Literal → ℕ → ℕ → Type 0
LiteralAt s code site n token (syntax.IntegerValue z) p q = PlainAt s code site n (Integer z) p q
LiteralAt s code site n token (syntax.CharacterValue c) p q = PlainAt s code site n (Character c) p q
LiteralAt s code site n token (syntax.TextValue bytes) p q = GivenAt s code site n (text_constant s token) p q
LiteralAt s code site n token (syntax.BooleanValue b) p q = PlainAt s code site n (Truth b) p q
LiteralAt s code site n token syntax.NoText p q = Pushes code site n i.NoText p q
LiteralAt s code site n token syntax.NoObject p q = Pushes code site n i.None p q

-- ---- identifiers

-- the value in the cell of a declaration, which stands in a text around whose frames have it
pub record CellAt (s : Source) (code : CodeOf) (site : Site) (n : ℕ) (d : DeclNo) (p q : ℕ) : Type 0 where
  pub load : Pushes code site n (i.Load (pos (level_of s (block_of s d))) (pos (slot_of s code (block_of s d) (Declared d.0)))) p q
  pub inside : Inside s.tables site.text (block_of s d)
  pub within : HasCell s (block_of s d) (Declared d.0)

abbrev pub VariableAt : Source → CodeOf → Site → ℕ → DeclNo → Expressions → ℕ → ℕ → Type 0
VariableAt s code site n d NoMore p q = CellAt s code site n d p q
VariableAt s code site n d (Then e es) p q = ⊥

abbrev pub ConstantAt : Source → CodeOf → Site → ℕ → Option Plain → Expressions → ℕ → ℕ → Type 0
ConstantAt s code site n (Some v) NoMore p q = PlainAt s code site n v p q
ConstantAt s code site n _ es p q = ⊥

abbrev pub operands : Expressions → ℕ
operands NoMore = 0
operands (Then e es) = suc (operands es)

-- the address of an element, with the class of references there: the array, the subscripts, which stand on one value more
pub record ElementAt (s : Source) (code : CodeOf) (site : Site) (n line class : ℕ) (d : DeclNo) (es : Expressions) (Subscripts : ℕ → ℕ → Type 0) (p q : ℕ) : Type 0 where
  pub x : ℕ
  pub y : ℕ
  pub array : CellAt s code site n d p x
  pub subscripts : Subscripts x y
  pub found : At code (i.Elem (pos (operands es)) (pos class)) line y q

abbrev pub ArrayAt : Source → CodeOf → Site → ℕ → (line : ℕ) → DeclNo → Expressions → (Subscripts : ℕ → ℕ → Type 0) → ℕ → ℕ → Type 0
ArrayAt s code site n line d NoMore Subscripts p q = CellAt s code site n d p q
ArrayAt s code site n line d (Then e es) Subscripts p q = (x : ℕ) × ElementAt s code site n line 0 d (Then e es) Subscripts p x × Is code i.Fetch x q

-- a use of a formal parameter by name, whose cell stands in a text around
pub record UsedAt (s : Source) (code : CodeOf) (site : Site) (n line : ℕ) (d : DeclNo) (used : (level cell : ℤ) → Instr) (p q : ℕ) : Type 0 where
  pub use_is : At code (used (pos (level_of s (block_of s d))) (pos (slot_of s code (block_of s d) (Declared d.0)))) line p q
  pub fits : n < site.room
  pub inside : Inside s.tables site.text (block_of s d)
  pub within : HasCell s (block_of s d) (Declared d.0)

abbrev pub class_or_none : Source → CodeOf → Option ℕ → ℕ
class_or_none s code None = 0
class_or_none s code (Some k) = class_number s code k

abbrev pub truth_number : Bool → ℕ
truth_number false = 0
truth_number true = 1

-- its value, held against its class; or where it lies, and whether its value is enough
abbrev pub use_instr : Source → CodeOf → Use → (level cell : ℤ) → Instr
use_instr s code (ForValue class line) l c = i.NameVal l c (pos (class_or_none s code class))
use_instr s code (ForPlace value_too line) l c = i.NameAddr l c (pos (truth_number value_too))
use_instr s code (ForParameter n line) l c = i.Param (pos n) l c

abbrev pub line_of_use : Use → ℕ
line_of_use (ForValue class line) = line
line_of_use (ForPlace value_too line) = line
line_of_use (ForParameter n line) = line

abbrev pub ByNameAt : Source → CodeOf → Site → ℕ → DeclNo → Expressions → Use → ℕ → ℕ → Type 0
ByNameAt s code site n d NoMore wanted p q = UsedAt s code site n (line_of_use wanted) d (use_instr s code wanted) p q
ByNameAt s code site n d (Then e es) wanted p q = ⊥

-- the same where the array is a formal parameter by name
pub record NamedElementAt (s : Source) (code : CodeOf) (site : Site) (n line class : ℕ) (d : DeclNo) (es : Expressions) (Subscripts : ℕ → ℕ → Type 0) (p q : ℕ) : Type 0 where
  pub x : ℕ
  pub y : ℕ
  pub array : ByNameAt s code site n d NoMore (ForValue None line) p x
  pub subscripts : Subscripts x y
  pub found : At code (i.Elem (pos (operands es)) (pos class)) line y q

abbrev pub NamedArrayAt : Source → CodeOf → Site → ℕ → (line : ℕ) → DeclNo → Expressions → (Subscripts : ℕ → ℕ → Type 0) → ℕ → ℕ → Type 0
NamedArrayAt s code site n line d NoMore Subscripts p q = ByNameAt s code site n d NoMore (ForValue None line) p q
NamedArrayAt s code site n line d (Then e es) Subscripts p q = (x : ℕ) × NamedElementAt s code site n line 0 d (Then e es) Subscripts p x × Is code i.Fetch x q

-- Actual parameters are passed to formal ones that are listed, or are checked when the call is done.
pub data Parameters : Type 0 where
  Listed : List Formal → Parameters
  Checked : Parameters

-- the procedure that a formal parameter is, by name or not, as a value
abbrev pub is_by_name : Mode → Bool
is_by_name mode.ByName = true
is_by_name _ = false

abbrev pub FormalProcedureAt : Source → CodeOf → Site → (n line : ℕ) → DeclNo → (by_name : Bool) → ℕ → ℕ → Type 0
FormalProcedureAt s code site n line d true p q = ByNameAt s code site n d NoMore (ForValue None line) p q
FormalProcedureAt s code site n line d false p q = CellAt s code site n d p q

-- a call of a procedure that is a value: the procedure, its actuals, which stand on one value more
pub record ValueCallAt (code : CodeOf) (line : ℕ) (es : Expressions) (Procedure Actuals : ℕ → ℕ → Type 0) (p q : ℕ) : Type 0 where
  pub x : ℕ
  pub y : ℕ
  pub procedure : Procedure p x
  pub actuals : Actuals x y
  pub called : At code (i.CallV (pos (operands es))) line y q

abbrev pub FormalAt : Source → CodeOf → Site → ℕ → (line : ℕ) → DeclNo → Mode → FormalKind → Expressions → (Subscripts : ℕ → ℕ → Type 0) → (Actuals : Parameters → ℕ → ℕ → Type 0) → ℕ → ℕ → Type 0
FormalAt s code site n line d mode.ByName shape.Simple es Subscripts Actuals p q = ByNameAt s code site n d es (ForValue (class_of_formal s d) line) p q
FormalAt s code site n line d mode.ByName shape.Array es Subscripts Actuals p q = NamedArrayAt s code site n line d es Subscripts p q
FormalAt s code site n line d mode shape.Simple es Subscripts Actuals p q = VariableAt s code site n d es p q
FormalAt s code site n line d mode shape.Array es Subscripts Actuals p q = ArrayAt s code site n line d es Subscripts p q
FormalAt s code site n line d mode shape.Procedure es Subscripts Actuals p q = ValueCallAt code line es (FormalProcedureAt s code site n line d (is_by_name mode)) (Actuals Checked) p q

-- a call: the link to the instance in which the procedure is declared, the actuals, which stand on one value more
pub record CallAt (s : Source) (code : CodeOf) (site : Site) (n line : ℕ) (d : DeclNo) (text : ℕ) (es : Expressions) (Actuals : ℕ → ℕ → Type 0) (p q : ℕ) : Type 0 where
  pub x : ℕ
  pub y : ℕ
  pub link : Pushes code site n (i.Link (pos (level_of s (block_of s d)))) p x
  pub inside : Inside s.tables site.text (block_of s d)
  pub actuals : Actuals x y
  pub call : At code (i.Call (pos (block_number s text)) (pos (operands es))) line y q

-- `this`: the object or prefixed block of a text around
pub record ThisAt (s : Source) (code : CodeOf) (site : Site) (n text p q : ℕ) : Type 0 where
  pub push : Pushes code site n (i.This (pos (level_of s text))) p q
  pub inside : Inside s.tables site.text text

-- what matches a virtual in the class of an object
pub record MatchAt (code : CodeOf) (line virtual : ℕ) (Object : ℕ → ℕ → Type 0) (p q : ℕ) : Type 0 where
  pub x : ℕ
  pub object : Object p x
  pub found : At code (i.Virt (pos virtual)) line x q

-- a procedure that is declared, with the instance in which it is
pub record DeclaredProcedureAt (s : Source) (code : CodeOf) (site : Site) (n : ℕ) (d : DeclNo) (text p q : ℕ) : Type 0 where
  pub x : ℕ
  pub link : Pushes code site n (i.Link (pos (level_of s (block_of s d)))) p x
  pub inside : Inside s.tables site.text (block_of s d)
  pub value : Is code (i.ProcVal (pos (block_number s text))) x q

-- a procedure that an object has
pub record RemoteProcedureAt (s : Source) (code : CodeOf) (line text : ℕ) (Object : ℕ → ℕ → Type 0) (p q : ℕ) : Type 0 where
  pub x : ℕ
  pub y : ℕ
  pub object : Object p x
  pub there : At code i.NotNone line x y
  pub value : Is code (i.ProcVal (pos (block_number s text))) y q

-- A procedure that is declared so, as a value: of an object, or without a dot.
abbrev pub ProcedureOfObjectAt : Source → CodeOf → (line : ℕ) → DeclNo → Option Entry → (Object : ℕ → ℕ → Type 0) → ℕ → ℕ → Type 0
ProcedureOfObjectAt s code line d (Some (entry.Procedure result text)) Object p q = RemoteProcedureAt s code line text Object p q
ProcedureOfObjectAt s code line d (Some (entry.Virtual result own)) Object p q = MatchAt code line d.0 Object p q
ProcedureOfObjectAt s code line d _ Object p q = ⊥

abbrev pub ProcedureBehindAt : Source → CodeOf → (line : ℕ) → Option Denotation → (Object : ℕ → ℕ → Type 0) → ℕ → ℕ → Type 0
ProcedureBehindAt s code line (Some (denotation.Declared d)) Object p q = ProcedureOfObjectAt s code line d (entry_of s.tables d) Object p q
ProcedureBehindAt s code line _ Object p q = ⊥

abbrev pub FormalValueAt : Source → CodeOf → Site → (n line : ℕ) → DeclNo → Mode → FormalKind → ℕ → ℕ → Type 0
FormalValueAt s code site n line d mode shape.Procedure p q = FormalProcedureAt s code site n line d (is_by_name mode) p q
FormalValueAt s code site n line d mode kind p q = ⊥

abbrev pub ProcedureEntryAt : Source → CodeOf → Site → (n line : ℕ) → DeclNo → Option Entry → ℕ → ℕ → Type 0
ProcedureEntryAt s code site n line d (Some (entry.Procedure result text)) p q = DeclaredProcedureAt s code site n d text p q
ProcedureEntryAt s code site n line d (Some (entry.Virtual result own)) p q = MatchAt code line d.0 (ThisAt s code site n (block_of s d)) p q
ProcedureEntryAt s code site n line d (Some (entry.Formal f)) p q = FormalValueAt s code site n line d f.mode f.kind p q
ProcedureEntryAt s code site n line d _ p q = ⊥

abbrev pub ProcedureNamedAt : Source → CodeOf → Site → (n line : ℕ) → Option Denotation → ℕ → ℕ → Type 0
ProcedureNamedAt s code site n line (Some (denotation.Declared d)) p q = ProcedureEntryAt s code site n line d (entry_of s.tables d) p q
ProcedureNamedAt s code site n line _ p q = ⊥

abbrev pub DeclaredAt : Source → CodeOf → Site → ℕ → (line : ℕ) → DeclNo → Option Entry → Expressions → (Operands : ℕ → ℕ → Type 0) → (Actuals : Parameters → ℕ → ℕ → Type 0) → ℕ → ℕ → Type 0
DeclaredAt s code site n line d (Some (entry.Variable type)) es Operands Actuals p q = VariableAt s code site n d es p q
DeclaredAt s code site n line d (Some (entry.Constant type)) es Operands Actuals p q = ConstantAt s code site n (constant_of s d) es p q
DeclaredAt s code site n line d (Some (entry.Array element dimensions)) es Operands Actuals p q = ArrayAt s code site n line d es Operands p q
DeclaredAt s code site n line d (Some (entry.Formal f)) es Operands Actuals p q = FormalAt s code site n line d f.mode f.kind es Operands Actuals p q
DeclaredAt s code site n line d (Some (entry.Procedure result text)) es Operands Actuals p q = CallAt s code site n line d text es (Actuals (Listed (formals_at s d))) p q
DeclaredAt s code site n line d (Some (entry.Virtual result own)) es Operands Actuals p q = ValueCallAt code line es (MatchAt code line d.0 (ThisAt s code site n (block_of s d))) (Actuals Checked) p q
DeclaredAt s code site n line d _ es Operands Actuals p q = ⊥

-- a standard name behind its operands, which are as many as it takes; where it leaves a value there is room for it
pub record StandardIs (code : CodeOf) (site : Site) (n line : ℕ) (name : Standard) (count p q : ℕ) : Type 0 where
  pub as_many : count ≡ length (operands_of (row_of name).function)
  pub number : ℕ
  pub numbered : slice_get standard_names number ≡ Some name
  pub is : At code (i.Std (pos number)) line p q
  pub fits : has_value (row_of name).result ≡ true → n < site.room

-- A name of both images is done on one of them, 0 of sysin and 1 of sysout: `image` is its text, and the others are names of texts, which get
-- its address before their operands.
abbrev pub NameAt : CodeOf → Site → ℕ → (line image : ℕ) → (is_image : Bool) → (on_image : Option Standard) → Standard → Expressions → (Operands Inner : ℕ → ℕ → Type 0) → ℕ → ℕ → Type 0
NameAt code site n line image true other name es Operands Inner p q = (x : ℕ) × Pushes code site n (i.AddrImg (pos image)) p x × Is code i.Fetch x q
NameAt code site n line image false (Some of_text) name es Operands Inner p q =
    (x : ℕ) × (y : ℕ) × Pushes code site n (i.AddrImg (pos image)) p x × Inner x y × StandardIs code site n line of_text (suc (operands es)) y q
NameAt code site n line image false None name es Operands Inner p q = (x : ℕ) × Operands p x × StandardIs code site n line name (operands es) x q

abbrev pub StandardAt : CodeOf → Site → ℕ → (line image : ℕ) → Option Standard → Expressions → (Operands Inner : ℕ → ℕ → Type 0) → ℕ → ℕ → Type 0
StandardAt code site n line image None es Operands Inner p q = ⊥
StandardAt code site n line image (Some name) es Operands Inner p q = NameAt code site n line image (is_image name) (on_image name) name es Operands Inner p q

-- Operands are those on n values, and Inner those on one value more, over an array, a link, or the text before a dot.
abbrev pub NamedAt : Source → CodeOf → Site → ℕ → (line : ℕ) → Option Denotation → Expressions → (Operands Inner : ℕ → ℕ → Type 0) → (Actuals : Parameters → ℕ → ℕ → Type 0) → ℕ → ℕ → Type 0
NamedAt s code site n line None es Operands Inner Actuals p q = ⊥
NamedAt s code site n line (Some (denotation.Declared d)) es Operands Inner Actuals p q = DeclaredAt s code site n line d (entry_of s.tables d) es Inner Actuals p q
NamedAt s code site n line (Some (denotation.Standard name)) es Operands Inner Actuals p q = StandardAt code site n line sysout (procedure_named name) es Operands Inner p q

-- An operand is no call of a procedure without a result, and no standard name without one.
abbrev pub gives_formal : FormalKind → Option SimType → Bool
gives_formal shape.Procedure type = has_type type
gives_formal kind type = true

abbrev pub gives_entry : Option Entry → Bool
gives_entry (Some (entry.Procedure result text)) = has_type result
gives_entry (Some (entry.Attribute name parameter result)) = has_type result
gives_entry (Some (entry.Virtual result own)) = has_type result
gives_entry (Some (entry.Formal f)) = gives_formal f.kind f.ty
gives_entry _ = true

abbrev pub gives : Source → Option Denotation → Bool
gives s None = true
gives s (Some (denotation.Declared d)) = gives_entry (entry_of s.tables d)
gives s (Some (denotation.Standard name)) = standard_leaves (procedure_named name)

-- what the actual parameters of something declared are passed to
abbrev pub parameters_of : Option Entry → List Formal → Parameters
parameters_of (Some (entry.Virtual result own)) fs = Checked
parameters_of e fs = Listed fs

abbrev pub parameters_at : Source → DeclNo → Parameters
parameters_at s d = parameters_of (entry_of s.tables d) (formals_at s d)

-- ---- attributes of objects: Object is the reference, on n values

-- where an attribute lies, with the class of a reference there
pub record AttributePlaceAt (s : Source) (code : CodeOf) (line class : ℕ) (d : DeclNo) (Object : ℕ → ℕ → Type 0) (p q : ℕ) : Type 0 where
  pub x : ℕ
  pub object : Object p x
  pub found : At code (i.AddrR (pos (slot_of s code (block_of s d) (Declared d.0))) (pos class)) line x q
  pub within : HasCell s (block_of s d) (Declared d.0)

abbrev pub VariableOfAt : Source → CodeOf → (line : ℕ) → DeclNo → Expressions → (Object : ℕ → ℕ → Type 0) → ℕ → ℕ → Type 0
VariableOfAt s code line d NoMore Object p q = (x : ℕ) × AttributePlaceAt s code line 0 d Object p x × Is code i.Fetch x q
VariableOfAt s code line d (Then e es) Object p q = ⊥

-- a constant is its value, where there is an object
pub record ConstantOfAt (s : Source) (code : CodeOf) (site : Site) (n line : ℕ) (d : DeclNo) (Object : ℕ → ℕ → Type 0) (p q : ℕ) : Type 0 where
  pub x : ℕ
  pub y : ℕ
  pub z : ℕ
  pub object : Object p x
  pub there : At code i.NotNone line x y
  pub dropped : Is code i.Pop y z
  pub value : GivenAt s code site n (constant_of s d) z q
  pub within : HasCell s (block_of s d) (Declared d.0)

abbrev pub ConstantAttributeAt : Source → CodeOf → Site → ℕ → (line : ℕ) → DeclNo → Expressions → (Object : ℕ → ℕ → Type 0) → ℕ → ℕ → Type 0
ConstantAttributeAt s code site n line d NoMore Object p q = ConstantOfAt s code site n line d Object p q
ConstantAttributeAt s code site n line d (Then e es) Object p q = ⊥

-- the address of an element of an array that an object has: the array, then the subscripts
pub record ElementOfAt (s : Source) (code : CodeOf) (line class : ℕ) (d : DeclNo) (es : Expressions) (Object Subscripts : ℕ → ℕ → Type 0) (p q : ℕ) : Type 0 where
  pub x : ℕ
  pub y : ℕ
  pub z : ℕ
  pub place : AttributePlaceAt s code line 0 d Object p x
  pub array : Is code i.Fetch x y
  pub subscripts : Subscripts y z
  pub found : At code (i.Elem (pos (operands es)) (pos class)) line z q

abbrev pub ArrayOfAt : Source → CodeOf → (line : ℕ) → DeclNo → Expressions → (Object Subscripts : ℕ → ℕ → Type 0) → ℕ → ℕ → Type 0
ArrayOfAt s code line d NoMore Object Subscripts p q = VariableOfAt s code line d NoMore Object p q
ArrayOfAt s code line d (Then e es) Object Subscripts p q = (x : ℕ) × ElementOfAt s code line 0 d (Then e es) Object Subscripts p x × Is code i.Fetch x q

abbrev pub ParameterOfAt : Source → CodeOf → (line : ℕ) → DeclNo → FormalKind → Expressions → (Object Subscripts : ℕ → ℕ → Type 0) → ℕ → ℕ → Type 0
ParameterOfAt s code line d shape.Simple es Object Subscripts p q = VariableOfAt s code line d es Object p q
ParameterOfAt s code line d shape.Array es Object Subscripts p q = ArrayOfAt s code line d es Object Subscripts p q
ParameterOfAt s code line d shape.Procedure es Object Subscripts p q = ⊥

-- a call of a procedure that an object has: the object, which is tested before the actuals
pub record RemoteCallAt (s : Source) (code : CodeOf) (line text : ℕ) (es : Expressions) (Object Actuals : ℕ → ℕ → Type 0) (p q : ℕ) : Type 0 where
  pub x : ℕ
  pub y : ℕ
  pub z : ℕ
  pub object : Object p x
  pub there : At code i.NotNone line x y
  pub actuals : Actuals y z
  pub call : At code (i.Call (pos (block_number s text)) (pos (operands es))) line z q

-- what the code of an attribute of SIMSET or of a process rests on: which name it is, that it has as many actual parameters as that takes, and
-- that it leaves a value just where its declaration says so
pub record SetNamed (name : Standard) (result : Option SimType) (count : ℕ) : Type 0 where
  pub is_name : is_attribute_name name ≡ true
  pub as_many : count ≡ parameter_count name
  pub leaves : has_type result ≡ has_value (row_of name).result

-- such an attribute of an object, which is tested before the actual parameter
pub record SetAt (code : CodeOf) (line : ℕ) (name : Standard) (result : Option SimType) (es : Expressions) (Object Actuals : ℕ → ℕ → Type 0) (p q : ℕ) : Type 0 where
  pub x : ℕ
  pub y : ℕ
  pub z : ℕ
  pub named : SetNamed name result (operands es)
  pub object : Object p x
  pub there : At code i.NotNone line x y
  pub actuals : Actuals y z
  pub number : ℕ
  pub numbered : slice_get standard_names number ≡ Some name
  pub done : At code (i.Std (pos number)) line z q

-- what an object has, with its operands, which stand on one value more
abbrev pub OfObjectAt : Source → CodeOf → Site → ℕ → (line : ℕ) → DeclNo → Option Entry → Expressions → (Object Inner Actuals : ℕ → ℕ → Type 0) → ℕ → ℕ → Type 0
OfObjectAt s code site n line d (Some (entry.Variable type)) es Object Inner Actuals p q = VariableOfAt s code line d es Object p q
OfObjectAt s code site n line d (Some (entry.Constant type)) es Object Inner Actuals p q = ConstantAttributeAt s code site n line d es Object p q
OfObjectAt s code site n line d (Some (entry.Array element dimensions)) es Object Inner Actuals p q = ArrayOfAt s code line d es Object Inner p q
OfObjectAt s code site n line d (Some (entry.Formal f)) es Object Inner Actuals p q = ParameterOfAt s code line d f.kind es Object Inner p q
OfObjectAt s code site n line d (Some (entry.Procedure result text)) es Object Inner Actuals p q = RemoteCallAt s code line text es Object Actuals p q
OfObjectAt s code site n line d (Some (entry.Attribute name parameter result)) es Object Inner Actuals p q = SetAt code line name result es Object Actuals p q
OfObjectAt s code site n line d (Some (entry.Virtual result own)) es Object Inner Actuals p q = ValueCallAt code line es (MatchAt code line d.0 Object) Actuals p q
OfObjectAt s code site n line d _ es Object Inner Actuals p q = ⊥

-- where a variable or an element lies that an object has
abbrev pub VariablePlaceOfAt : Source → CodeOf → (line class : ℕ) → DeclNo → Expressions → (Object : ℕ → ℕ → Type 0) → ℕ → ℕ → Type 0
VariablePlaceOfAt s code line class d NoMore Object p q = AttributePlaceAt s code line class d Object p q
VariablePlaceOfAt s code line class d (Then e es) Object p q = ⊥

abbrev pub ArrayPlaceOfAt : Source → CodeOf → (line class : ℕ) → DeclNo → Expressions → (Object Subscripts : ℕ → ℕ → Type 0) → ℕ → ℕ → Type 0
ArrayPlaceOfAt s code line class d NoMore Object Subscripts p q = ⊥
ArrayPlaceOfAt s code line class d (Then e es) Object Subscripts p q = ElementOfAt s code line class d (Then e es) Object Subscripts p q

abbrev pub ParameterPlaceOfAt : Source → CodeOf → (line class : ℕ) → DeclNo → FormalKind → Expressions → (Object Subscripts : ℕ → ℕ → Type 0) → ℕ → ℕ → Type 0
ParameterPlaceOfAt s code line class d shape.Simple es Object Subscripts p q = VariablePlaceOfAt s code line class d es Object p q
ParameterPlaceOfAt s code line class d shape.Array es Object Subscripts p q = ArrayPlaceOfAt s code line class d es Object Subscripts p q
ParameterPlaceOfAt s code line class d shape.Procedure es Object Subscripts p q = ⊥

abbrev pub PlaceOfObjectAt : Source → CodeOf → (line class : ℕ) → DeclNo → Option Entry → Expressions → (Object Subscripts : ℕ → ℕ → Type 0) → ℕ → ℕ → Type 0
PlaceOfObjectAt s code line class d (Some (entry.Variable type)) es Object Subscripts p q = VariablePlaceOfAt s code line class d es Object p q
PlaceOfObjectAt s code line class d (Some (entry.Array element dimensions)) es Object Subscripts p q = ArrayPlaceOfAt s code line class d es Object Subscripts p q
PlaceOfObjectAt s code line class d (Some (entry.Formal f)) es Object Subscripts p q = ParameterPlaceOfAt s code line class d f.kind es Object Subscripts p q
PlaceOfObjectAt s code line class d _ es Object Subscripts p q = ⊥

abbrev pub PlaceBehindAt : Source → CodeOf → (line class : ℕ) → Option Denotation → Expressions → (Object Subscripts : ℕ → ℕ → Type 0) → ℕ → ℕ → Type 0
PlaceBehindAt s code line class (Some (denotation.Declared d)) es Object Subscripts p q = PlaceOfObjectAt s code line class d (entry_of s.tables d) es Object Subscripts p q
PlaceBehindAt s code line class _ es Object Subscripts p q = ⊥

-- ---- connections

-- the object of a connection around, from its cell in the frames of the text in which the connection stands
pub record ConnectedAt (s : Source) (code : CodeOf) (site : Site) (n connection : ℕ) (p q : ℕ) : Type 0 where
  pub load : Pushes code site n (i.Load (pos (level_of s connection)) (pos (slot_of s code (frame_text s connection) (cell_of_connection s connection)))) p q
  pub inside : Inside s.tables site.text connection
  pub within : HasCell s (frame_text s connection) (cell_of_connection s connection)

-- what is seen through a connection, or else is seen without one
abbrev pub ThroughAt : (connection : Option ℕ) → (Connected : ℕ → ℕ → ℕ → Type 0) → (Plain : ℕ → ℕ → Type 0) → ℕ → ℕ → Type 0
ThroughAt None Connected Plain p q = Plain p q
ThroughAt (Some k) Connected Plain p q = Connected k p q

-- an identifier that is seen through a connection is an attribute of the object there
abbrev pub ConnectedNameAt : Source → CodeOf → Site → ℕ → (line connection : ℕ) → Option Denotation → Expressions → (Inner : ℕ → ℕ → Type 0) → (Actuals : Parameters → ℕ → ℕ → Type 0) → ℕ → ℕ → Type 0
ConnectedNameAt s code site n line k (Some (denotation.Declared d)) es Inner Actuals p q = OfObjectAt s code site n line d (entry_of s.tables d) es (ConnectedAt s code site n k) Inner (Actuals (parameters_at s d)) p q
ConnectedNameAt s code site n line k _ es Inner Actuals p q = ⊥

-- ---- classes

abbrev pub ThisOfAt : Source → CodeOf → Site → (n text : ℕ) → (is_connection : Bool) → ℕ → ℕ → Type 0
ThisOfAt s code site n k true p q = ConnectedAt s code site n k p q
ThisOfAt s code site n k false p q = ThisAt s code site n k p q

abbrev pub ThisFoundAt : Source → CodeOf → Site → ℕ → (found : Option ℕ) → ℕ → ℕ → Type 0
ThisFoundAt s code site n None p q = ⊥
ThisFoundAt s code site n (Some k) p q = ThisOfAt s code site n k (is_connection (text s k)) p q

-- a standard attribute that is seen without a dot is one of the object or the simulation block around
abbrev pub OwnAt : (own : Option DeclNo) → (Own : DeclNo → ℕ → ℕ → Type 0) → (Other : ℕ → ℕ → Type 0) → ℕ → ℕ → Type 0
OwnAt None Own Other p q = Other p q
OwnAt (Some d) Own Other p q = Own d p q

-- the same of a procedure of a simulation block, which has the link to the block in front
pub record SimulationNamed (name : Standard) (result : Option SimType) (count : ℕ) : Type 0 where
  pub is_name : is_simulation_name name ≡ true
  pub as_many : count ≡ actual_count name
  pub leaves : has_type result ≡ has_value (row_of name).result

pub record SimulationAt (s : Source) (code : CodeOf) (site : Site) (n line text : ℕ) (name : Standard) (result : Option SimType) (es : Expressions) (Actuals : ℕ → ℕ → Type 0) (p q : ℕ) : Type 0 where
  pub x : ℕ
  pub y : ℕ
  pub named : SimulationNamed name result (operands es)
  pub link : Pushes code site n (i.Link (pos (level_of s text))) p x
  pub inside : Inside s.tables site.text text
  pub actuals : Actuals x y
  pub number : ℕ
  pub numbered : slice_get standard_names number ≡ Some name
  pub done : At code (i.Std (pos number)) line y q

abbrev pub SimulationFoundAt : Source → CodeOf → Site → (n line : ℕ) → (found : Option ℕ) → Standard → (result : Option SimType) → Expressions → (Actuals : ℕ → ℕ → Type 0) → ℕ → ℕ → Type 0
SimulationFoundAt s code site n line None name result es Actuals p q = ⊥
SimulationFoundAt s code site n line (Some k) name result es Actuals p q = SimulationAt s code site n line k name result es Actuals p q

abbrev pub OwnBy : (simulation : Bool) → (Simulation Other : ℕ → ℕ → Type 0) → ℕ → ℕ → Type 0
OwnBy true Simulation Other p q = Simulation p q
OwnBy false Simulation Other p q = Other p q

-- such a name that is seen without a dot: a procedure of the simulation block that is found around, or another attribute of the object around
abbrev pub OwnNameAt : Source → CodeOf → Site → (n line : ℕ) → (found : Option ℕ) → Option Entry → Expressions → (Actuals Other : ℕ → ℕ → Type 0) → ℕ → ℕ → Type 0
OwnNameAt s code site n line found (Some (entry.Attribute name parameter result)) es Actuals Other p q = OwnBy (is_simulation_name name) (SimulationFoundAt s code site n line found name result es Actuals) Other p q
OwnNameAt s code site n line found e es Actuals Other p q = Other p q

-- `is`, `in` and `qua`
abbrev pub member_instr : Membership → (class : ℕ) → Instr
member_instr membership.Is class = i.Is (pos class)
member_instr membership.In class = i.In (pos class)

abbrev pub MemberAt : Source → CodeOf → Membership → (class : Option ℕ) → (A : ℕ → ℕ → Type 0) → ℕ → ℕ → Type 0
MemberAt s code member None A p q = ⊥
MemberAt s code member (Some k) A p q = (x : ℕ) × A p x × Is code (member_instr member (class_number s code k)) x q

abbrev pub QuaAt : Source → CodeOf → (line : ℕ) → (class : Option ℕ) → (A : ℕ → ℕ → Type 0) → ℕ → ℕ → Type 0
QuaAt s code line None A p q = ⊥
QuaAt s code line (Some k) A p q = (x : ℕ) × A p x × At code (i.Qua (pos (class_number s code k))) line x q

-- `new`: the link to the instance in which the class is declared, the actuals, which stand on one value more
pub record NewAt (s : Source) (code : CodeOf) (site : Site) (n line : ℕ) (d : DeclNo) (text : ℕ) (es : Expressions) (Actuals : ℕ → ℕ → Type 0) (p q : ℕ) : Type 0 where
  pub x : ℕ
  pub y : ℕ
  pub link : Pushes code site n (i.Link (pos (level_of s (block_of s d)))) p x
  pub inside : Inside s.tables site.text (block_of s d)
  pub actuals : Actuals x y
  pub new : At code (i.New (pos (class_number s code text)) (pos (operands es))) line y q

-- a new object of `process` itself, which keeps the token of that identifier
pub record OriginAt (s : Source) (code : CodeOf) (site : Site) (n line token text : ℕ) (New : ℕ → ℕ → Type 0) (p q : ℕ) : Type 0 where
  pub x : ℕ
  pub y : ℕ
  pub z : ℕ
  pub w : ℕ
  pub new : New p x
  pub again : Pushes code site (suc n) i.Dup x y
  pub address : At code (i.AddrR (pos (slot_of s code text Origin)) (pos 0)) line y z
  pub token_pushed : Pushes code site (suc (suc n)) (i.Int (pos token)) z w
  pub put : Is code i.Put w q
  pub within : HasCell s text Origin

abbrev pub OriginIfAt : Source → CodeOf → Site → (n line token text : ℕ) → (is_process : Bool) → (New : ℕ → ℕ → Type 0) → ℕ → ℕ → Type 0
OriginIfAt s code site n line token text true New p q = OriginAt s code site n line token text New p q
OriginIfAt s code site n line token text false New p q = New p q

abbrev pub GenerationAt : Source → CodeOf → Site → ℕ → (line token : ℕ) → Option Denotation → (class : Option ℕ) → Expressions → (Actuals : ℕ → ℕ → Type 0) → ℕ → ℕ → Type 0
GenerationAt s code site n line token (Some (denotation.Declared d)) (Some k) es Actuals p q = OriginIfAt s code site n line token k (is_process_itself s k) (NewAt s code site n line d k es Actuals) p q
GenerationAt s code site n line token _ _ es Actuals p q = ⊥

-- ---- attributes of texts, behind a dot

-- the address of the cell of a declaration, with the class of a reference there
pub record CellPlaceAt (s : Source) (code : CodeOf) (site : Site) (n class : ℕ) (d : DeclNo) (p q : ℕ) : Type 0 where
  pub address : Pushes code site n (i.Addr (pos (level_of s (block_of s d))) (pos (slot_of s code (block_of s d) (Declared d.0))) (pos class)) p q
  pub inside : Inside s.tables site.text (block_of s d)
  pub within : HasCell s (block_of s d) (Declared d.0)

abbrev pub VariablePlaceAt : Source → CodeOf → Site → (n class : ℕ) → DeclNo → Expressions → ℕ → ℕ → Type 0
VariablePlaceAt s code site n class d NoMore p q = CellPlaceAt s code site n class d p q
VariablePlaceAt s code site n class d (Then e es) p q = ⊥

abbrev pub ArrayPlaceAt : Source → CodeOf → Site → (n line class : ℕ) → DeclNo → Expressions → (Subscripts : ℕ → ℕ → Type 0) → ℕ → ℕ → Type 0
ArrayPlaceAt s code site n line class d NoMore Subscripts p q = ⊥
ArrayPlaceAt s code site n line class d (Then e es) Subscripts p q = ElementAt s code site n line class d (Then e es) Subscripts p q

abbrev pub NamedArrayPlaceAt : Source → CodeOf → Site → (n line class : ℕ) → DeclNo → Expressions → (Subscripts : ℕ → ℕ → Type 0) → ℕ → ℕ → Type 0
NamedArrayPlaceAt s code site n line class d NoMore Subscripts p q = ⊥
NamedArrayPlaceAt s code site n line class d (Then e es) Subscripts p q = NamedElementAt s code site n line class d (Then e es) Subscripts p q

abbrev pub FormalPlaceAt : Source → CodeOf → Site → (n line class : ℕ) → DeclNo → Mode → FormalKind → Expressions → (Subscripts : ℕ → ℕ → Type 0) → ℕ → ℕ → Type 0
FormalPlaceAt s code site n line class d mode.ByName shape.Simple es Subscripts p q = ByNameAt s code site n d es (ForPlace true line) p q
FormalPlaceAt s code site n line class d mode.ByName shape.Array es Subscripts p q = NamedArrayPlaceAt s code site n line class d es Subscripts p q
FormalPlaceAt s code site n line class d mode shape.Simple es Subscripts p q = VariablePlaceAt s code site n class d es p q
FormalPlaceAt s code site n line class d mode shape.Array es Subscripts p q = ArrayPlaceAt s code site n line class d es Subscripts p q
FormalPlaceAt s code site n line class d mode shape.Procedure es Subscripts p q = ⊥

abbrev pub DeclaredPlaceAt : Source → CodeOf → Site → (n line class : ℕ) → DeclNo → Option Entry → Expressions → (Subscripts : ℕ → ℕ → Type 0) → ℕ → ℕ → Type 0
DeclaredPlaceAt s code site n line class d (Some (entry.Variable type)) es Subscripts p q = VariablePlaceAt s code site n class d es p q
DeclaredPlaceAt s code site n line class d (Some (entry.Array element dimensions)) es Subscripts p q = ArrayPlaceAt s code site n line class d es Subscripts p q
DeclaredPlaceAt s code site n line class d (Some (entry.Formal f)) es Subscripts p q = FormalPlaceAt s code site n line class d f.mode f.kind es Subscripts p q
DeclaredPlaceAt s code site n line class d _ es Subscripts p q = ⊥

-- where the variable lies that an identifier with these subscripts is, or else the image of sysout
abbrev pub NamedPlaceAt : Source → CodeOf → Site → (n line class : ℕ) → Option Denotation → Expressions → (Subscripts : ℕ → ℕ → Type 0) → ℕ → ℕ → Type 0
NamedPlaceAt s code site n line class (Some (denotation.Declared d)) es Subscripts p q = DeclaredPlaceAt s code site n line class d (entry_of s.tables d) es Subscripts p q
NamedPlaceAt s code site n line class _ es Subscripts p q = Pushes code site n (i.AddrImg (pos sysout)) p q

-- the image of a stream, or what else is in front of the dot
abbrev pub StreamPlaceAt : CodeOf → Site → ℕ → (stream : Option ℕ) → (Other : ℕ → ℕ → Type 0) → ℕ → ℕ → Type 0
StreamPlaceAt code site n None Other p q = Other p q
StreamPlaceAt code site n (Some image) Other p q = Pushes code site n (i.AddrImg (pos image)) p q

-- An attribute that moves the position of a variable gets where that lies, any other the text itself; and so does an actual parameter by name.
abbrev pub ObjectAt : (place : Bool) → (Place Value : ℕ → ℕ → Type 0) → ℕ → ℕ → Type 0
ObjectAt true Place Value p q = Place p q
ObjectAt false Place Value p q = Value p q

abbrev pub AttributeAt : CodeOf → Site → ℕ → (line : ℕ) → Option Standard → (is_variable : Bool) → Expressions → (Place Value Inner : ℕ → ℕ → Type 0) → ℕ → ℕ → Type 0
AttributeAt code site n line None is_variable es Place Value Inner p q = ⊥
AttributeAt code site n line (Some name) is_variable es Place Value Inner p q =
    (x : ℕ) × (y : ℕ) × ObjectAt (moves_position name && is_variable) Place Value p x × Inner x y × StandardIs code site n line name (suc (operands es)) y q

-- Behind sysin or sysout stands a name of its image, or one of the input or the output, which is a procedure without an object.
abbrev pub BehindDotAt : CodeOf → Site → ℕ → (line : ℕ) → (stream : Option ℕ) → Option Standard → (is_variable : Bool) → Expressions → (Place Value Operands Inner : ℕ → ℕ → Type 0) → ℕ → ℕ → Type 0
BehindDotAt code site n line (Some image) name is_variable es Place Value Operands Inner p q = StandardAt code site n line image name es Operands Inner p q
BehindDotAt code site n line None name is_variable es Place Value Operands Inner p q = AttributeAt code site n line name is_variable es Place Value Inner p q

-- An attribute of a text or a stream, or of an object: Value is what is in front of the dot.
abbrev pub DotAt : Source → CodeOf → Site → ℕ → (line : ℕ) → Option Denotation → (stream : Option ℕ) → (is_variable : Bool) → Expressions → (Place Value Operands Inner : ℕ → ℕ → Type 0) → (Actuals : Parameters → ℕ → ℕ → Type 0) → ℕ → ℕ → Type 0
DotAt s code site n line None stream is_variable es Place Value Operands Inner Actuals p q = ⊥
DotAt s code site n line (Some (denotation.Standard name)) stream is_variable es Place Value Operands Inner Actuals p q = BehindDotAt code site n line stream (procedure_named name) is_variable es Place Value Operands Inner p q
DotAt s code site n line (Some (denotation.Declared d)) stream is_variable es Place Value Operands Inner Actuals p q = OfObjectAt s code site n line d (entry_of s.tables d) es Value Inner (Actuals (parameters_at s d)) p q

-- ---- actual parameters

-- The code of a thunk, which is gone past, with an operand stack of its own.
pub record PastThunkAt (code : CodeOf) (site : Site) (number : ℕ) (Given : Site → ℕ → ℕ → Type 0) (p q : ℕ) : Type 0 where
  pub x : ℕ
  pub y : ℕ
  pub room : ℕ
  pub over : Is code (i.Jump (pos q)) p x
  pub past : Ahead code p q
  pub there : slice_get code.thunks number ≡ Some (record { entry = x; room = room })
  -- a thunk inside another one has a greater number
  pub later : (t : ℕ) → site.thunk ≡ Some t → t < number
  pub given : Given (record site { room = room; thunk = Some number }) x y
  pub end : Is code i.EndThunk y q

-- An actual parameter by name: its thunk is pushed behind its code.
pub record ThunkAt (code : CodeOf) (site : Site) (n : ℕ) (Given : Site → ℕ → ℕ → Type 0) (p q : ℕ) : Type 0 where
  pub z : ℕ
  pub number : ℕ
  pub past : PastThunkAt code site number Given p z
  pub thunk : Pushes code site n (i.Thunk (pos number)) z q

-- An array and a text by value are copied; an array by reference of a class is kept. `Value` and `Procedure` are what is passed as a value, and
-- as a procedure; `Given` is what a thunk does, for a procedure or for anything else.
abbrev pub ActualAt : CodeOf → Site → (n line : ℕ) → (keeps : Bool) → Mode → FormalKind → (text : Bool) → (Value Procedure : ℕ → ℕ → Type 0) → (Given : (as_procedure : Bool) → Site → ℕ → ℕ → Type 0) → ℕ → ℕ → Type 0
ActualAt code site n line keeps mode.ByValue shape.Array text A P Given p q = (x : ℕ) × A p x × At code i.CopyArr line x q
ActualAt code site n line true mode.ByReference shape.Array text A P Given p q = (x : ℕ) × A p x × Is code i.Keep x q
ActualAt code site n line false mode.ByReference shape.Array text A P Given p q = A p q
ActualAt code site n line keeps mode.ByValue shape.Simple true A P Given p q = (x : ℕ) × A p x × StandardIs code site n line name_of.Copy 1 x q
ActualAt code site n line keeps mode.ByValue shape.Simple false A P Given p q = A p q
ActualAt code site n line keeps mode.ByReference shape.Simple text A P Given p q = A p q
ActualAt code site n line keeps mode.ByName shape.Simple text A P Given p q = ThunkAt code site n (Given false) p q
ActualAt code site n line keeps mode.ByName shape.Array text A P Given p q = ThunkAt code site n (Given false) p q
ActualAt code site n line keeps mode.ByName shape.Procedure text A P Given p q = ThunkAt code site n (Given true) p q
ActualAt code site n line keeps mode.ByValue shape.Procedure text A P Given p q = P p q
ActualAt code site n line keeps mode.ByReference shape.Procedure text A P Given p q = P p q

-- ---- actual parameters of calls that are checked when they are done

-- a thunk, if there is one
abbrev pub ThunkIfAt : (is_there : Bool) → CodeOf → Site → (number : ℕ) → (Given : Site → ℕ → ℕ → Type 0) → ℕ → ℕ → Type 0
ThunkIfAt true code site number Given p q = PastThunkAt code site number Given p q
ThunkIfAt false code site number Given p q = q ≡ p

-- such an actual parameter: what it gives as a value, if it can be one, and as a procedure, if it is one
abbrev pub is_value : Passed → Bool
is_value (PassedProcedure None formals) = false
is_value (PassedProcedure (Some type) zero) = true
is_value (PassedProcedure (Some type) (suc n)) = false
is_value _ = true

abbrev pub is_procedure : Passed → Bool
is_procedure (PassedProcedure type formals) = true
is_procedure _ = false

pub record ParameterAt (code : CodeOf) (site : Site) (n line number : ℕ) (passed : Passed) (Given : (as_procedure : Bool) → Site → ℕ → ℕ → Type 0) (p q : ℕ) : Type 0 where
  pub x : ℕ
  pub y : ℕ
  pub value_thunk : ℕ
  pub procedure_thunk : ℕ
  pub value : ThunkIfAt (is_value passed) code site value_thunk (Given false) p x
  pub procedure : ThunkIfAt (is_procedure passed) code site procedure_thunk (Given true) x y
  pub passes : At code (i.Param (pos number) (pos value_thunk) (pos procedure_thunk)) line y q
  pub fits : n < site.room

-- what the code knows of an actual parameter
abbrev pub type_of : Option SimType → CodeType
type_of None = type.Nothing
type_of (Some t.Integer) = type.Integer
type_of (Some t.Boolean) = type.Boolean
type_of (Some t.Character) = type.Character
type_of (Some t.Text) = type.Text
type_of (Some (t.Ref class)) = type.Reference
type_of (Some t.NoneType) = type.Reference

abbrev pub code_actual : Source → CodeOf → Passed → CodeActual
code_actual s code (PassedArray element) =
    record { code_type = type.Nothing; variable = false; array = type_of element; procedure = false; result_type = type.Nothing; formals = 0; class = class_or_none s code (qualification s element) }
code_actual s code (PassedProcedure result n) =
    record { code_type = type_of result; variable = false; array = type.Nothing; procedure = true; result_type = type_of result; formals = n; class = class_or_none s code (qualification s result) }
code_actual s code (PassedValue given variable) =
    record { code_type = type_of given; variable = variable; array = type.Nothing; procedure = false; result_type = type.Nothing; formals = 0; class = class_or_none s code (qualification s given) }

abbrev pub code_actuals : Source → CodeOf → Expressions → List CodeActual
code_actuals s code NoMore = []
code_actuals s code (Then e es) = code_actual s code (passed s e) ∷ code_actuals s code es

-- the procedure on top is held against a list
pub record CheckAt (s : Source) (code : CodeOf) (line : ℕ) (es : Expressions) (p q : ℕ) : Type 0 where
  pub number : ℕ
  pub listed : slice_get code.actual_lists number ≡ Some (code_actuals s code es)
  pub check : At code (i.Check (pos number)) line p q

-- ---- what is given by name

-- What a thunk gives: where a variable lies, or the value of any other expression. The class of a reference there is tested, but not that of a
-- formal parameter by name, which is handed on as it is.
abbrev pub class_unless : Source → CodeOf → Option DeclNo → (class : Option ℕ) → ℕ
class_unless s code (Some d) class = 0
class_unless s code None class = class_or_none s code class

abbrev pub class_given : Source → CodeOf → Expression → ℕ
class_given s code e = class_unless s code (by_name s e) (qualification s (type_at s (typed_token e)))

-- The reference on top of n values is put into a temp of expressions, and so held against a class.
pub record HeldAt (s : Source) (code : CodeOf) (site : Site) (n line class p q : ℕ) : Type 0 where
  pub x : ℕ
  pub y : ℕ
  pub z : ℕ
  pub within : site.temps < site.size
  pub address : Pushes code site (suc n) (i.Addr (pos (level_of s site.text)) (pos site.temps) (pos class)) p x
  pub under : Is code i.Swap x y
  pub put : At code i.Put line y z
  pub again : Pushes code site n (i.Load (pos (level_of s site.text)) (pos site.temps)) z q

-- a reference for a formal parameter with a class
abbrev pub FittingAt : Source → CodeOf → Site → (n line : ℕ) → (class : Option ℕ) → (A : ℕ → ℕ → Type 0) → ℕ → ℕ → Type 0
FittingAt s code site n line None A p q = A p q
FittingAt s code site n line (Some k) A p q = (x : ℕ) × A p x × HeldAt s code site n line (class_number s code k) x q

-- what a thunk gives, for a procedure or for anything else
abbrev pub GivenBy : (as_procedure : Bool) → (Procedure Other : ℕ → ℕ → Type 0) → ℕ → ℕ → Type 0
GivenBy true Procedure Other p q = Procedure p q
GivenBy false Procedure Other p q = Other p q

-- actual parameters for formal ones that are listed, or that are checked when the call is done
abbrev pub ActualsBy : (Passed : List Formal → ℕ → ℕ → Type 0) → (Checks : ℕ → ℕ → Type 0) → Parameters → ℕ → ℕ → Type 0
ActualsBy Passed Checks (Listed fs) p q = Passed fs p q
ActualsBy Passed Checks Checked p q = Checks p q

-- ---- expressions

abbrev mutual
  pub ExprAt : Source → CodeOf → Site → ℕ → Expression → ℕ → ℕ → Type 0
  ExprAt s code site n (syntax.If token c a b) p q = IfAt code (ExprAt s code site n c) (ExprAt s code site n a) (ExprAt s code site n b) p q
  ExprAt s code site n (syntax.Binary op token a b) p q =
      TwoAt s code site n (sort_of (is_text s a) op) (line_at s token) (ExprAt s code site n a) (ExprAt s code site n b) (ExprAt s code site (suc n) b) p q
  ExprAt s code site n (syntax.Not token a) p q = OneAt code monadic.Not (line_at s token) (ExprAt s code site n a) p q
  ExprAt s code site n (syntax.Signed sign token a) p q = SignedAt code sign (line_at s token) (ExprAt s code site n a) p q
  ExprAt s code site n (syntax.Member member token a class) p q = MemberAt s code member (class_at s class.token.0) (ExprAt s code site n a) p q
  ExprAt s code site n (syntax.Dot token a name es) p q =
      (gives s (denoted s name.token.0) ≡ true) × DotAt s code site n (line_at s name.token.0) (denoted s name.token.0) (stream_of s a) (is_variable s a || is_attribute s a) es
      (PlaceAt s code site n 0 a) (ExprAt s code site n a) (ExprsAt s code site n es) (ExprsAt s code site (suc n) es) (λ formals. ActualsBy (λ fs. PassedAt s code site (suc n) (line_at s name.token.0) false es fs) (λ p q. (x : ℕ) × CheckAt s code (line_at s name.token.0) es p x × ParametersAt s code site (suc n) (line_at s name.token.0) 0 es x q) formals) p q
  ExprAt s code site n (syntax.Qua token a class) p q = QuaAt s code (line_at s token) (class_at s class.token.0) (ExprAt s code site n a) p q
  ExprAt s code site n (syntax.Constant literal token) p q = LiteralAt s code site n token literal p q
  ExprAt s code site n (syntax.Named name es) p q =
      (gives s (denoted s name.token.0) ≡ true) × ThroughAt (connection_at s name.token.0)
      (λ k. ConnectedNameAt s code site n (line_at s name.token.0) k (denoted s name.token.0) es (ExprsAt s code site (suc n) es) (λ formals. ActualsBy (λ fs. PassedAt s code site (suc n) (line_at s name.token.0) false es fs) (λ p q. (x : ℕ) × CheckAt s code (line_at s name.token.0) es p x × ParametersAt s code site (suc n) (line_at s name.token.0) 0 es x q) formals))
      (OwnAt (own_attribute s name.token.0)
      (λ d. OwnNameAt s code site n (line_at s name.token.0) (found_at s name.token.0) (entry_of s.tables d) es (PassedAt s code site (suc n) (line_at s name.token.0) false es (formals_at s d))
      (OfObjectAt s code site n (line_at s name.token.0) d (entry_of s.tables d) es (ThisFoundAt s code site n (found_at s name.token.0)) (ExprsAt s code site (suc n) es) (ActualsBy (λ fs. PassedAt s code site (suc n) (line_at s name.token.0) false es fs) (λ p q. (x : ℕ) × CheckAt s code (line_at s name.token.0) es p x × ParametersAt s code site (suc n) (line_at s name.token.0) 0 es x q) (parameters_at s d))))
      (NamedAt s code site n (line_at s name.token.0) (denoted s name.token.0) es (ExprsAt s code site n es) (ExprsAt s code site (suc n) es) (λ formals. ActualsBy (λ fs. PassedAt s code site (suc n) (line_at s name.token.0) false es fs) (λ p q. (x : ℕ) × CheckAt s code (line_at s name.token.0) es p x × ParametersAt s code site (suc n) (line_at s name.token.0) 0 es x q) formals))) p q
  ExprAt s code site n (syntax.This token class) p q = ThisFoundAt s code site n (found_at s token) p q
  ExprAt s code site n (syntax.New token class es) p q =
      GenerationAt s code site n (line_at s token) class.token.0 (denoted s class.token.0) (class_at s class.token.0) es (PassedAt s code site (suc n) (line_at s class.token.0) true es (class_parameters s (class_at s class.token.0))) p q
  ExprAt s code site n (syntax.Parentheses token a) p q = ExprAt s code site n a p q

  -- where a variable lies, with the class of a reference there
  pub PlaceAt : Source → CodeOf → Site → (n class : ℕ) → Expression → ℕ → ℕ → Type 0
  PlaceAt s code site n c (syntax.Named name es) p q =
      ThroughAt (connection_at s name.token.0) (λ k. PlaceBehindAt s code (line_at s name.token.0) c (denoted s name.token.0) es (ConnectedAt s code site n k) (ExprsAt s code site (suc n) es))
      (NamedPlaceAt s code site n (line_at s name.token.0) c (denoted s name.token.0) es (ExprsAt s code site (suc n) es)) p q
  PlaceAt s code site n c (syntax.Dot token a name es) p q =
      StreamPlaceAt code site n (stream_of s a) (PlaceBehindAt s code (line_at s name.token.0) c (denoted s name.token.0) es (ExprAt s code site n a) (ExprsAt s code site (suc n) es)) p q
  PlaceAt s code site n c _ p q = ⊥

  -- one value after the other
  pub ExprsAt : Source → CodeOf → Site → ℕ → Expressions → ℕ → ℕ → Type 0
  ExprsAt s code site n NoMore p q = q ≡ p
  ExprsAt s code site n (Then e es) p q = (x : ℕ) × ExprAt s code site n e p x × ExprsAt s code site (suc n) es x q

  -- a procedure, as a value
  pub ProcedureAt : Source → CodeOf → Site → ℕ → Expression → ℕ → ℕ → Type 0
  ProcedureAt s code site n (syntax.Named name NoMore) p q =
      ThroughAt (connection_at s name.token.0) (λ k. ProcedureBehindAt s code (line_at s name.token.0) (denoted s name.token.0) (ConnectedAt s code site n k)) (ProcedureNamedAt s code site n (line_at s name.token.0) (denoted s name.token.0)) p q
  ProcedureAt s code site n (syntax.Dot token a name NoMore) p q = ProcedureBehindAt s code (line_at s name.token.0) (denoted s name.token.0) (ExprAt s code site n a) p q
  ProcedureAt s code site n _ p q = ⊥

  -- actual parameters, one for each formal; those of a class keep the arrays that they pass by reference
  pub PassedAt : Source → CodeOf → Site → ℕ → (line : ℕ) → (keeps : Bool) → Expressions → List Formal → ℕ → ℕ → Type 0
  PassedAt s code site n line keeps NoMore [] p q = q ≡ p
  PassedAt s code site n line keeps NoMore (f ∷ fs) p q = ⊥
  PassedAt s code site n line keeps (Then e es) [] p q = ⊥
  PassedAt s code site n line keeps (Then e es) (f ∷ fs) p q =
      (x : ℕ) × FittingAt s code site n line (class_passed s f) (ActualAt code site n line keeps f.mode f.kind (is_text_type f.ty) (ExprAt s code site n e) (ProcedureAt s code site n e)
      (λ as_procedure inner. GivenBy as_procedure (ProcedureAt s code inner 0 e) (ObjectAt (is_placed s e) (PlaceAt s code inner 0 (class_given s code e) e) (ExprAt s code inner 0 e)))) p x × PassedAt s code site (suc n) line keeps es fs x q

  -- actual parameters of a call that is checked when it is done, from a number on
  pub ParametersAt : Source → CodeOf → Site → ℕ → (line number : ℕ) → Expressions → ℕ → ℕ → Type 0
  ParametersAt s code site n line number NoMore p q = q ≡ p
  ParametersAt s code site n line number (Then e es) p q =
      (x : ℕ) × ParameterAt code site n line number (passed s e)
      (λ as_procedure inner. GivenBy as_procedure (ProcedureAt s code inner 0 e) (ObjectAt (is_placed s e) (PlaceAt s code inner 0 (class_given s code e) e) (ExprAt s code inner 0 e))) p x × ParametersAt s code site (suc n) line (suc number) es x q

abbrev pub ActualsAt : Source → CodeOf → Site → ℕ → (line : ℕ) → (keeps : Bool) → Expressions → Parameters → ℕ → ℕ → Type 0
ActualsAt s code site n line keeps es fs p q = ActualsBy (λ fs. PassedAt s code site n line keeps es fs) (λ p q. (x : ℕ) × CheckAt s code line es p x × ParametersAt s code site n line 0 es x q) fs p q

-- ---- where a reference lies, with its qualification

-- the address of the result of a procedure around
pub record ResultPlaceAt (s : Source) (code : CodeOf) (site : Site) (n class text p q : ℕ) : Type 0 where
  pub address : Pushes code site n (i.Addr (pos (level_of s text)) (pos (slot_of s code text Result)) (pos class)) p q
  pub inside : Inside s.tables site.text text
  pub within : HasCell s text Result

abbrev pub PlaceOrResultAt : Source → CodeOf → Site → (n class : ℕ) → (own : Option ℕ) → (Place : ℕ → ℕ → Type 0) → ℕ → ℕ → Type 0
PlaceOrResultAt s code site n class None Place p q = Place p q
PlaceOrResultAt s code site n class (Some text) Place p q = ResultPlaceAt s code site n class text p q

abbrev pub QualifiedPlaceAt : Source → CodeOf → Site → ℕ → (class : Option ℕ) → Expression → ℕ → ℕ → Type 0
QualifiedPlaceAt s code site n None e p q = ⊥
QualifiedPlaceAt s code site n (Some k) e p q = PlaceOrResultAt s code site n (class_number s code k) (result_meant s e) (PlaceAt s code site n (class_number s code k) e) p q

-- a variable, an element, an attribute or the result of a procedure
abbrev pub ReferencePlaceAt : Source → CodeOf → Site → ℕ → Expression → ℕ → ℕ → Type 0
ReferencePlaceAt s code site n e p q = QualifiedPlaceAt s code site n (qualification s (left_type s e)) e p q
