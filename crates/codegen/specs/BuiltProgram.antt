-- Which programs are built: all whose expressions and left sides are built.
use Rattle.std.specs.Prelude.{◌≡◌, ◌<◌, ⊤, ℕ, zero, suc, Bool, true, false, ◌||◌, List, [], ◌∷◌, length, Option, Some, None}
use Rattle.sim_base.specs.declared.numbering.DeclNo.{DeclNo}
use Rattle.sim_scope.specs.Assignments.{last_value, left_sides}
use Rattle.sim_scope.specs.Access.{encloser}
use Rattle.sim_scope.specs.Scopes.{entry_of}
use Rattle.sim_scope.specs.Source.{Source, block_around, block_of, denoted, found_at, line_at}
use Rattle.sim_tree.specs.declared.expr.Identifier.{Identifier}
use Rattle.sim_tree.specs.Syntax.{Also, Arms, Arrayed, Arrays, Begin, Block, BoundPair, Declarations, DeclareClass, DeclareProcedure, Element, Expression, Expressions, NoArm, NoDeclaration, NoMore, NoStatement, Schedule, Statement, Statements, Then, Variables, When, With}
use Rattle.sim_tree.specs.Syntax as syntax
use Rattle.sim_code.specs.Transfers.{Calling, Detaching, Resuming, Transfer}
use Rattle.sim_meaning.specs.Attributes.{cell_of_connection, connection_at, own_attribute, transfer_at}
use Rattle.sim_meaning.specs.Closing.{class_parameters, formals_at, is_attribute, is_text, is_variable, stream_of}
use Rattle.sim_meaning.specs.Levels.{class_at, writes_inner}
use Rattle.sim_meaning.specs.Statements.{begin_of, leaves, simulation_around}
use Rattle.sim_meaning.specs.Pending.{Connection, Declared, Result}
use Rattle.sim_meaning.specs.Texts.{BlockText, ClassText, ConnectionText, PrefixedText, ProcedureText, StandardText, Text, declared_at, program_texts, text}
use Rattle.codegen_expr.specs.Built.{ActualsBuilt, AreBuilt, CellBuilt, ClassBuilt, ConnectedNameBuilt, DotBuilt, IsBuilt, KeyBuilt, NamedBuilt, OfObjectBuilt, OwnBuilt, OwnNameBuilt, StandsIn, PlaceBuilt, ReferenceBuilt, ThisFoundBuilt, ThroughBuilt, is_there, slot_in}
use Rattle.codegen_expr.specs.CodeExpr.{Listed, parameters_at, gives}
use Rattle.codegen_expr.specs.Sites.{Varies, frame_text, prefix_of}
use Rattle.codegen.specs.Agrees.{Agrees, is_prefixed}
use Rattle.codegen.specs.CodeFor.{OfCell, OfPlace, OfReference, Variable, assigned_by, variable_of}
use Rattle.codegen.specs.CodeLeft.{AtAddress, AtAttribute, InCell, NoPlace, Stored, ToNamed, ToNamedReference, ToNamedText, ToReference, ToResult, ToText, each_stored}
use Rattle.codegen.specs.CodeStm.{inner_of}

-- ---- assignments

-- a left side: a cell of a text around, an element of an array in such a cell, an attribute of an object, a reference, a text, or a formal parameter by name
abbrev pub LeftBuilt : Source → (text : ℕ) → Stored → Type 0
LeftBuilt s text (InCell home key) = KeyBuilt s text home key
LeftBuilt s text (AtAddress d es line) = CellBuilt s text d × AreBuilt s text es
LeftBuilt s text (AtAttribute e) = PlaceBuilt s text e
LeftBuilt s text (ToReference e line) = ReferenceBuilt s text e
LeftBuilt s text (ToText e line) = IsBuilt s text e
LeftBuilt s text (ToResult home line) = KeyBuilt s text home Result
LeftBuilt s text (ToNamed d line) = CellBuilt s text d
LeftBuilt s text (ToNamedText d line) = CellBuilt s text d
LeftBuilt s text (ToNamedReference d class line) = CellBuilt s text d
LeftBuilt s text NoPlace = ⊥

-- left sides, each of which is built
abbrev pub LeftsBuilt : Source → (text : ℕ) → List Stored → Type 0
LeftsBuilt s text [] = ⊤
LeftsBuilt s text (t ∷ ts) = LeftBuilt s text t × LeftsBuilt s text ts

-- an assignment to one left side or to several
abbrev pub AssignBuilt : Source → (text : ℕ) → List Stored → Expression → Type 0
AssignBuilt s text [] e = ⊥
AssignBuilt s text (t ∷ []) e = LeftBuilt s text t × IsBuilt s text e
AssignBuilt s text (t ∷ u ∷ ts) e = LeftsBuilt s text (t ∷ u ∷ ts) × IsBuilt s text e

-- ---- `for` lists

-- a step element is over a variable that takes values
abbrev pub StepsBuilt : Variable → Type 0
StepsBuilt (OfCell home key None) = ⊤
StepsBuilt (OfPlace e None) = ⊤
StepsBuilt _ = ⊥

abbrev pub ElementBuilt : Source → (text : ℕ) → Variable → Element → Type 0
ElementBuilt s text v (syntax.Once e) = IsBuilt s text e
ElementBuilt s text v (syntax.While e token c) = IsBuilt s text e × IsBuilt s text c
ElementBuilt s text v (syntax.Step start token step limit) = StepsBuilt v × IsBuilt s text start × IsBuilt s text step × IsBuilt s text limit

abbrev pub ElementsBuilt : Source → (text : ℕ) → Variable → List Element → Type 0
ElementsBuilt s text v [] = ⊤
ElementsBuilt s text v (e ∷ es) = ElementBuilt s text v e × ElementsBuilt s text v es

-- a list of one element or more
abbrev pub ListBuilt : Source → (text : ℕ) → Variable → List Element → (Body : Type 0) → Type 0
ListBuilt s text v [] Body = ⊥
ListBuilt s text v (e ∷ []) Body = ElementBuilt s text v e × Body
ListBuilt s text v (e ∷ f ∷ es) Body = ElementsBuilt s text v (e ∷ f ∷ es) × Body

abbrev pub VariableBuilt : Source → (text : ℕ) → Variable → Type 0
VariableBuilt s text (OfCell home key assigned) = KeyBuilt s text home key
VariableBuilt s text (OfPlace e assigned) = PlaceBuilt s text e
VariableBuilt s text (OfReference e line) = ReferenceBuilt s text e

abbrev pub ForBuilt : Source → (text : ℕ) → Option Variable → List Element → (Body : Type 0) → Type 0
ForBuilt s text None es Body = ⊥
ForBuilt s text (Some v) es Body = VariableBuilt s text v × ListBuilt s text v es Body

-- ---- statements

-- a sub-block is entered from the text in which the tables have it
abbrev pub EnterBuilt : Source → (text : ℕ) → Option ℕ → Type 0
EnterBuilt s text None = ⊥
EnterBuilt s text (Some zero) = ⊥
EnterBuilt s text (Some (suc k)) = encloser s.tables (suc k) ≡ Some text

-- a prefixed block is entered from the text in which the tables have it, with the actuals of all its levels
abbrev pub PrefixBuilt : Source → (text : ℕ) → Expressions → Option ℕ → Type 0
PrefixBuilt s text es None = ⊥
PrefixBuilt s text es (Some zero) = ⊥
PrefixBuilt s text es (Some (suc k)) = (is_prefixed s.tables (suc k) ≡ true) × (encloser s.tables (suc k) ≡ Some text) × ActualsBuilt s text es (Listed (class_parameters s (Some (suc k))))

-- a transfer of control: `detach` has no actual parameter and stands where it is found, `call` and `resume` have one
abbrev pub TransferBuilt : Transfer → Expressions → (Around Operands : Type 0) → Type 0
TransferBuilt Detaching NoMore Around Operands = Around
TransferBuilt Calling (Then e NoMore) Around Operands = Operands
TransferBuilt Resuming (Then e NoMore) Around Operands = Operands
TransferBuilt t es Around Operands = ⊥

abbrev pub OrTransferBuilt : Option Transfer → (Transfers : Transfer → Type 0) → (Other : Type 0) → Type 0
OrTransferBuilt None Transfers Other = Other
OrTransferBuilt (Some t) Transfers Other = Transfers t

-- a call: a transfer of control; an identifier or an attribute, which leaves a value just where its entry or row says so; or `new`
abbrev pub CalledBuilt : Source → (text : ℕ) → Expression → Type 0
CalledBuilt s text (syntax.Named name es) =
    OrTransferBuilt (transfer_at s name.token.0) (λ t. TransferBuilt t es (ThisFoundBuilt s text (found_at s name.token.0)) (AreBuilt s text es))
    ((leaves s (syntax.Named name es) ≡ gives s (denoted s name.token.0)) × ThroughBuilt (connection_at s name.token.0)
    (λ k. ConnectedNameBuilt s text k (denoted s name.token.0) es (AreBuilt s text es) (λ formals. ActualsBuilt s text es formals))
    (OwnBuilt (own_attribute s name.token.0)
    (λ d. OwnNameBuilt s text (found_at s name.token.0) (entry_of s.tables d) es (ActualsBuilt s text es (Listed (formals_at s d)))
    (OfObjectBuilt s d (entry_of s.tables d) es (ThisFoundBuilt s text (found_at s name.token.0)) (AreBuilt s text es) (ActualsBuilt s text es (parameters_at s d))))
    (NamedBuilt s text (denoted s name.token.0) es (AreBuilt s text es) (λ formals. ActualsBuilt s text es formals))))
CalledBuilt s text (syntax.Dot token a name es) =
    OrTransferBuilt (transfer_at s name.token.0) (λ t. TransferBuilt Detaching es (IsBuilt s text a) (AreBuilt s text es))
    ((leaves s (syntax.Dot token a name es) ≡ gives s (denoted s name.token.0)) × DotBuilt s (denoted s name.token.0) (stream_of s a) (is_variable s a || is_attribute s a) es (PlaceBuilt s text a) (IsBuilt s text a) (AreBuilt s text es) (λ formals. ActualsBuilt s text es formals))
CalledBuilt s text (syntax.New token class es) = IsBuilt s text (syntax.New token class es)
CalledBuilt s text _ = ⊥

-- an activation in a simulation, whose block is a text around
abbrev pub OperandBuilt : Source → (text : ℕ) → Schedule → Type 0
OperandBuilt s text syntax.Now = ⊤
OperandBuilt s text (syntax.At token e prior) = IsBuilt s text e
OperandBuilt s text (syntax.Delay token e prior) = IsBuilt s text e
OperandBuilt s text (syntax.Before token e) = IsBuilt s text e
OperandBuilt s text (syntax.After token e) = IsBuilt s text e

abbrev pub ActivatesBuilt : Source → (text : ℕ) → (simulation : Option ℕ) → Expression → Schedule → Type 0
ActivatesBuilt s text None e schedule = ⊥
ActivatesBuilt s text (Some k) e schedule = StandsIn s text k × IsBuilt s text e × OperandBuilt s text schedule

-- the connection that begins at a token stands in the text, whose frames have a cell for it
pub record ConnectionBuilt (s : Source) (around opening connection : ℕ) (Body : ℕ → Type 0) : Type 0 where
  pub is : text s connection ≡ Some ConnectionText
  pub begins : cell_of_connection s connection ≡ Connection opening
  pub stands : encloser s.tables connection ≡ Some around
  pub has : is_there (slot_in s (frame_text s connection) (Connection opening)) ≡ true
  pub body : Body connection

abbrev pub ConnectsBuilt : Source → (text opening : ℕ) → (connection : Option ℕ) → (Body : ℕ → Type 0) → Type 0
ConnectsBuilt s text opening None Body = ⊥
ConnectsBuilt s text opening (Some k) Body = ConnectionBuilt s text opening k Body

abbrev mutual
  pub StatementBuilt : Source → (text : ℕ) → Statement → Type 0
  StatementBuilt s text (syntax.Empty token) = ⊤
  StatementBuilt s text (syntax.Compound b) = BlockBuilt s text b
  StatementBuilt s text (syntax.Call e) = CalledBuilt s text e
  StatementBuilt s text (syntax.Assign left rs) = AssignBuilt s text (each_stored s (left_sides left rs)) (last_value left rs)
  StatementBuilt s text (syntax.Choose token c a b) = IsBuilt s text c × StatementBuilt s text a × StatementsBuilt s text b
  StatementBuilt s text (syntax.Repeat token c a) = IsBuilt s text c × StatementBuilt s text a
  StatementBuilt s text (syntax.For token x sign assign es a) = ForBuilt s text (variable_of s (line_at s assign) (syntax.Named x NoMore) (assigned_by (is_text s (syntax.Named x NoMore)) sign (line_at s assign))) es (StatementBuilt s text a)
  StatementBuilt s text (syntax.Prefixed class es b) = PrefixBuilt s text es (block_around s (begin_of b))
  StatementBuilt s text (syntax.Inspect token e opening a end other) = IsBuilt s text e × ConnectsBuilt s text opening (block_around s opening) (λ k. StatementBuilt s k a) × StatementsBuilt s text other
  StatementBuilt s text (syntax.InspectWhen token e arms other) = IsBuilt s text e × ArmsBuilt s text arms × StatementsBuilt s text other
  StatementBuilt s text (syntax.Activate token word e schedule) = ActivatesBuilt s text (simulation_around s token) e schedule
  StatementBuilt s text _ = ⊥

  pub StatementsBuilt : Source → (text : ℕ) → Statements → Type 0
  StatementsBuilt s text NoStatement = ⊤
  StatementsBuilt s text (Also a more) = StatementBuilt s text a × StatementsBuilt s text more

  pub ArmsBuilt : Source → (text : ℕ) → Arms → Type 0
  ArmsBuilt s text NoArm = ⊤
  ArmsBuilt s text (When token class opening a end more) = ClassBuilt (class_at s class.token.0) × ConnectsBuilt s text opening (block_around s opening) (λ k. StatementBuilt s k a) × ArmsBuilt s text more

  -- what is in a sub-block is built as a text of its own
  pub BlockBuilt : Source → (text : ℕ) → Block → Type 0
  BlockBuilt s text (Begin token NoDeclaration ss end) = StatementsBuilt s text ss
  BlockBuilt s text (Begin token (With d ds) ss end) = EnterBuilt s text (block_around s token)

-- the statements of a class: `inner` is one of these, or none is written
abbrev pub InnerOrBuilt : Source → (text : ℕ) → (token : Option ℕ) → Statement → (more : Statements) → (More : Type 0) → Type 0
InnerOrBuilt s text (Some token) a more More = (block_around s token ≡ Some text) × StatementsBuilt s text more
InnerOrBuilt s text None a more More = StatementBuilt s text a × More

abbrev pub WithInnerBuilt : Source → (text : ℕ) → Statements → Type 0
WithInnerBuilt s text NoStatement = ⊥
WithInnerBuilt s text (Also a more) = InnerOrBuilt s text (inner_of a) a more (WithInnerBuilt s text more)

abbrev pub LevelBuilt : Source → (text : ℕ) → (written : Bool) → Statements → Type 0
LevelBuilt s text true ss = WithInnerBuilt s text ss
LevelBuilt s text false ss = StatementsBuilt s text ss

-- ---- arrays

abbrev pub BoundsBuilt : Source → (text : ℕ) → List BoundPair → Type 0
BoundsBuilt s text [] = ⊤
BoundsBuilt s text (b ∷ bs) = IsBuilt s text b.lower × IsBuilt s text b.upper × BoundsBuilt s text bs

-- an array is declared in the text, whose frames have a cell for it
abbrev pub KeptBuilt : Source → (text : ℕ) → Option DeclNo → Type 0
KeptBuilt s text None = ⊥
KeptBuilt s text (Some d) = (block_of s d ≡ text) × Varies s d × (is_there (slot_in s text (Declared d.0)) ≡ true)

abbrev pub NamesBuilt : Source → (text : ℕ) → List Identifier → Type 0
NamesBuilt s text [] = ⊤
NamesBuilt s text (x ∷ xs) = KeptBuilt s text (declared_at s x.token.0) × NamesBuilt s text xs

-- arrays with the same bounds, at least one, and at least one dimension
abbrev pub MadeBuilt : Source → (text : ℕ) → (dimensions : ℕ) → List Identifier → Type 0
MadeBuilt s text n [] = ⊥
MadeBuilt s text n (x ∷ xs) = (0 < n) × NamesBuilt s text (x ∷ xs)

abbrev pub SegmentsBuilt : Source → (text : ℕ) → List Arrayed → Type 0
SegmentsBuilt s text [] = ⊤
SegmentsBuilt s text (a ∷ more) = BoundsBuilt s text a.bounds × MadeBuilt s text (length a.bounds) a.names × SegmentsBuilt s text more

abbrev pub ArraysBuilt : Source → (text : ℕ) → Declarations → Type 0
ArraysBuilt s text NoDeclaration = ⊤
ArraysBuilt s text (With (Variables type vs) ds) = ArraysBuilt s text ds
ArraysBuilt s text (With (Arrays type token segments) ds) = SegmentsBuilt s text segments × ArraysBuilt s text ds
ArraysBuilt s text (With (DeclareProcedure result token h a end) ds) = ArraysBuilt s text ds
ArraysBuilt s text (With (DeclareClass prefix token h interface a end) ds) = ArraysBuilt s text ds

-- ---- programs

-- a prefix of the program itself is `simset` or `simulation`, which gives no level
abbrev pub OnlyLevel : Source → Type 0
OnlyLevel s = prefix_of s.tables 0 ≡ None

abbrev pub TextBuilt : Source → (text : ℕ) → Text → Type 0
TextBuilt s k (BlockText begin ds ss) = ArraysBuilt s k ds × StatementsBuilt s k ss
TextBuilt s k (ProcedureText result h a) = StatementBuilt s k a
TextBuilt s zero (ClassText prefix h ds ss) = ⊥
TextBuilt s (suc k) (ClassText prefix h ds ss) = ArraysBuilt s (suc k) ds × LevelBuilt s (suc k) (writes_inner s (suc k)) ss
TextBuilt s zero (PrefixedText class arguments ds ss) = OnlyLevel s × ArraysBuilt s zero ds × StatementsBuilt s zero ss
TextBuilt s (suc k) (PrefixedText class arguments ds ss) = ArraysBuilt s (suc k) ds × StatementsBuilt s (suc k) ss
TextBuilt s k ConnectionText = ⊤
TextBuilt s zero (StandardText which) = ⊥
TextBuilt s (suc k) (StandardText which) = ⊤

-- the texts of a program in their order
unfoldable pub texts_of : Source → List Text
texts_of s = program_texts s.program.prefix s.program.block

-- texts one after the other, the first of which has this number
abbrev pub TextsBuilt : Source → (number : ℕ) → List Text → Type 0
TextsBuilt s k [] = ⊤
TextsBuilt s k (x ∷ xs) = TextBuilt s k x × TextsBuilt s (suc k) xs

-- Each text is built, and the tables agree.
pub record ProgramBuilt (s : Source) : Type 0 where
  pub texts : TextsBuilt s 0 (texts_of s)
  pub agrees : Agrees s
