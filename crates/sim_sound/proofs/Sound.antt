-- Which terms and operators are fine in an instance.
use Rattle.std.proofs.Common.{◌≡◌, ℕ, zero, suc, Bool, true, false, List, [], ◌∷◌, ◌++◌, length, Option, Some, None}
use Rattle.std.specs.Prelude.{◌*◌, ◌+◌}
use Rattle.sim_base.specs.declared.numbering.DeclNo.{DeclNo}
use Rattle.sim_scope.specs.declared.types.Formal.{Formal}
use Rattle.sim_scope.specs.declared.types.FormalKind.{FormalKind}
use Rattle.sim_scope.specs.declared.types.FormalKind.TheVariants as shape
use Rattle.sim_scope.specs.declared.types.Mode.{Mode}
use Rattle.sim_scope.specs.declared.types.Mode.TheVariants as mode
use Rattle.sim_scope.specs.declared.types.Entry.TheVariants as entry
use Rattle.sim_scope.specs.declared.types.SimType.{SimType}
use Rattle.sim_scope.specs.declared.types.StandardClass.{StandardClass}
use Rattle.sim_scope.specs.declared.types.StandardClass.TheVariants as standard
use Rattle.sim_scope.specs.Access.{encloser}
use Rattle.sim_scope.specs.Levels.{base, has_level, is_for_prefixing, is_simulation_block}
use Rattle.sim_scope.specs.Scopes.{entry_of}
use Rattle.sim_scope.specs.Source.{Source, block_of, type_at}
use Rattle.sim_tree.specs.declared.expr.Identifier.{Identifier}
use Rattle.sim_tree.specs.Syntax.{Declarations, Expression, Expressions, NoMore, Statements, Then}
use Rattle.sim_values.specs.declared.kind.Kind.{Kind}
use Rattle.sim_values.specs.declared.kind.Kind.TheVariants as kind
use Rattle.sim_values.specs.declared.operators.Monadic.{Monadic}
use Rattle.sim_values.specs.declared.operators.Monadic.TheVariants as monadic
use Rattle.sim_values.specs.declared.standard.Standard.{Standard}
use Rattle.sim_values.specs.Standard.{operands_of, row_of}
use Rattle.sim_code.specs.Instances.{Instance, live}
use Rattle.sim_code.specs.Scheduling.{AtTime, Beside, Directly, Timing, WithDelay}
use Rattle.sim_code.specs.Sets.{is_set_name}
use Rattle.sim_code.specs.Simulations.{is_process_name, is_simulation_name}
use Rattle.sim_code.specs.Transfers.{Calling, Detaching, Resuming, Transfer}
use Rattle.sim_meaning.specs.Attributes.{attribute_formals, cell_of_connection, has_type, is_connection}
use Rattle.sim_meaning.specs.Closing.{by_name, class_parameters, is_placed, typed_token}
use Rattle.sim_meaning.specs.Entries.{formals_of, numbers_of}
use Rattle.sim_meaning.specs.Levels.{has_levels, is_class, qualification}
use Rattle.sim_meaning.specs.Pending.{ActualOf, CheckedOf, CloseOp, ForParameter, ForPlace, ForValue, MatchOf, OriginOf, OriginOp, ParameterOp, ProcedureOf, ProcedureOp, RemoteProcedureOf, NamedOf, NamedOp, ToNamed, Use, ActivateOp, AgainOp, ArrayOp, AttributeOf, AttributeOp, BackOp, BlockOp, BranchOp, CallOf, CallOp, Cell, ChooseOp, ConnectOp, CopyOf, CopyOp, Declared, DeclareOp, DropOp, Either, ElementOf, ElementOp, ElementsOp, EndProcessOp, EnterOp, Eval, Exec, Execs, FetchOp, FitsOf, FitsOp, Further, Given, GiveOp, Held, IfOp, ImageOf, InnerOp, Instances, JoinOp, Joined, KeepOp, KeptOf, Key, Level, LevelOp, MemberOf, MemberOp, NewOf, NewOp, NoTerm, NotNoneOf, NotNoneOp, ObjectOp, One, OneOp, Op, PastOp, PlaceOf, PrefixedOp, ProcessOf, ProcessOp, QuaOf, QuaOp, QualifiedElementOf, QualifiedElementOp, QualifiedPlaceOf, RaiseOp, ReferOp, RemoteCallOf, SelfOp, SetOf, SetOp, ShareOp, SimulationOf, SimulationOp, StandardOf, StandardOp, StepOp, StepTestOp, StoreOp, SwapOp, Target, Term, Terms, TestOp, ToAddress, ToCell, ToPlace, ToReference, ToReferenceAt, ToText, ToTextAt, ToTextOf, TransferOf, TransferOp, Two, TwoOp, NoMeaning, ValueAt, WhenOp, WhileElementOp, VirtualOp, CheckOp, CallValueOp}
use Rattle.sim_meaning.specs.Steps.{count_of}
use Rattle.sim_meaning.specs.Texts.{BlockText, PrefixedText, StandardText, is_class_free, text}
use Rattle.sim_sound.specs.Expressions.{ActualIs, DoneAlone, ExprIs, ParameterIs, ParametersAre, TwoKinds, some_holds, standard_kind, ProcessClassThere}
use Rattle.sim_sound.specs.Held.{Among, ArrayOf, ByName, Fits, FitsIn, Holds, In, InBound, IsOfKind, Place, Procedure, Refers, ResultFits, Simply, formal_holds, given_by, key_holds, reference_to, result_holds}
use Rattle.sim_sound.specs.Statements.{ArmsAre, ConnectionIs, ElementsAre, StatementIs, StatementsAre}
use Rattle.sim_sound.specs.Typed.{ArraysTyped, Distinct, SetProcedureThere, SimulationProcedureThere, arrays_of_block}
use Rattle.sim_sound.proofs.Prefixes.{LevelOf}
use Rattle.sim_sound.proofs.Values.{Checked, ForFormal, Knows, Kinds, Value, AddressOf, ReferenceAddress, ImageAddress, LinkTo, Copied, Lasting, Component, NewObject, ObjectIn, Whichever, hand_of, held_kinds, AllArrays, keys_in, KeyAmong, StandsFor, Whole, Stands, PlainFine, ValFine, CellTarget, IsImage, ProcedureIn}

-- ---- closed trees

abbrev pub simple : Kind → Option Kinds
simple k = Some (Value (Simply k))

abbrev pub given : Option Kinds → List Kinds → List Kinds
given None ks = ks
given (Some k) ks = k ∷ ks

abbrev pub OneKinds : Monadic → Kind → Type 0
OneKinds monadic.Negate k = k ≡ kind.Integer
OneKinds monadic.Not k = k ≡ kind.Boolean

-- a cell of an instance; one of its own that is made by then; or that of a connection in which one stands
pub data CellIs (s : Source) (m : Instances) (j t : ℕ) (todo : List DeclNo) (e : ℕ) (key : Key) (h : Holds) : Type 0 where
  in_instance : CellTarget s m j e key h → CellIs s m j t todo e key h
  own_made : {d : DeclNo} {u : ℕ} → e ≡ j → key ≡ Declared d.0 → LevelOf s t u → key_holds s u key ≡ Some h → KeyAmong key (keys_in s u (text s u)) → (Among d todo → ⊥) → CellIs s m j t todo e key h
  in_connection : {c : ℕ} → Knows m j e → Whole s m e c → is_connection (text s c) ≡ true → key ≡ cell_of_connection s c → h ≡ reference_to (base s.tables c) → CellIs s m j t todo e key h

-- what the cells of formal parameters hold, and what is in hand for them
abbrev pub holds_of : Source → List Formal → List (Option Holds)
holds_of s [] = []
holds_of s (f ∷ fs) = formal_holds s f.mode f.kind f.ty ∷ holds_of s fs

abbrev pub formal_kinds : Source → List Formal → List (Option Kinds)
formal_kinds s [] = []
formal_kinds s (f ∷ fs) = hand_of s f ∷ formal_kinds s fs

-- of a class: an array by reference is kept
abbrev pub kept_kinds : Mode → FormalKind → Option Kinds → Option Kinds
kept_kinds mode.ByReference shape.Array (Some (Value (ArrayOf h))) = Some (Lasting h)
kept_kinds _ _ k = k

abbrev pub class_kinds : Source → List Formal → List (Option Kinds)
class_kinds s [] = []
class_kinds s (f ∷ fs) = kept_kinds f.mode f.kind (hand_of s f) ∷ class_kinds s fs

-- a call gives what its procedure's result fits
abbrev pub GivesResult : Source → (procedure : ℕ) → Option Kinds → Type 0
GivesResult s k g = (h : Option Holds) × FitsIn s (result_holds s k) h × (held_kinds h ≡ g)

-- a class of which objects are made
pub record ClassIn (s : Source) (k around : ℕ) : Type 0 where
  pub stands_in : encloser s.tables k ≡ Some around
  pub is : is_class (text s k) ≡ true
  pub single : is_for_prefixing s.tables k ≡ false
  pub process : text s k ≡ Some (StandardText standard.Process) → ProcessClassThere s k

-- what stands for a new object of a class
abbrev pub Makes : Source → (class : ℕ) → Kinds → Type 0
Makes s k (Value h) = Fits s (Refers k) h
Makes s k (NewObject c) = (has_level s.tables k c ≡ true) × (is_class (text s k) ≡ true)
Makes s k _ = ⊥

pub record CallFine (s : Source) (m : Instances) (j e k : ℕ) (g : Option Kinds) (Actuals : List (Option Kinds) → Type 0) : Type 0 where
  pub around : ℕ
  pub near : Knows m j e
  pub whole : Whole s m e around
  pub procedure : ProcedureIn s k around
  pub gives : GivesResult s k g
  pub actuals : Actuals (formal_kinds s (formals_of s k))

pub record NewFine (s : Source) (m : Instances) (j e k : ℕ) (g : Option Kinds) (Actuals : List (Option Kinds) → Type 0) : Type 0 where
  pub around : ℕ
  pub near : Knows m j e
  pub whole : Whole s m e around
  pub class : ClassIn s k around
  pub kinds : Kinds
  pub made : Makes s k kinds
  pub gives : Some kinds ≡ g
  pub actuals : Actuals (class_kinds s (class_parameters s (Some k)))

-- what is declared there is no attribute of a main program, which has none but those of its standard classes
abbrev pub NotStandard : Source → (text : ℕ) → Type 0
NotStandard s u = (which : StandardClass) → text s u ≡ Some (StandardText which) → ⊥

-- an attribute that the class of a text declares, of an object of a class that has it among its levels
pub record AttributeFine (s : Source) (text_of : ℕ) (key : Key) (holds : Holds) (class : ℕ) : Type 0 where
  pub level : has_level s.tables class text_of ≡ true
  pub own : NotStandard s text_of
  pub is : has_levels (text s text_of) ≡ true → key_holds s text_of key ≡ Some holds
  pub there : has_levels (text s text_of) ≡ true → KeyAmong key (keys_in s text_of (text s text_of))

-- where it lies, with the qualification that is held against
abbrev pub Addressed : (class : Option ℕ) → Holds → Kinds → Type 0
Addressed None h x = AddressOf h ≡ x
Addressed (Some k) h x = (h ≡ Refers k) × (ReferenceAddress k ≡ x)

-- where something is read: what fits in what a variable or an element holds, or the text that an image is
abbrev pub Leads : Source → Kinds → Holds → Type 0
Leads s (AddressOf h') h = Fits s h' h
Leads s ImageAddress h = h ≡ Simply kind.Text
Leads s (Whichever false k) h = h ≡ Simply k
Leads s _ h = ⊥

-- an operand of a kind: a value in hand, or where a text lies
abbrev pub OperandIs : Kind → Kinds → Type 0
OperandIs k (Value h) = h ≡ Simply k
OperandIs k (AddressOf h) = (k ≡ kind.Text) × (h ≡ Simply kind.Text)
OperandIs k ImageAddress = k ≡ kind.Text
OperandIs k (Whichever value_too h) = (k ≡ kind.Text) × (h ≡ kind.Text)
OperandIs k _ = ⊥

abbrev pub OperandsAre : List Kind → List Kinds → Type 0
OperandsAre [] [] = Unit {0}
OperandsAre [] (x ∷ xs) = ⊥
OperandsAre (k ∷ ks) [] = ⊥
OperandsAre (k ∷ ks) (x ∷ xs) = OperandIs k x × OperandsAre ks xs

-- where values go that are assigned
abbrev pub TakesValue : Holds → Kinds → Type 0
TakesValue h (AddressOf h') = h' ≡ h
TakesValue h (Whichever false k) = (h ≡ Simply k) × (k ≡ kind.Reference → ⊥)
TakesValue h _ = ⊥

-- where a reference is assigned to, with its qualification
abbrev pub TakesReference : Kinds → Type 0
TakesReference (ReferenceAddress c) = Unit {0}
TakesReference (Whichever false k) = k ≡ kind.Reference
TakesReference _ = ⊥

-- what the evaluation of an actual parameter gives: a value of the kind, or where a variable lies; an array; or a procedure
abbrev pub GivesKind : Kind → Kinds → Type 0
GivesKind k (Value h) = IsOfKind h k
GivesKind k (AddressOf h) = (h ≡ Simply k) × (k ≡ kind.Reference → ⊥)
GivesKind k (ReferenceAddress c) = k ≡ kind.Reference
GivesKind k (Whichever value_too k') = k' ≡ k
GivesKind k _ = ⊥

abbrev pub Gives : Holds → Kinds → Type 0
Gives (Simply k) x = GivesKind k x
Gives (ArrayOf h) x = x ≡ Value (ArrayOf h)
Gives (Procedure result) x = x ≡ Value (Procedure result)
Gives (Refers c) x = ⊥
Gives (ByName h) x = ⊥

-- a value that comes to be held, which fits in what is wanted
abbrev pub Comes : Source → Holds → Option Kinds → Type 0
Comes s h g = (h' : Holds) × Fits s h h' × (Some (Value h') ≡ g)

-- and what a use of the parameter gets of it
abbrev pub GetsKind : Source → Kind → Use → Kinds → Type 0
GetsKind s k (ForValue None line) x = Comes s (Simply k) (Some x)
GetsKind s k (ForValue (Some c) line) x = (k ≡ kind.Reference) × Comes s (Refers c) (Some x)
GetsKind s k (ForPlace value_too line) x = x ≡ Whichever value_too k
GetsKind s k (ForParameter number line) x = ⊥

-- an array or a procedure is used as it is
abbrev pub Gets : Source → Holds → Use → Kinds → Type 0
Gets s (Simply k) wanted x = GetsKind s k wanted x
Gets s (ArrayOf h) (ForValue None line) x = x ≡ Value (ArrayOf h)
Gets s (Procedure result) (ForValue None line) x = Comes s (Procedure result) (Some x)
Gets s h wanted x = ⊥

-- what the closed expression gives
abbrev pub place_gives : Kind → (class : Option ℕ) → (by_name : Option DeclNo) → Kinds
place_gives k class (Some d) = Whichever true k
place_gives k None None = AddressOf (Simply k)
place_gives k (Some c) None = ReferenceAddress c

abbrev pub actual_gives_by : Bool → Source → Expression → Kind → Kinds
actual_gives_by true s e k = place_gives k (qualification s (type_at s (typed_token e))) (by_name s e)
actual_gives_by false s e k = Value (Simply k)

abbrev pub actual_gives : Source → (as_procedure : Bool) → Expression → Holds → Kinds
actual_gives s false e (Simply k) = actual_gives_by (is_placed s e) s e k
actual_gives s as_procedure e h = Value h

-- what `detach` and `call` take: an object, and any reference
abbrev pub component_kind : Transfer → Kinds
component_kind Detaching = Component
component_kind Calling = Value (Simply kind.Reference)
component_kind Resuming = Value (Simply kind.Reference)

-- a reference that is not none: an object, and in a class if the reference is qualified
abbrev pub ShowsObject : Source → Holds → Kinds → Type 0
ShowsObject s h Component = h ≡ Simply kind.Reference
ShowsObject s (Refers c) (ObjectIn k) = has_level s.tables c k ≡ true
ShowsObject s _ _ = ⊥

-- a procedure of SIMSET, as it is declared
pub record SetIs (s : Source) (name : Standard) : Type 0 where
  pub declaration : DeclNo
  pub parameter : Option SimType
  pub result : Option SimType
  pub named : is_set_name name ≡ true
  pub there : SetProcedureThere s declaration name parameter result

-- an attribute of a process, and a procedure of a simulation block
pub record ProcessIs (s : Source) (name : Standard) : Type 0 where
  pub declaration : DeclNo
  pub parameter : Option SimType
  pub result : Option SimType
  pub named : is_process_name name ≡ true
  pub there : SetProcedureThere s declaration name parameter result

pub record SimulationIs (s : Source) (name : Standard) : Type 0 where
  pub declaration : DeclNo
  pub parameter : Option SimType
  pub result : Option SimType
  pub named : is_simulation_name name ≡ true
  pub there : SimulationProcedureThere s declaration name parameter result

-- a simulation block in which an instance stands, by the level that has `simulation` in front
pub record BlockIn (s : Source) (m : Instances) (j e k : ℕ) : Type 0 where
  pub near : Knows m j e
  pub whole : Whole s m e k
  pub simulates : is_simulation_block s.tables k ≡ true

-- a virtual of a class, which gives what a type says
pub record VirtualIn (s : Source) (v c : ℕ) (wanted : Option SimType) : Type 0 where
  pub result : Option SimType
  pub own : Option DeclNo
  pub declares : entry_of s.tables (record { 0 = v }) ≡ Some (entry.Virtual result own)
  pub level : has_level s.tables c (block_of s (record { 0 = v })) ≡ true
  pub not_standard : NotStandard s (block_of s (record { 0 = v }))
  pub fits : ResultFits s (given_by s result) (given_by s wanted)

-- the object of a procedure of SIMSET, and its actual parameter
abbrev pub set_class : (s : Source) (name : Standard) → SetIs s name → ℕ
set_class s name x = (x.there).linkage + (x.there).place

abbrev pub set_operands : (s : Source) (name : Standard) → SetIs s name → List (Option Kinds)
set_operands s name x = Some (ObjectIn (set_class s name x)) ∷ formal_kinds s (attribute_formals x.parameter)

-- a procedure of a text as a value
abbrev pub GivesProcedure : Source → (procedure : ℕ) → Option Kinds → Type 0
GivesProcedure s k g = (r : Option SimType) × ResultFits s (result_holds s k) (given_by s r) × (Some (Value (Procedure r)) ≡ g)

-- the class `process` itself, of which an object keeps where it was generated
pub record OriginFine (s : Source) (k : ℕ) (h : Holds) : Type 0 where
  pub process : text s k ≡ Some (StandardText standard.Process)
  pub fits : Fits s (Refers k) h

abbrev mutual
  -- in an instance j of the text t
  pub TermFine : Source → Instances → (j t : ℕ) → List DeclNo → Term → Option Kinds → Type 0
  TermFine s m j t todo (Given p) g = (h : Holds) × (Some (Value h) ≡ g) × PlainFine s m h p
  TermFine s m j t todo (Cell e key) g = (h : Holds) × Comes s h g × CellIs s m j t todo e key h
  TermFine s m j t todo (One op line a) g = (k : Kind) × OneKinds op k × (simple k ≡ g) × TermFine s m j t todo a (simple k)
  TermFine s m j t todo (Two op line a b) g = (k : Kind) × (v : Kind) × TwoKinds op k v × (simple v ≡ g) × TermFine s m j t todo a (simple k) × TermFine s m j t todo b (simple k)
  TermFine s m j t todo (Either c a b) g = (h : Kinds) × (Some h ≡ g) × TermFine s m j t todo c (simple kind.Boolean) × TermFine s m j t todo a g × TermFine s m j t todo b g
  TermFine s m j t todo (ElementOf line a ts) g = (k : Holds) × (Some (AddressOf k) ≡ g) × TermFine s m j t todo a (Some (Value (ArrayOf k))) × IntegersFine s m j t todo ts
  TermFine s m j t todo (ValueAt a) g = (h : Holds) × (x : Kinds) × Leads s x h × (Some (Value h) ≡ g) × TermFine s m j t todo a (Some x)
  TermFine s m j t todo (PlaceOf e key) g = (h : Holds) × (Some (AddressOf h) ≡ g) × CellTarget s m j e key h
  TermFine s m j t todo (ImageOf n) g = (Some ImageAddress ≡ g) × IsImage n
  TermFine s m j t todo (Joined line a b) g = (simple kind.Text ≡ g) × TermFine s m j t todo a (simple kind.Text) × TermFine s m j t todo b (simple kind.Text)
  TermFine s m j t todo (CopyOf line a) g = (k : Holds) × (Some (Copied k) ≡ g) × TermFine s m j t todo a (Some (Value (ArrayOf k)))
  TermFine s m j t todo (CallOf e k ts line) g = CallFine s m j e k g (TermsFine s m j t todo ts)
  TermFine s m j t todo (StandardOf name ts line) g = DoneAlone name × (held_kinds (some_holds (standard_kind (row_of name).result)) ≡ g) × (xs : List Kinds) × OperandsAre (operands_of (row_of name).function) xs × OperandsFine s m j t todo ts xs
  -- objects and references
  TermFine s m j t todo (NewOf e k ts line) g = NewFine s m j e k g (TermsFine s m j t todo ts)
  TermFine s m j t todo (AttributeOf u key class line a) g = (c : ℕ) × (h : Holds) × (x : Kinds) × AttributeFine s u key h c × Addressed class h x × (Some x ≡ g) × TermFine s m j t todo a (Some (Value (Refers c)))
  TermFine s m j t todo (RemoteCallOf a k ts line) g = (c : ℕ) × (u : ℕ) × (has_level s.tables c u ≡ true) × NotStandard s u × ProcedureIn s k u × GivesResult s k g × TermFine s m j t todo a (Some (Value (Refers c))) × TermsFine s m j t todo ts (formal_kinds s (formals_of s k))
  TermFine s m j t todo (QualifiedPlaceOf e key c) g = (Some (ReferenceAddress c) ≡ g) × CellTarget s m j e key (Refers c)
  TermFine s m j t todo (QualifiedElementOf line c a ts) g = (Some (ReferenceAddress c) ≡ g) × TermFine s m j t todo a (Some (Value (ArrayOf (Refers c)))) × IntegersFine s m j t todo ts
  TermFine s m j t todo (MemberOf member c a) g = (simple kind.Boolean ≡ g) × TermFine s m j t todo a (simple kind.Reference)
  TermFine s m j t todo (QuaOf c line a) g = Comes s (Refers c) g × TermFine s m j t todo a (simple kind.Reference)
  TermFine s m j t todo (FitsOf c line a) g = Comes s (Refers c) g × TermFine s m j t todo a (simple kind.Reference)
  TermFine s m j t todo (KeptOf a) g = (h : Holds) × (Some (Lasting h) ≡ g) × TermFine s m j t todo a (Some (Value (ArrayOf h)))
  TermFine s m j t todo (NotNoneOf line a) g = (h : Holds) × (x : Kinds) × ShowsObject s h x × (Some x ≡ g) × TermFine s m j t todo a (Some (Value h))
  TermFine s m j t todo (TransferOf x line a) g = (None ≡ g) × TermFine s m j t todo a (Some (component_kind x))
  TermFine s m j t todo (SetOf name ts) g = (x : SetIs s name) × (h : Option Holds) × FitsIn s (given_by s x.result) h × (held_kinds h ≡ g) × TermsFine s m j t todo ts (set_operands s name x)
  TermFine s m j t todo (ProcessOf name line a) g = (x : ProcessIs s name) × (h : Option Holds) × FitsIn s (given_by s x.result) h × (held_kinds h ≡ g) × TermFine s m j t todo a (Some (ObjectIn ((x.there).linkage + 3)))
  TermFine s m j t todo (SimulationOf b name ts line) g =
      (x : SimulationIs s name) × (h : Option Holds) × FitsIn s (given_by s x.result) h × (held_kinds h ≡ g) × BlockIn s m j b (block_of s x.declaration) × TermsFine s m j t todo ts (formal_kinds s (attribute_formals x.parameter))
  TermFine s m j t todo (OriginOf k token line a) g = (h : Holds) × OriginFine s k h × (Some (Value h) ≡ g) × TermFine s m j t todo a (Some (NewObject k))
  -- procedures as values, and their calls, which stand in the operating instance
  TermFine s m j t todo (ProcedureOf e k) g = (around : ℕ) × Knows m j e × Whole s m e around × ProcedureIn s k around × GivesProcedure s k g
  TermFine s m j t todo (RemoteProcedureOf a k line) g = (c : ℕ) × (u : ℕ) × (has_level s.tables c u ≡ true) × NotStandard s u × ProcedureIn s k u × GivesProcedure s k g × TermFine s m j t todo a (Some (Value (Refers c)))
  TermFine s m j t todo (MatchOf a v line) g = (c : ℕ) × (r : Option SimType) × VirtualIn s v c r × (Some (Value (Procedure r)) ≡ g) × TermFine s m j t todo a (Some (Value (Refers c)))
  TermFine s m j t todo (CheckedOf a leaves home es line) g =
      (r : Option SimType) × (h : Option Holds) × FitsIn s (given_by s r) h × (held_kinds h ≡ g) × (leaves ≡ has_type r) × (home ≡ j) × TermFine s m j t todo a (Some (Value (Procedure r))) × (from : Place) × Stands s m j from × ParametersAre s from es
  -- parameters by name: an actual one stands for the operating instance
  TermFine s m j t todo (ActualOf home p e) g = (h : Holds) × (from : Place) × (home ≡ j) × (Some (Value (ByName h)) ≡ g) × Stands s m j from × ActualIs s from p e h
  TermFine s m j t todo (NamedOf e key wanted) g = (h : Holds) × (x : Kinds) × Gets s h wanted x × (Some x ≡ g) × CellIs s m j t todo e key (ByName h)
  TermFine s m j t todo NoMeaning g = ⊥

  pub IntegersFine : Source → Instances → (j t : ℕ) → List DeclNo → Terms → Type 0
  IntegersFine s m j t todo NoTerm = Unit {0}
  IntegersFine s m j t todo (Further x xs) = TermFine s m j t todo x (simple kind.Integer) × IntegersFine s m j t todo xs

  pub OperandsFine : Source → Instances → (j t : ℕ) → List DeclNo → Terms → List Kinds → Type 0
  OperandsFine s m j t todo NoTerm xs = xs ≡ []
  OperandsFine s m j t todo (Further y ys) xs = (x : Kinds) × (more : List Kinds) × (xs ≡ x ∷ more) × TermFine s m j t todo y (Some x) × OperandsFine s m j t todo ys more

  pub TermsFine : Source → Instances → (j t : ℕ) → List DeclNo → Terms → List (Option Kinds) → Type 0
  TermsFine s m j t todo NoTerm hs = hs ≡ []
  TermsFine s m j t todo (Further x xs) hs = (h : Kinds) × (more : List (Option Kinds)) × (hs ≡ Some h ∷ more) × TermFine s m j t todo x (Some h) × TermsFine s m j t todo xs more

-- ---- pending work

-- values that were pushed one after the other
abbrev pub onto : List (Option Kinds) → List Kinds → List Kinds
onto [] ks = ks
onto (None ∷ hs) ks = onto hs ks
onto (Some h ∷ hs) ks = onto hs (h ∷ ks)

abbrev pub pushed : List Kinds → List Kinds → List Kinds
pushed [] ks = ks
pushed (x ∷ xs) ks = pushed xs (x ∷ ks)

abbrev pub integers : ℕ → List Kinds → List Kinds
integers zero ks = ks
integers (suc n) ks = Value (Simply kind.Integer) ∷ integers n ks

-- what a value is assigned to, in a statement
abbrev pub TargetFine : Source → Instances → (j t : ℕ) → Target → Holds → (before behind : List Kinds) → Type 0
TargetFine s m j t (ToCell e key) h before behind = CellTarget s m j e key h × (before ≡ behind)
TargetFine s m j t ToAddress h before behind = (x : Kinds) × TakesValue h x × (before ≡ x ∷ behind)
TargetFine s m j t (ToText line) h before behind = (h ≡ Simply kind.Text) × (before ≡ Value (Simply kind.Text) ∷ behind)
TargetFine s m j t (ToTextOf e key line) h before behind = (h ≡ Simply kind.Text) × (before ≡ Value (Simply kind.Text) ∷ behind)
TargetFine s m j t (ToReference line) h before behind = (h ≡ Simply kind.Reference) × (c : ℕ) × (before ≡ ReferenceAddress c ∷ behind)
TargetFine s m j t (ToNamed k line) h before behind = (h ≡ Simply kind.Reference) × (before ≡ Whichever false kind.Reference ∷ behind)
TargetFine s m j t (ToPlace a) h before behind = (x : Kinds) × TakesValue h x × TermFine s m j t [] a (Some x) × (before ≡ behind)
TargetFine s m j t (ToTextAt a line) h before behind = (h ≡ Simply kind.Text) × (before ≡ Value (Simply kind.Text) ∷ behind)
TargetFine s m j t (ToReferenceAt a line) h before behind = (h ≡ Simply kind.Reference) × (before ≡ behind) × (c : ℕ) × TermFine s m j t [] a (Some (ReferenceAddress c))

abbrev pub TargetsFine : Source → Instances → (j t : ℕ) → List Target → Holds → (before behind : List Kinds) → Type 0
TargetsFine s m j t [] h before behind = behind ≡ before
TargetsFine s m j t (x ∷ xs) h before behind = (next : List Kinds) × TargetFine s m j t x h before next × TargetsFine s m j t xs h next behind

-- the variable of a `for` list, which takes values of a kind
abbrev pub VariableFine : Source → Instances → (j t : ℕ) → Target → Kind → Type 0
VariableFine s m j t (ToCell e key) k = CellTarget s m j e key (Simply k)
VariableFine s m j t ToAddress k = ⊥
VariableFine s m j t (ToText line) k = ⊥
VariableFine s m j t (ToTextOf e key line) k = CellTarget s m j e key (Simply k) × (k ≡ kind.Text)
VariableFine s m j t (ToReference line) k = ⊥
VariableFine s m j t (ToNamed c line) k = ⊥
VariableFine s m j t (ToPlace a) k = (x : Kinds) × TakesValue (Simply k) x × TermFine s m j t [] a (Some x)
VariableFine s m j t (ToTextAt a line) k = TermFine s m j t [] a (Some (AddressOf (Simply k))) × (k ≡ kind.Text)
VariableFine s m j t (ToReferenceAt a line) k = (k ≡ kind.Reference) × (c : ℕ) × TermFine s m j t [] a (Some (ReferenceAddress c))

pub record CallOpFine (s : Source) (k n : ℕ) (before behind : List Kinds) : Type 0 where
  pub around : ℕ
  pub procedure : ProcedureIn s k around
  pub left : List Kinds
  pub «in» : before ≡ onto (formal_kinds s (formals_of s k)) (LinkTo around ∷ left)
  pub count : n ≡ length (formals_of s k)
  pub gives : Option Kinds
  pub result : GivesResult s k gives
  pub out : behind ≡ given gives left

-- what is passed for the formal parameters of the numbers below one
abbrev pub for_formals : ℕ → List Kinds → List Kinds
for_formals zero ks = ks
for_formals (suc n) ks = ForFormal n ∷ for_formals n ks

abbrev pub parameter_of : ℕ → Expressions → Option Expression
parameter_of n NoMore = None
parameter_of zero (Then e es) = Some e
parameter_of (suc n) (Then e es) = parameter_of n es

-- an actual parameter of a procedure that conforms to them
pub record ParameterOpFine (s : Source) (m : Instances) (j n : ℕ) (e : Expression) (before behind : List Kinds) : Type 0 where
  pub actuals : Expressions
  pub result : Option SimType
  pub left : List Kinds
  pub is : parameter_of n actuals ≡ Some e
  pub from : Place
  pub stands : Stands s m j from
  pub typed : ParameterIs s from e
  pub «in» : before ≡ for_formals n (Checked actuals result ∷ left)
  pub out : behind ≡ ForFormal n ∷ before

pub record NewOpFine (s : Source) (k n : ℕ) (before behind : List Kinds) : Type 0 where
  pub around : ℕ
  pub class : ClassIn s k around
  pub left : List Kinds
  pub «in» : before ≡ onto (class_kinds s (class_parameters s (Some k))) (LinkTo around ∷ left)
  pub count : n ≡ length (class_parameters s (Some k))
  pub kinds : Kinds
  pub made : Makes s k kinds
  pub out : behind ≡ kinds ∷ left

-- an instance that stands for a text
pub record Site (s : Source) (m : Instances) (j t : ℕ) : Type 0 where
  pub now : Instance (List Held)
  pub lives : live m j ≡ Some now
  pub stands : StandsFor s now t

-- a text that is a prefixed block
pub record PrefixedAt (s : Source) (k : ℕ) : Type 0 where
  pub class : Identifier
  pub arguments : Expressions
  pub declarations : Declarations
  pub statements : Statements
  pub is : text s k ≡ Some (PrefixedText class arguments declarations statements)

-- a prefixed block stands in a text for which the instance stands
pub record PrefixedOpFine (s : Source) (m : Instances) (j k n : ℕ) (before behind : List Kinds) : Type 0 where
  pub around : ℕ
  pub site : Site s m j around
  pub stands_in : encloser s.tables k ≡ Some around
  pub block : PrefixedAt s k
  pub «in» : before ≡ onto (class_kinds s (class_parameters s (Some k))) behind
  pub count : n ≡ length (class_parameters s (Some k))

-- an array goes into the cell that waits for it
pub record ArrayStored (s : Source) (j t : ℕ) (todo todo' : List DeclNo) (x : Target) (before behind : List Kinds) : Type 0 where
  pub declaration : DeclNo
  pub element : Holds
  pub level : ℕ
  pub of_level : LevelOf s t level
  pub is : x ≡ ToCell j (Declared declaration.0)
  pub holds : key_holds s level (Declared declaration.0) ≡ Some (ArrayOf element)
  pub there : KeyAmong (Declared declaration.0) (keys_in s level (text s level))
  pub waits : todo ≡ declaration ∷ todo'
  pub «in» : before ≡ Value (ArrayOf element) ∷ behind

pub data StoreOpFine (s : Source) (o : AllArrays) (m : Instances) (j t : ℕ) (todo todo' : List DeclNo) (x : Target) (before behind : List Kinds) : Type 0 where
  value_stored : (k : Kind) (next : List Kinds) → before ≡ Value (Simply k) ∷ next → TargetFine s m j t x (Simply k) next behind → todo ≡ [] → todo' ≡ todo → StoreOpFine s o m j t todo todo' x before behind
  array_stored : ArrayStored s j t todo todo' x before behind → StoreOpFine s o m j t todo todo' x before behind

-- a statement, or part of one: all arrays are made
abbrev pub Ready : (todo todo' : List DeclNo) → (before behind : List Kinds) → (Is : Type 0) → Type 0
Ready todo todo' before behind Is = (todo ≡ []) × (todo' ≡ []) × (behind ≡ before) × Is

-- it stands in a text for which the instance stands
abbrev pub Sited : Source → Instances → ℕ → (Is : ℕ → Type 0) → Type 0
Sited s m j Is = (u : ℕ) × Site s m j u × Is u

-- what a copy of an array is: one that all may know, or one for a parameter by value
abbrev pub IsCopy : Holds → Kinds → Type 0
IsCopy k (Value h) = h ≡ ArrayOf k
IsCopy k (Copied k') = k' ≡ k
IsCopy k _ = ⊥

-- what is held is a reference or a value of a kind
abbrev pub IsAddress : Kinds → Type 0
IsAddress (AddressOf h) = Unit {0}
IsAddress (ReferenceAddress c) = Unit {0}
IsAddress (Whichever value_too k) = Unit {0}
IsAddress _ = ⊥

-- the text of an object that is a process has the class `process` of a simulation block among its levels
pub record ProcessText (s : Source) (t : ℕ) : Type 0 where
  pub block : ℕ
  pub simulates : is_simulation_block s.tables block ≡ true
  pub level : LevelOf s t (block + 4)
  pub free : is_class_free s t ≡ false

-- the levels inside: each is one for which the instance of the text t stands
abbrev pub LevelsFine : Source → Instances → (j t : ℕ) → List Level → Type 0
LevelsFine s m j t [] = Unit {0}
LevelsFine s m j t (x ∷ xs) = Site s m j x.text × StatementsAre s x.text x.statements × (x.process ≡ true → ProcessText s t) × LevelsFine s m j t xs

-- the operand of an activation, if it has one
abbrev pub timed : Timing → List Kinds → List Kinds
timed Directly ks = ks
timed (AtTime prior) ks = Value (Simply kind.Integer) ∷ ks
timed (WithDelay prior) ks = Value (Simply kind.Integer) ∷ ks
timed (Beside before) ks = Value (Simply kind.Reference) ∷ ks

-- a declaration of an array
abbrev pub EntryIsArray : Source → DeclNo → Type 0
EntryIsArray s d = (element : SimType) × (dimensions : ℕ) × (entry_of s.tables d ≡ Some (entry.Array element dimensions))

-- the arrays of a level of the text are made, which are its own, before those of the levels inside
pub record DeclareFine (s : Source) (t : ℕ) (ds : Declarations) (todo todo' : List DeclNo) : Type 0 where
  pub level : ℕ
  pub of_level : LevelOf s t level
  pub waits : todo ≡ arrays_of_block s ds ++ todo'
  pub arrays : ArraysTyped s (InBound level) ds
  pub distinct : Distinct (arrays_of_block s ds ++ todo')
  pub own : (d : DeclNo) → Among d (arrays_of_block s ds) → Among d (numbers_of s level)
  pub all_arrays : (d : DeclNo) → Among d (arrays_of_block s ds ++ todo') → EntryIsArray s d

-- An operator in an instance j of the text t: with values of these kinds in hand and these arrays still to be made, and behind it.
abbrev pub OpFine : Source → AllArrays → Instances → (j t : ℕ) → Op → (todo todo' : List DeclNo) → (before behind : List Kinds) → Type 0
OpFine s o m j t (Eval x) todo todo' before behind = (g : Option Kinds) × TermFine s m j t todo x g × (behind ≡ given g before) × (todo' ≡ todo)
OpFine s o m j t (OneOp op line) todo todo' before behind = (k : Kind) × (left : List Kinds) × OneKinds op k × (before ≡ Value (Simply k) ∷ left) × (behind ≡ before) × (todo' ≡ todo)
OpFine s o m j t (TwoOp op line) todo todo' before behind = (k : Kind) × (v : Kind) × (left : List Kinds) × TwoKinds op k v × (before ≡ Value (Simply k) ∷ Value (Simply k) ∷ left) × (behind ≡ Value (Simply v) ∷ left) × (todo' ≡ todo)
OpFine s o m j t (IfOp a b) todo todo' before behind = (h : Kinds) × (left : List Kinds) × TermFine s m j t todo a (Some h) × TermFine s m j t todo b (Some h) × (before ≡ Value (Simply kind.Boolean) ∷ left) × (behind ≡ h ∷ left) × (todo' ≡ todo)
OpFine s o m j t (ElementOp n line) todo todo' before behind = (k : Holds) × (left : List Kinds) × (before ≡ integers n (Value (ArrayOf k) ∷ left)) × (behind ≡ AddressOf k ∷ left) × (todo' ≡ todo)
OpFine s o m j t FetchOp todo todo' before behind = (h : Holds) × (x : Kinds) × (left : List Kinds) × Leads s x h × (before ≡ x ∷ left) × (behind ≡ Value h ∷ left) × (todo' ≡ todo)
OpFine s o m j t (JoinOp line) todo todo' before behind = (left : List Kinds) × (before ≡ Value (Simply kind.Text) ∷ Value (Simply kind.Text) ∷ left) × (behind ≡ Value (Simply kind.Text) ∷ left) × (todo' ≡ todo)
OpFine s o m j t (CopyOp line) todo todo' before behind = (k : Holds) × (left : List Kinds) × (c : Kinds) × IsCopy k c × (before ≡ Value (ArrayOf k) ∷ left) × (behind ≡ c ∷ left) × (todo' ≡ todo)
OpFine s o m j t (CallOp k n line) todo todo' before behind = CallOpFine s k n before behind × (todo' ≡ todo)
OpFine s o m j t (StandardOp name line) todo todo' before behind =
    (left : List Kinds) × (xs : List Kinds) × DoneAlone name × OperandsAre (operands_of (row_of name).function) xs × (before ≡ pushed xs left) × (behind ≡ given (held_kinds (some_holds (standard_kind (row_of name).result))) left) × (todo' ≡ todo)
-- objects and references
OpFine s o m j t (NewOp k n line) todo todo' before behind = NewOpFine s k n before behind × (todo' ≡ todo)
OpFine s o m j t (AttributeOp u key class line) todo todo' before behind =
    (c : ℕ) × (h : Holds) × (x : Kinds) × (left : List Kinds) × AttributeFine s u key h c × Addressed class h x × (before ≡ Value (Refers c) ∷ left) × (behind ≡ x ∷ left) × (todo' ≡ todo)
OpFine s o m j t (ObjectOp k line) todo todo' before behind =
    (c : ℕ) × (u : ℕ) × (left : List Kinds) × (has_level s.tables c u ≡ true) × NotStandard s u × (encloser s.tables k ≡ Some u) × (before ≡ Value (Refers c) ∷ left) × (behind ≡ LinkTo u ∷ left) × (todo' ≡ todo)
OpFine s o m j t (QualifiedElementOp n line c) todo todo' before behind = (left : List Kinds) × (before ≡ integers n (Value (ArrayOf (Refers c)) ∷ left)) × (behind ≡ ReferenceAddress c ∷ left) × (todo' ≡ todo)
OpFine s o m j t (MemberOp member c) todo todo' before behind = (left : List Kinds) × (before ≡ Value (Simply kind.Reference) ∷ left) × (behind ≡ Value (Simply kind.Boolean) ∷ left) × (todo' ≡ todo)
OpFine s o m j t (QuaOp c line) todo todo' before behind = (h : Holds) × (left : List Kinds) × Fits s (Refers c) h × (before ≡ Value (Simply kind.Reference) ∷ left) × (behind ≡ Value h ∷ left) × (todo' ≡ todo)
OpFine s o m j t (FitsOp c line) todo todo' before behind = (h : Holds) × (left : List Kinds) × Fits s (Refers c) h × (before ≡ Value (Simply kind.Reference) ∷ left) × (behind ≡ Value h ∷ left) × (todo' ≡ todo)
OpFine s o m j t (NotNoneOp line) todo todo' before behind = (h : Holds) × (x : Kinds) × (left : List Kinds) × ShowsObject s h x × (before ≡ Value h ∷ left) × (behind ≡ x ∷ left) × (todo' ≡ todo)
OpFine s o m j t (TransferOp x line) todo todo' before behind = (before ≡ component_kind x ∷ behind) × (todo' ≡ todo)
OpFine s o m j t (SetOp name) todo todo' before behind =
    (x : SetIs s name) × (h : Option Holds) × (left : List Kinds) × FitsIn s (given_by s x.result) h × (before ≡ onto (set_operands s name x) left) × (behind ≡ given (held_kinds h) left) × (todo' ≡ todo)
OpFine s o m j t (ProcessOp name line) todo todo' before behind =
    (x : ProcessIs s name) × (h : Option Holds) × (left : List Kinds) × FitsIn s (given_by s x.result) h × (before ≡ ObjectIn ((x.there).linkage + 3) ∷ left) × (behind ≡ given (held_kinds h) left) × (todo' ≡ todo)
OpFine s o m j t (SimulationOp name line) todo todo' before behind =
    (x : SimulationIs s name) × (h : Option Holds) × (left : List Kinds) × FitsIn s (given_by s x.result) h × (is_simulation_block s.tables (block_of s x.declaration) ≡ true) × (before ≡ onto (formal_kinds s (attribute_formals x.parameter)) (LinkTo (block_of s x.declaration) ∷ left)) × (behind ≡ given (held_kinds h) left) × (todo' ≡ todo)
OpFine s o m j t (OriginOp k token line) todo todo' before behind = (h : Holds) × (left : List Kinds) × OriginFine s k h × (before ≡ NewObject k ∷ left) × (behind ≡ Value h ∷ left) × (todo' ≡ todo)
-- procedures as values, and calls that are checked
OpFine s o m j t (ProcedureOp k) todo todo' before behind =
    (around : ℕ) × (x : Kinds) × (left : List Kinds) × ProcedureIn s k around × GivesProcedure s k (Some x) × (before ≡ LinkTo around ∷ left) × (behind ≡ x ∷ left) × (todo' ≡ todo)
OpFine s o m j t (VirtualOp v line) todo todo' before behind =
    (c : ℕ) × (r : Option SimType) × (left : List Kinds) × VirtualIn s v c r × (before ≡ Value (Refers c) ∷ left) × (behind ≡ Value (Procedure r) ∷ left) × (todo' ≡ todo)
OpFine s o m j t (CheckOp es line) todo todo' before behind =
    (r : Option SimType) × (left : List Kinds) × (from : Place) × Stands s m j from × ParametersAre s from es × (before ≡ Value (Procedure r) ∷ left) × (behind ≡ Checked es r ∷ left) × (todo' ≡ todo)
OpFine s o m j t (ParameterOp n e line) todo todo' before behind = ParameterOpFine s m j n e before behind × (todo' ≡ todo)
OpFine s o m j t (CallValueOp n leaves line) todo todo' before behind =
    (es : Expressions) × (r : Option SimType) × (h : Option Holds) × (left : List Kinds) × FitsIn s (given_by s r) h × (leaves ≡ has_type r) × (n ≡ count_of es) × (before ≡ for_formals n (Checked es r ∷ left)) × (behind ≡ given (held_kinds h) left) × (todo' ≡ todo)
-- parameters by name
OpFine s o m j t (NamedOp e key wanted) todo todo' before behind = (h : Holds) × (x : Kinds) × Gets s h wanted x × CellIs s m j t todo e key (ByName h) × (behind ≡ x ∷ before) × (todo' ≡ todo)
OpFine s o m j t (CloseOp p e) todo todo' before behind = (h : Holds) × (from : Place) × Stands s m j from × ActualIs s from p e h × (behind ≡ actual_gives s p e h ∷ before) × (todo' ≡ todo)
OpFine s o m j t KeepOp todo todo' before behind = (h : Holds) × (left : List Kinds) × (before ≡ Value (ArrayOf h) ∷ left) × (behind ≡ Lasting h ∷ left) × (todo' ≡ todo)
-- values in hand, and assignments
OpFine s o m j t DropOp todo todo' before behind = (k : Kinds) × (before ≡ k ∷ behind) × (todo' ≡ todo)
OpFine s o m j t AgainOp todo todo' before behind = (k : Kind) × (left : List Kinds) × (before ≡ Value (Simply k) ∷ left) × (behind ≡ Value (Simply k) ∷ before) × (todo' ≡ todo)
OpFine s o m j t SwapOp todo todo' before behind = (x : Kinds) × (k : Kind) × (left : List Kinds) × IsAddress x × (before ≡ x ∷ Value (Simply k) ∷ left) × (behind ≡ Value (Simply k) ∷ x ∷ left) × (todo' ≡ todo)
OpFine s o m j t (StoreOp x) todo todo' before behind = StoreOpFine s o m j t todo todo' x before behind
OpFine s o m j t (ShareOp ts) todo todo' before behind = (k : Kind) × (next : List Kinds) × (before ≡ Value (Simply k) ∷ next) × TargetsFine s m j t ts (Simply k) next behind × (todo ≡ []) × (todo' ≡ todo)
OpFine s o m j t (GiveOp v ts) todo todo' before behind = (k : Kind) × ValFine s o m j (Simply k) v × TargetsFine s m j t ts (Simply k) before behind × (todo ≡ []) × (todo' ≡ todo)
OpFine s o m j t (ReferOp line) todo todo' before behind = (x : Kinds) × TakesReference x × (before ≡ Value (Simply kind.Reference) ∷ x ∷ behind) × (todo' ≡ todo)
OpFine s o m j t (ArrayOp k n line) todo todo' before behind = (h : Holds) × (left : List Kinds) × IsOfKind h k × (before ≡ integers (2 * n) left) × (behind ≡ Value (ArrayOf h) ∷ left) × (todo' ≡ todo)
-- statements
OpFine s o m j t (Exec a) todo todo' before behind = Ready todo todo' before behind (Sited s m j (λ u. StatementIs s u a))
OpFine s o m j t (Execs ss) todo todo' before behind = Ready todo todo' before behind (Sited s m j (λ u. StatementsAre s u ss))
OpFine s o m j t (EnterOp k line) todo todo' before behind =
    Ready todo todo' before behind (Sited s m j (λ u. (encloser s.tables k ≡ Some u) × (begin : ℕ) × (ds : Declarations) × (ss : Statements) × (text s k ≡ Some (BlockText begin ds ss))))
OpFine s o m j t (DeclareOp ds) todo todo' before behind = DeclareFine s t ds todo todo' × (before ≡ []) × (behind ≡ [])
OpFine s o m j t (LevelOp k) todo todo' before behind = (behind ≡ before) × (todo' ≡ todo)
OpFine s o m j t (InnerOp xs) todo todo' before behind = Ready todo todo' before behind (LevelsFine s m j t xs)
OpFine s o m j t SelfOp todo todo' before behind = (todo ≡ []) × (todo' ≡ []) × ProcessText s t × (behind ≡ Component ∷ before)
OpFine s o m j t EndProcessOp todo todo' before behind = Ready todo todo' before behind (ProcessText s t)
OpFine s o m j t (BlockOp b) todo todo' before behind = (k : ℕ) × BlockIn s m j b k × (behind ≡ LinkTo k ∷ before) × (todo' ≡ todo)
OpFine s o m j t (ActivateOp again timing line) todo todo' before behind =
    (k : ℕ) × (is_simulation_block s.tables k ≡ true) × (before ≡ timed timing (Value (Simply kind.Reference) ∷ LinkTo k ∷ behind)) × (todo' ≡ todo)
OpFine s o m j t (ConnectOp k a other) todo todo' before behind =
    (todo ≡ []) × (todo' ≡ []) × Sited s m j (λ u. (c : ConnectionIs s u k) × (before ≡ Value (reference_to (base s.tables c.number)) ∷ behind) × StatementIs s c.number a × StatementsAre s u other)
OpFine s o m j t (WhenOp arms other) todo todo' before behind =
    (todo ≡ []) × (todo' ≡ []) × (before ≡ Value (Simply kind.Reference) ∷ behind) × Sited s m j (λ u. ArmsAre s u arms × StatementsAre s u other)
OpFine s o m j t (ChooseOp a b) todo todo' before behind = (todo ≡ []) × (todo' ≡ []) × (before ≡ Value (Simply kind.Boolean) ∷ behind) × Sited s m j (λ u. StatementIs s u a × StatementsAre s u b)
OpFine s o m j t (TestOp c a) todo todo' before behind = Ready todo todo' before behind (Sited s m j (λ u. ExprIs s (In u) c (Simply kind.Boolean) × StatementIs s u a))
OpFine s o m j t (BranchOp a next) todo todo' before behind = (todo ≡ []) × (todo' ≡ []) × (before ≡ Value (Simply kind.Boolean) ∷ behind) × Sited s m j (λ u. StatementIs s u a) × OpFine s o m j t next [] [] behind behind
OpFine s o m j t (BackOp op) todo todo' before behind = OpFine s o m j t op todo todo' before behind
OpFine s o m j t PastOp todo todo' before behind = (behind ≡ before) × (todo' ≡ todo)
-- `for` lists
OpFine s o m j t (ElementsOp x es a) todo todo' before behind = Ready todo todo' before behind (Sited s m j (λ u. (k : Kind) × VariableFine s m j t x k × ElementsAre s u k es × StatementIs s u a))
OpFine s o m j t (WhileElementOp x e c a) todo todo' before behind =
    Ready todo todo' before behind (Sited s m j (λ u. (k : Kind) × VariableFine s m j t x k × ExprIs s (In u) e (Simply k) × ExprIs s (In u) c (Simply kind.Boolean) × StatementIs s u a))
OpFine s o m j t (StepTestOp x line step limit a) todo todo' before behind =
    (todo ≡ []) × (todo' ≡ []) × (before ≡ Value (Simply kind.Integer) ∷ behind) × Sited s m j (λ u. VariableFine s m j t x kind.Integer × ExprIs s (In u) step (Simply kind.Integer) × ExprIs s (In u) limit (Simply kind.Integer) × StatementIs s u a)
OpFine s o m j t (StepOp line) todo todo' before behind = (left : List Kinds) × (before ≡ integers 3 left) × (behind ≡ Value (Simply kind.Boolean) ∷ left) × (todo' ≡ todo)
OpFine s o m j t (RaiseOp x line step limit a) todo todo' before behind =
    Ready todo todo' before behind (Sited s m j (λ u. VariableFine s m j t x kind.Integer × ExprIs s (In u) step (Simply kind.Integer) × ExprIs s (In u) limit (Simply kind.Integer) × StatementIs s u a))
OpFine s o m j t (PrefixedOp k n line) todo todo' before behind = (todo ≡ []) × (todo' ≡ []) × PrefixedOpFine s m j k n before behind
