-- Closed trees, what is pending, and the instances of the meaning.
use Rattle.std.specs.Prelude.{ℕ, Bool, true, false, ◌==◌, if◌then◌else◌, List, [], ◌∷◌, Option, Some, None}
use Rattle.sim_tree.specs.declared.expr.Membership.{Membership}
use Rattle.sim_tree.specs.Syntax.{Arms, Declarations, Element, Expression, Expressions, Statement, Statements}
use Rattle.sim_values.specs.declared.kind.Kind.{Kind}
use Rattle.sim_values.specs.declared.operators.Dyadic.{Dyadic}
use Rattle.sim_values.specs.declared.operators.Monadic.{Monadic}
use Rattle.sim_values.specs.declared.standard.Standard.{Standard}
use Rattle.sim_values.specs.Plain.{Plain}
use Rattle.sim_code.specs.Instances.{CellPlace, ElementPlace, Memory, Place, State, cells_of, with_cells}
use Rattle.sim_code.specs.Transfers.{Transfer}
use Rattle.sim_code.specs.Scheduling.{Timing}

-- A cell of an instance: that of a declaration, by its number; that of the result of a procedure; that of a connection, by its token; or that
-- in which an object of `process` itself keeps where it was generated. The last two take no words.
pub data Key : Type 0 where
  Declared : (declaration : ℕ) → Key
  Result : Key
  Connection : (token : ℕ) → Key
  Origin : Key

-- What an evaluation of an actual parameter is for. A use of a formal parameter by name asks for a value, held against a class; or for where a
-- variable lies, and whether a value is enough too. A call that is checked when it is done asks for what it passes for the formal parameter of
-- a number.
pub data Use : Type 0 where
  ForValue : (class : Option ℕ) → (line : ℕ) → Use
  ForPlace : (value_too : Bool) → (line : ℕ) → Use
  ForParameter : (number line : ℕ) → Use

-- A closed tree has no identifiers: each is a cell of an instance, or a text with the instance in which it is declared. So it means the
-- same wherever it is evaluated. The line is that of its errors.
mutual
  pub data Term : Type 0 where
    Given : Plain → Term
    Cell : (instance : ℕ) → Key → Term
    One : Monadic → (line : ℕ) → Term → Term
    Two : Dyadic → (line : ℕ) → (left right : Term) → Term
    Either : (condition first second : Term) → Term
    -- where an element of an array lies, and the value that lies somewhere
    ElementOf : (line : ℕ) → (array : Term) → (subscripts : Terms) → Term
    ValueAt : Term → Term
    -- where a variable and an image lie
    PlaceOf : (instance : ℕ) → Key → Term
    ImageOf : (image : ℕ) → Term
    -- `&`
    Joined : (line : ℕ) → (left right : Term) → Term
    -- a copy of an array
    CopyOf : (line : ℕ) → Term → Term
    CallOf : (instance text : ℕ) → (actuals : Terms) → (line : ℕ) → Term
    StandardOf : Standard → (actuals : Terms) → (line : ℕ) → Term
    -- a new object of the class of a text, which is declared in an instance
    NewOf : (instance text : ℕ) → (actuals : Terms) → (line : ℕ) → Term
    -- where an attribute of an object lies that the class of a text declares, with the qualification of a reference there; and a call of
    -- a procedure that the object has
    AttributeOf : (text : ℕ) → Key → (class : Option ℕ) → (line : ℕ) → (object : Term) → Term
    RemoteCallOf : (object : Term) → (text : ℕ) → (actuals : Terms) → (line : ℕ) → Term
    -- where a reference lies, with its qualification
    QualifiedPlaceOf : (instance : ℕ) → Key → (class : ℕ) → Term
    QualifiedElementOf : (line class : ℕ) → (array : Term) → (subscripts : Terms) → Term
    -- `is` and `in`, `qua`, and a reference that is passed to a formal parameter, which has a class
    MemberOf : Membership → (class : ℕ) → (object : Term) → Term
    QuaOf : (class line : ℕ) → (object : Term) → Term
    FitsOf : (class line : ℕ) → (actual : Term) → Term
    -- an array that is kept
    KeptOf : Term → Term
    -- a reference that is not none; `detach`, `call` and `resume` of the object that a reference names
    NotNoneOf : (line : ℕ) → (object : Term) → Term
    TransferOf : Transfer → (line : ℕ) → (object : Term) → Term
    -- a procedure of SIMSET: of an object, and with its actual parameter, if it has one
    SetOf : Standard → (operands : Terms) → Term
    -- an attribute of a process, and a procedure of a simulation block
    ProcessOf : Standard → (line : ℕ) → (process : Term) → Term
    SimulationOf : (block : ℕ) → Standard → (actuals : Terms) → (line : ℕ) → Term
    -- a new object of the class `process` of a text itself, which keeps the token of that class
    OriginOf : (text token line : ℕ) → (object : Term) → Term
    -- A procedure as a value: one that is declared in an instance; one that an object has; and what matches a virtual in the class of an object.
    ProcedureOf : (instance text : ℕ) → Term
    RemoteProcedureOf : (object : Term) → (text line : ℕ) → Term
    MatchOf : (object : Term) → (virtual line : ℕ) → Term
    -- A call of a procedure that is a value, which leaves a value or none, and stands in an instance. Its actual parameters are checked when it is
    -- done, and are closed only then.
    CheckedOf : (procedure : Term) → (leaves : Bool) → (home : ℕ) → (actuals : Expressions) → (line : ℕ) → Term
    -- An actual parameter by name, for the instance in which it stands, as a procedure or not. And what a formal parameter by name gives: its
    -- value, held against its qualification, or where it lies, or else its value where that is enough.
    ActualOf : (home : ℕ) → (as_procedure : Bool) → Expression → Term
    NamedOf : (instance : ℕ) → Key → Use → Term
    -- what no allowed program has, which has no rule
    NoMeaning : Term

  pub data Terms : Type 0 where
    NoTerm : Terms
    Further : Term → Terms → Terms

-- A value in hand or in a cell: a plain value; an instance in which a procedure is declared; where a variable lies, with the class of a
-- reference there; an array; a procedure with that instance; an actual by name, with the instance in which it stands, and whether it is passed
-- as a procedure.
pub data Val : Type 0 where
  Of : Plain → Val
  Link : (instance : ℕ) → Val
  Address : Place Key (Option ℕ) → Val
  ArrayValue : (array : ℕ) → Val
  ProcedureValue : (text instance : ℕ) → Val
  Actual : (home : ℕ) → (as_procedure : Bool) → Expression → Val

abbrev pub plain : Val → Option Plain
plain (Of p) = Some p
plain _ = None

abbrev pub array_in : Val → Option ℕ
array_in (ArrayValue a) = Some a
array_in _ = None

abbrev pub place_in : Val → Option (Place Key (Option ℕ))
place_in (Address p) = Some p
place_in _ = None

-- and where that of a variable or an element leads: an image is neither
abbrev pub variable_in : Val → Option (Place Key (Option ℕ))
variable_in (Address (CellPlace j key class)) = Some (CellPlace j key class)
variable_in (Address (ElementPlace a n class)) = Some (ElementPlace a n class)
variable_in _ = None

-- a procedure, with the instance in which it is declared
abbrev pub procedure_in : Val → Option (ℕ × ℕ)
procedure_in (ProcedureValue k j) = Some (k, j)
procedure_in _ = None

-- an actual by name, with the instance in which it stands
pub record Passing : Type 0 where
  pub home : ℕ
  pub as_procedure : Bool
  pub expression : Expression

abbrev pub actual_in : Val → Option Passing
actual_in (Actual j p e) = Some (record { home = j; as_procedure = p; expression = e })
actual_in _ = None

abbrev pub instance_in : Val → Option ℕ
instance_in (Link j) = Some j
instance_in _ = None

-- What a value is assigned to: a cell, or where an address in hand leads. By `:=` a text is assigned to a text: one in hand, or that in a
-- cell, which the controlled variable of a loop is. A reference goes where an address in hand leads. The controlled variable of a loop may
-- also be an attribute of a connected object, or a reference, which are found anew each time.
pub data Target : Type 0 where
  ToCell : (instance : ℕ) → Key → Target
  ToAddress : Target
  ToText : (line : ℕ) → Target
  ToTextOf : (instance : ℕ) → Key → (line : ℕ) → Target
  ToReference : (line : ℕ) → Target
  -- where a parameter by name lies, which has a class of its own
  ToNamed : (class line : ℕ) → Target
  ToPlace : (place : Term) → Target
  ToTextAt : (place : Term) → (line : ℕ) → Target
  ToReferenceAt : (place : Term) → (line : ℕ) → Target

-- A level of a class or of a prefixed block: its text, with its declarations and statements; and whether the statements of the levels inside
-- come behind these, as they do where no `inner` is written; and whether it is that of the class `process`.
pub record Level : Type 0 where
  pub text : ℕ
  pub declarations : Declarations
  pub statements : Statements
  pub inner_last : Bool
  pub process : Bool

-- What is still to be done. An operator takes the values that it needs from those in hand.
pub data Op : Type 0 where
  -- expressions
  Eval : Term → Op
  OneOp : Monadic → (line : ℕ) → Op
  TwoOp : Dyadic → (line : ℕ) → Op
  IfOp : (first second : Term) → Op
  JoinOp : (line : ℕ) → Op
  ElementOp : (subscripts line : ℕ) → Op
  FetchOp : Op
  CopyOp : (line : ℕ) → Op
  CallOp : (text actuals line : ℕ) → Op
  StandardOp : Standard → (line : ℕ) → Op
  NewOp : (text actuals line : ℕ) → Op
  AttributeOp : (text : ℕ) → Key → (class : Option ℕ) → (line : ℕ) → Op
  ObjectOp : (text line : ℕ) → Op
  QualifiedElementOp : (subscripts line class : ℕ) → Op
  MemberOp : Membership → (class : ℕ) → Op
  QuaOp : (class line : ℕ) → Op
  FitsOp : (class line : ℕ) → Op
  KeepOp : Op
  NotNoneOp : (line : ℕ) → Op
  TransferOp : Transfer → (line : ℕ) → Op
  SetOp : Standard → Op
  ProcessOp : Standard → (line : ℕ) → Op
  SimulationOp : Standard → (line : ℕ) → Op
  -- the object of `process` in hand keeps a token
  OriginOp : (text token line : ℕ) → Op
  -- a procedure that is declared in the instance in hand; what matches a virtual in the object in hand
  ProcedureOp : (text : ℕ) → Op
  VirtualOp : (virtual line : ℕ) → Op
  -- a procedure in hand is held against its actual parameters; the next of these is passed; and the procedure is called with so many values
  CheckOp : Expressions → (line : ℕ) → Op
  ParameterOp : (number : ℕ) → Expression → (line : ℕ) → Op
  CallValueOp : (actuals : ℕ) → (leaves : Bool) → (line : ℕ) → Op
  -- a parameter by name that is in a cell is used; its actual is closed, in the instance in which that stands
  NamedOp : (instance : ℕ) → Key → Use → Op
  CloseOp : (as_procedure : Bool) → Expression → Op
  -- the value in hand is dropped, or there once more; the last two change places
  DropOp : Op
  AgainOp : Op
  SwapOp : Op
  -- an assignment to one left side; to several, the last one first, where the value is in hand, and where it was taken
  StoreOp : Target → Op
  ShareOp : List Target → Op
  GiveOp : Val → List Target → Op
  -- a reference is put where an address leads
  ReferOp : (line : ℕ) → Op
  -- a new array
  ArrayOp : Kind → (dimensions line : ℕ) → Op
  -- statements
  Exec : Statement → Op
  Execs : Statements → Op
  EnterOp : (text line : ℕ) → Op
  ChooseOp : Statement → Statements → Op
  -- A prefixed block is entered; the declarations of a level; these are made, which does nothing and is an event of its own since the code has
  -- an instruction there; the statements of the levels that are left, if any is.
  PrefixedOp : (text actuals line : ℕ) → Op
  DeclareOp : Declarations → Op
  LevelOp : (text : ℕ) → Op
  InnerOp : List Level → Op
  -- of a process: the object itself, which detaches at once; and its end
  SelfOp : Op
  EndProcessOp : Op
  -- the block of an activation, and the activation
  BlockOp : (block : ℕ) → Op
  ActivateOp : (again : Bool) → Timing → (line : ℕ) → Op
  -- an object is connected, in a connection that begins at a token, or by one of some arms
  ConnectOp : (connection : ℕ) → Statement → (otherwise : Statements) → Op
  WhenOp : Arms → (otherwise : Statements) → Op
  -- a test is made anew; where it is true the statement is done, and then something else
  TestOp : Expression → Statement → Op
  BranchOp : Statement → Op → Op
  -- control goes back to what is to be done again; it goes on past what is not done
  BackOp : Op → Op
  PastOp : Op
  -- the elements that are left of a `for` list: the variable, the elements, the statement
  ElementsOp : Target → List Element → Statement → Op
  WhileElementOp : Target → (value condition : Expression) → Statement → Op
  StepTestOp : Target → (line : ℕ) → (step limit : Expression) → Statement → Op
  StepOp : (line : ℕ) → Op
  RaiseOp : Target → (line : ℕ) → (step limit : Expression) → Statement → Op

-- an operator, or an end
pub data Item : Type 0 where
  Do : Op → Item
  EndBlock : Item
  -- of a procedure with a result, or without one
  EndProcedure : (has_result : Bool) → Item
  -- of a level's statements where `inner` led to them; of an object; of a prefixed block
  EndLevel : (text : ℕ) → Item
  EndObject : Item
  EndPrefixed : Item
  -- of the evaluation of an actual parameter
  EndEvaluation : Use → Item
  EndProgram : Item

-- An instance on a chain, with its pending work and its values in hand, the last one first; or the evaluation of an actual parameter by name for
-- the instance in which that stands. Its end tells which.
pub record Activation : Type 0 where
  pub instance : ℕ
  pub work : List Item
  pub values : List Val

abbrev pub is_evaluation : Item → Bool
is_evaluation (EndEvaluation wanted) = true
is_evaluation _ = false

-- whether work is that of an evaluation, which it ends
abbrev pub evaluates : List Item → Bool
evaluates [] = false
evaluates (x ∷ []) = is_evaluation x
evaluates (x ∷ y ∷ w) = evaluates (y ∷ w)

-- an evaluation is no instance
abbrev pub owner : Activation → Option ℕ
owner a = if evaluates a.work then None else Some a.instance

-- a cell and what it holds, which may be nothing yet
pub record Held : Type 0 where
  pub key : Key
  pub value : Option Val

abbrev pub Instances : Type 0
Instances = Memory (List Held) Activation

abbrev pub Configuration : Type 0
Configuration = State (List Held) Activation

abbrev pub same_key : Key → Key → Bool
same_key (Declared d) (Declared e) = d == e
same_key Result Result = true
same_key (Connection i) (Connection j) = i == j
same_key Origin Origin = true
same_key _ _ = false

abbrev pub held : Key → List Held → Option Val
held key [] = None
held key (h ∷ hs) = if same_key h.key key then h.value else held key hs

abbrev pub before : Held → Option (List Held) → Option (List Held)
before h None = None
before h (Some hs) = Some (h ∷ hs)

-- the cells with another value of one of them; none where there is no such cell
abbrev pub held_set : Key → Val → List Held → Option (List Held)
held_set key v [] = None
held_set key v (h ∷ hs) = if same_key h.key key then Some (record { key = h.key; value = Some v } ∷ hs) else before h (held_set key v hs)

abbrev pub value_in : Option (List Held) → Key → Option Val
value_in None key = None
value_in (Some hs) key = held key hs

-- the value in a cell
abbrev pub cell : Instances → (instance : ℕ) → Key → Option Val
cell m j key = value_in (cells_of m j) key

abbrev pub put_in : Option (List Held) → Key → Val → Option (List Held)
put_in None key v = None
put_in (Some hs) key v = held_set key v hs

-- the instances with another value in a cell
abbrev pub cell_set : Instances → (instance : ℕ) → Key → Val → Option Instances
cell_set m j key v = with_cells m j (put_in (cells_of m j) key v)

-- Cells of connections are there from the first connection on.
abbrev pub held_put : Key → Val → List Held → List Held
held_put key v [] = record { key = key; value = Some v } ∷ []
held_put key v (h ∷ hs) = if same_key h.key key then record { key = h.key; value = Some v } ∷ hs else h ∷ held_put key v hs

abbrev pub made_in : Option (List Held) → Key → Val → Option (List Held)
made_in None key v = None
made_in (Some hs) key v = Some (held_put key v hs)

-- the instances with a value in a cell that need not have been there
abbrev pub cell_made : Instances → (instance : ℕ) → Key → Val → Option Instances
cell_made m j key v = with_cells m j (made_in (cells_of m j) key v)
