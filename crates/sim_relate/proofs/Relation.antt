-- Which states of the machine stand for which states of a program.
use Rattle.std.proofs.Common.{◌≡◌, ◌⊎◌, ◌≢◌, ◌+◌, ◌<◌, ◌≤◌, ℕ, suc, Bool, true, false, List, [], ◌∷◌, length, Option, Some, None}
use Rattle.std.specs.Prelude.{⊤, drop, pos, slice_get}
use Rattle.sim_chains.specs.Components.{AttachedObject, DetachedObject, NoObject, ResumedObject, Standing, TerminatedObject}
use Rattle.sim_scope.specs.Access.{encloser}
use Rattle.sim_scope.specs.Source.{Source, block_around}
use Rattle.sim_tree.specs.declared.stmt.TypeName.{TypeName}
use Rattle.sim_tree.specs.Syntax.{Also, Arms, Element, Expression, NoStatement, Statement, Statements}
use Rattle.sim_tree.specs.Syntax as syntax
use Rattle.sim_values.specs.Plain.{Integer}
use Rattle.sim_code.specs.declared.code.BlockKind.{BlockKind}
use Rattle.sim_code.specs.declared.code.BlockKind.TheVariants as block_kind
use Rattle.sim_code.specs.declared.code.CodeType.{CodeType}
use Rattle.sim_code.specs.declared.code.CodeType.TheVariants as type
use Rattle.sim_code.specs.declared.instr.Instr.{Instr}
use Rattle.sim_code.specs.declared.instr.Instr.TheVariants as i
use Rattle.sim_code.specs.declared.stage.Stage.{Stage}
use Rattle.sim_code.specs.declared.stage.Stage.TheVariants as stage
use Rattle.sim_code.specs.Classes.{class_numbered}
use Rattle.sim_code.specs.Code.{BlockOf, ClassOf, CodeOf}
use Rattle.sim_code.specs.Instances.{Instance}
use Rattle.sim_code.specs.Machine.{Frames, Machine, Cells, joined}
use Rattle.sim_code.specs.Machine as machine
use Rattle.sim_code.proofs.Lifts.{Both}
use Rattle.sim_meaning.specs.Levels.{has_levels, is_class, levels_made, levels_of, text_at}
use Rattle.sim_meaning.specs.Pending.{Activation, ActivateOp, AgainOp, ArrayOp, AttributeOp, BackOp, BlockOp, BranchOp, CallOp, ChooseOp, CloseOp, Configuration, ConnectOp, CopyOp, DeclareOp, Do, DropOp, ElementOp, ElementsOp, EndBlock, EndEvaluation, EndLevel, EndObject, EndPrefixed, EndProcedure, EndProcessOp, EndProgram, EnterOp, Eval, Exec, Execs, FetchOp, FitsOp, GiveOp, Held, IfOp, InnerOp, Instances, Item, JoinOp, KeepOp, Key, Level, LevelOp, MemberOp, NamedOp, NewOp, NotNoneOp, ObjectOp, OneOp, Op, PastOp, PrefixedOp, ProcessOp, QuaOp, QualifiedElementOp, RaiseOp, ReferOp, SelfOp, SetOp, ShareOp, SimulationOp, StandardOp, StepOp, StepTestOp, StoreOp, SwapOp, Target, Term, TestOp, ToReferenceAt, TransferOp, TwoOp, WhenOp, WhileElementOp, held, VirtualOp, CheckOp, CallValueOp, OriginOp, ParameterOp, ProcedureOp}
use Rattle.sim_meaning.specs.Entries.{passes}
use Rattle.sim_meaning.specs.Meaning.{has_result}
use Rattle.sim_meaning.specs.Texts.{BlockText, ProcedureText, is_class_free, text}
use Rattle.sim_meaning.specs.Texts as Texts
use Rattle.codegen_expr.specs.Sites.{Ahead, At, HasCell, Is, LevelOf, LoopAt, Pushes, Site, block_number, class_number, expression_temps, frame_text, is_connected, own_end, place_of, slot_of}
use Rattle.codegen_expr.specs.CodeExpr.{ExprAt, PlaceAt, ReferencePlaceAt, member_instr, one_instr, two_instr}
use Rattle.codegen.specs.CodeArrays.{ArraysAt}
use Rattle.codegen.specs.CodeFor.{ElementsAt, OfCell, OfPlace, OfReference, ReturnsAt, StepAt, TurnAt, Variable, WhileElementAt}
use Rattle.codegen.specs.CodeStm.{ArmsAt, ConnectsAt, EndsAt, is_class_text, origins, StmAt, StmsAt, WithInnerAt}
use Rattle.codegen.specs.Compiled.{RecordOf, type_of_name}
use Rattle.sim_relate.proofs.Known.{HasClass, Calm, HandAt, InTemps, IsGiven, IsTemp, Keeps, Kind, Later, Low, Reaches, Refers, Runs, SameFrame, SlotAt, Spot, StackAt, Stands, anys, at_stage, is_declared, is_fixed, is_process_in, owner_of, place_target, placed, reads, site_at, spot, variable_target, LeavesIs}
use Rattle.sim_relate.proofs.Thunks.{AskedAt, CloseIs}
use Rattle.sim_relate.proofs.Waiting.{GetsIs, NoValue, OfName, Wait, demand, gets_any, given_by, suspended_by, value_if}
use Rattle.sim_relate.proofs.Trees.{Classed, TermAt, transfer_instr}
use Rattle.sim_relate.proofs.Operations.{Works, WorksAnyLine, ChoiceIs, IfIs, CallOpIs, NewOpIs, PrefixedOpIs, AttributeOpIs, NamedOpIs, ObjectOpIs, QualifiedElementOpIs, FitsOpIs, FetchOpIs, SwapIs, ReferIs, StandardOpIs, SetOpIs, ProcessOpIs, SimulationOpIs, BlockOpIs, ActivateOpIs, SelfOpIs, JoinOpIs, AgainIs, ArrayIs, StoreIs, TempIs, ShareIs, GiveIs, VirtualOpIs, CheckOpIs, CallValueOpIs, OriginOpIs, ParameterOpIs, ProcedureOpIs}

module _ (s : Source) (code : CodeOf) where
  -- ---- statements

  -- Where several elements share the code of the statement, a turn leaves its number in a temp, goes to the statement, and comes back.
  pub record TurningIs (site : Site) (n : ℕ) (a : Statement) (p q : ℕ) : Type 0 where
    pub temp : ℕ
    pub number : ℕ
    pub start : ℕ
    pub ticked : ℕ
    pub done : ℕ
    pub first : ℕ
    pub returns : List ℕ
    pub unused : site.used ≤ temp
    pub is_temp : TempIs s code site temp
    pub turn : TurnAt s code site n temp start returns number p q
    pub tick : Is code i.Tick start ticked
    pub body : StmAt s code (record site { used = suc temp }) n a start done
    pub back : ReturnsAt s code site n temp 0 returns done first

  -- the statement of a turn
  pub data TurnOf (site : Site) (n : ℕ) (a : Statement) (p q : ℕ) : Type 0 where
    straight : StmAt s code site n a p q → TurnOf site n a p q
    turning : TurningIs site n a p q → TurnOf site n a p q

  -- from p the number in a temp leads back to q
  pub record ReturningIs (fs : Frames) (inst t : ℕ) (b : Runs) (used n p q : ℕ) : Type 0 where
    pub temp : ℕ
    pub number : ℕ
    pub first : ℕ
    pub returns : List ℕ
    pub was : ℕ
    pub frame : b.thunk ≡ None
    pub «in_use» : temp < used
    pub is_temp : TempIs s code (site_at t b was) temp
    pub holds : placed fs inst temp ≡ Some (machine.Of (Integer (pos number)))
    pub leads : slice_get returns number ≡ Some q
    pub back : ReturnsAt s code (site_at t b was) n temp 0 returns p first

  -- from p control comes to q by what shows nothing
  pub data ComesTo (fs : Frames) (inst t : ℕ) (b : Runs) (used n q : ℕ) : (p : ℕ) → Type 0 where
    there : {p : ℕ} → q ≡ p → ComesTo fs inst t b used n q p
    over : {p p' x : ℕ} → Is code (i.Jump (pos p')) p x → Ahead code p p' → ComesTo fs inst t b used n q p' → ComesTo fs inst t b used n q p
    returning : {p p' : ℕ} → ReturningIs fs inst t b used n p p' → ComesTo fs inst t b used n q p' → ComesTo fs inst t b used n q p

  -- what is left of a conditional statement behind its test
  abbrev pub ChosenAt : Site → (n : ℕ) → Statement → Statements → ℕ → ℕ → Type 0
  ChosenAt site n a NoStatement p q = (z : ℕ) × Is code (i.JumpF (pos q)) p z × Ahead code p q × StmAt s code site n a z q
  ChosenAt site n a (Also b more) p q = ChoiceIs s code (StmAt s code site n a) (StmsAt s code site n (Also b more)) p q

  pub record ChooseIs (site : Site) (a : Statement) (b : Statements) (p q : ℕ) (before behind : List Kind) : Type 0 where
    pub chosen : ChosenAt site (length behind) a b p q
    pub «in» : before ≡ anys 1 behind

  -- where a test is false control leaves the loop; behind the statement something else stands
  pub record BranchIs (site : Site) (a : Statement) (Next : ℕ → List Kind → Type 0) (p q : ℕ) (before behind : List Kind) : Type 0 where
    pub z : ℕ
    pub w : ℕ
    pub jump : Is code (i.JumpF (pos q)) p z
    pub leads : Ahead code p q
    pub turn : TurnOf site (length behind) a z w
    pub next : Next w behind
    pub «in» : before ≡ anys 1 behind

  -- a jump back to a tick
  pub record BackIs (Next : ℕ → Type 0) (p : ℕ) : Type 0 where
    pub t : ℕ
    pub x : ℕ
    pub u : ℕ
    pub jump : Is code (i.Jump (pos t)) p x
    pub back : t ≤ p
    pub tick : Is code i.Tick t u
    pub next : Next t

  -- the variable of a `for` list: a cell, or what is found anew each time, which a closed tree tells
  pub record CellVariableIs (m : Instances) (inst text : ℕ) (key : Key) (assigned : Option ℕ) (t : Target) : Type 0 where
    pub instance : ℕ
    pub is : t ≡ variable_target assigned instance key
    pub reaches : Reaches s m inst text instance
    pub own : frame_text s text ≡ text
    pub has : HasCell s text key
    pub varies : is_fixed s key ≡ false
    pub declared : is_declared key ≡ true

  pub record PlaceVariableIs (m : Instances) (inst : ℕ) (site : Site) (e : Expression) (assigned : Option ℕ) (t : Target) : Type 0 where
    pub place : Term
    pub is : t ≡ place_target assigned place
    pub anew : (u n p q : ℕ) → PlaceAt s code (record site { used = u }) n 0 e p q → TermAt s code m inst (record site { used = u }) n place p q × (reads s place ≡ true)

  -- a reference, with the class against which it is held
  pub record FoundWithClass (m : Instances) (inst : ℕ) (site : Site) (n : ℕ) (a : Term) (p q : ℕ) : Type 0 where
    pub class : ℕ
    pub is_class : Classed s class
    pub term : TermAt s code m inst site n a p q
    pub leaves : (ks : List Kind) → LeavesIs s a ks (Refers class ∷ ks)

  pub record ReferenceVariableIs (m : Instances) (inst : ℕ) (site : Site) (e : Expression) (line : ℕ) (t : Target) : Type 0 where
    pub place : Term
    pub is : t ≡ ToReferenceAt place line
    pub anew : (u n p q : ℕ) → ReferencePlaceAt s code (record site { used = u }) n e p q → FoundWithClass m inst (record site { used = u }) n place p q

  abbrev pub VariableIs : Instances → (inst : ℕ) → Site → Variable → Target → Type 0
  VariableIs m inst site (OfCell text key assigned) t = CellVariableIs m inst text key assigned t
  VariableIs m inst site (OfPlace e assigned) t = PlaceVariableIs m inst site e assigned t
  VariableIs m inst site (OfReference e line) t = ReferenceVariableIs m inst site e line t

  pub record ElementsIs (m : Instances) (inst : ℕ) (site : Site) (t : Target) (es : List Element) (a : Statement) (p q : ℕ) (before behind : List Kind) : Type 0 where
    pub variable : Variable
    pub v : VariableIs m inst site variable t
    pub number : ℕ
    pub elements : ElementsAt s code site (length before) variable number es (λ k. TurnOf site (length before) a) p q
    pub out : behind ≡ before

  pub record WhileElementIs (m : Instances) (inst : ℕ) (site : Site) (t : Target) (e c : Expression) (a : Statement) (p q : ℕ) (before behind : List Kind) : Type 0 where
    pub variable : Variable
    pub v : VariableIs m inst site variable t
    pub element : WhileElementAt s code site (length before) variable e c (TurnOf site (length before) a) p q
    pub out : behind ≡ before

  -- a step element, at one of its places
  pub record StepIs (m : Instances) (inst : ℕ) (site : Site) (t : Target) (line : ℕ) (step limit : Expression) (a : Statement) (q : ℕ) (behind : List Kind) : Type 0 where
    pub variable : Variable
    pub v : VariableIs m inst site variable t
    pub start : Expression
    pub at : ℕ
    pub element : StepAt s code site (length behind) variable start line step limit (TurnOf site (length behind) a) at q

  -- ---- connections

  -- the object in hand is connected, or `otherwise` is taken; or the arms are tried
  pub record ConnectIs (site : Site) (opening : ℕ) (a : Statement) (other : Statements) (p q : ℕ) (before behind : List Kind) : Type 0 where
    pub left : List Kind
    pub b : ℕ
    pub c : ℕ
    pub d : ℕ
    pub e : ℕ
    pub f : ℕ
    pub g : ℕ
    pub y : ℕ
    pub z : ℕ
    pub again : Pushes code site (suc (length left)) i.Dup p b
    pub none : Pushes code site (suc (suc (length left))) i.None b c
    pub same : Is code i.Same c d
    pub other_than : Is code i.Not d e
    pub jump : Is code (i.JumpF (pos y)) e f
    pub leads : Ahead code e y
    pub connected : ConnectsAt s code site opening (block_around s opening) (λ site. StmAt s code site (length left) a) f g
    pub over : Is code (i.Jump (pos q)) g y
    pub past : Ahead code g q
    pub dropped : Is code i.Pop y z
    pub otherwise : StmsAt s code site (length left) other z q
    pub «in» : before ≡ anys 1 left
    pub out : behind ≡ left

  pub record WhenIs (site : Site) (arms : Arms) (other : Statements) (p q : ℕ) (before behind : List Kind) : Type 0 where
    pub left : List Kind
    pub tried : ArmsAt s code site (length left) arms (StmsAt s code site (length left) other) p q
    pub «in» : before ≡ anys 1 left
    pub out : behind ≡ left

  -- An operator stands at p and goes on at q. It is run in an instance, which has a frame, at a site.
  abbrev pub OpAt : Instances → Frames → (inst : ℕ) → Site → Op → (p q : ℕ) → (before behind : List Kind) → Type 0
  OpAt m fs inst site (Eval t) p q before behind = TermAt s code m inst site (length before) t p q × LeavesIs s t before behind
  OpAt m fs inst site (OneOp op line) p q before behind = Works s code (one_instr op) line 1 true p q before behind
  OpAt m fs inst site (TwoOp op line) p q before behind = Works s code (two_instr op) line 2 true p q before behind
  OpAt m fs inst site (IfOp a b) p q before behind = IfIs s code m inst site a b p q before behind
  OpAt m fs inst site (ElementOp n line) p q before behind = Works s code (i.Elem (pos n) (pos 0)) line (suc n) true p q before behind
  OpAt m fs inst site FetchOp p q before behind = FetchOpIs s code site p q before behind
  OpAt m fs inst site (CopyOp line) p q before behind = Works s code i.CopyArr line 1 true p q before behind
  OpAt m fs inst site (CallOp k n line) p q before behind = CallOpIs s code site k n line p q before behind
  OpAt m fs inst site (StandardOp name line) p q before behind = StandardOpIs s code site name line p q before behind
  OpAt m fs inst site (SetOp name) p q before behind = SetOpIs s code name p q before behind
  OpAt m fs inst site (ProcessOp name line) p q before behind = ProcessOpIs s code name line p q before behind
  OpAt m fs inst site (SimulationOp name line) p q before behind = SimulationOpIs s code m inst name line p q before behind
  OpAt m fs inst site (BlockOp j) p q before behind = BlockOpIs s code m inst site j p q before behind
  OpAt m fs inst site (ActivateOp again timing line) p q before behind = ActivateOpIs s code m inst again timing line p q before behind
  OpAt m fs inst site SelfOp p q before behind = SelfOpIs s code site p q before behind
  OpAt m fs inst site EndProcessOp p q before behind = ⊥
  OpAt m fs inst site (JoinOp line) p q before behind = JoinOpIs s code site line p q before behind
  OpAt m fs inst site DropOp p q before behind = WorksAnyLine s code i.Pop 1 false p q before behind
  OpAt m fs inst site AgainOp p q before behind = AgainIs s code site p q before behind
  OpAt m fs inst site (StoreOp t) p q before behind = StoreIs s code m inst site t p q before behind
  OpAt m fs inst site (ShareOp ts) p q before behind = ShareIs s code m inst site ts p q before behind
  OpAt m fs inst site (GiveOp v ts) p q before behind = GiveIs s code m fs inst site v ts p q before behind
  OpAt m fs inst site (ArrayOp kind n line) p q before behind = ArrayIs s code site kind n line p q before behind
  OpAt m fs inst site (Exec a) p q before behind = TurnOf site (length before) a p q × (behind ≡ before)
  OpAt m fs inst site (Execs ss) p q before behind = StmsAt s code site (length before) ss p q × (behind ≡ before)
  OpAt m fs inst site (EnterOp k line) p q before behind =
      At code (i.Enter (pos (block_number s k))) line p q × (encloser s.tables k ≡ Some site.text) × (behind ≡ before)
  OpAt m fs inst site (ChooseOp a b) p q before behind = ChooseIs site a b p q before behind
  OpAt m fs inst site (TestOp c a) p q before behind =
      (y : ℕ) × (w : ℕ) × LoopAt code (ExprAt s code site (length before) c) (StmAt s code site (length before) a) p y w q × (behind ≡ before)
  OpAt m fs inst site (BranchOp a next) p q before behind = BranchIs site a (λ w ks. OpAt m fs inst site next w q ks ks) p q before behind
  OpAt m fs inst site (BackOp op) p q before behind = BackIs (λ t. OpAt m fs inst site op t q before behind) p
  OpAt m fs inst site PastOp p q before behind = (x : ℕ) × Is code (i.Jump (pos q)) p x × Ahead code p q × (behind ≡ before)
  OpAt m fs inst site (ElementsOp t es a) p q before behind = ElementsIs m inst site t es a p q before behind
  OpAt m fs inst site (WhileElementOp t e c a) p q before behind = WhileElementIs m inst site t e c a p q before behind
  OpAt m fs inst site (StepTestOp t line step limit a) p q before behind = (x : StepIs m inst site t line step limit a q behind) × (x.element.t ≡ p) × (before ≡ anys 1 behind)
  OpAt m fs inst site (StepOp line) p q before behind = WorksAnyLine s code i.StepTest 3 true p q before behind
  OpAt m fs inst site (RaiseOp t line step limit a) p q before behind = (x : StepIs m inst site t line step limit a q behind) × (x.element.h ≡ p) × (before ≡ behind)
  OpAt m fs inst site (NewOp k n line) p q before behind = NewOpIs s code site k n line p q before behind
  OpAt m fs inst site (AttributeOp k key class line) p q before behind = AttributeOpIs s code k key class line p q before behind
  OpAt m fs inst site (ObjectOp k line) p q before behind = ObjectOpIs s code k line p q before behind
  OpAt m fs inst site (VirtualOp v line) p q before behind = VirtualOpIs s code v line p q before behind
  OpAt m fs inst site (OriginOp k token line) p q before behind = OriginOpIs s code site k token line p q before behind
  OpAt m fs inst site (ProcedureOp k) p q before behind = ProcedureOpIs s code k p q before behind
  OpAt m fs inst site (CheckOp es line) p q before behind = CheckOpIs s code es line p q before behind
  OpAt m fs inst site (ParameterOp n e line) p q before behind = ParameterOpIs s code site n e line p q before behind
  OpAt m fs inst site (CallValueOp n leaves line) p q before behind = CallValueOpIs s code site n leaves line p q before behind
  OpAt m fs inst site (NamedOp j key wanted) p q before behind = NamedOpIs s code m inst site j key wanted p q before behind
  OpAt m fs inst site (CloseOp as_procedure e) p q before behind = CloseIs s code site as_procedure e p q before behind
  OpAt m fs inst site (QualifiedElementOp n line k) p q before behind = QualifiedElementOpIs s code n line k p q before behind
  OpAt m fs inst site (MemberOp member k) p q before behind = Classed s k × WorksAnyLine s code (member_instr member (class_number s code k)) 1 true p q before behind
  OpAt m fs inst site (QuaOp k line) p q before behind = Classed s k × Works s code (i.Qua (pos (class_number s code k))) line 1 true p q before behind
  OpAt m fs inst site (FitsOp k line) p q before behind = FitsOpIs s code site k line p q before behind
  OpAt m fs inst site KeepOp p q before behind = WorksAnyLine s code i.Keep 1 true p q before behind
  OpAt m fs inst site (NotNoneOp line) p q before behind = Works s code i.NotNone line 1 true p q before behind
  OpAt m fs inst site (TransferOp t line) p q before behind = Works s code (transfer_instr t) line 1 false p q before behind
  OpAt m fs inst site SwapOp p q before behind = SwapIs s code p q before behind
  OpAt m fs inst site (ReferOp line) p q before behind = ReferIs s code line p q before behind
  OpAt m fs inst site (DeclareOp ds) p q before behind = ArraysAt s code site ds p q × (before ≡ []) × (behind ≡ [])
  OpAt m fs inst site (ConnectOp k a other) p q before behind = ConnectIs site k a other p q before behind
  OpAt m fs inst site (WhenOp arms other) p q before behind = WhenIs site arms other p q before behind
  OpAt m fs inst site (LevelOp k) p q before behind = ⊥
  OpAt m fs inst site (InnerOp xs) p q before behind = ⊥
  OpAt m fs inst site (PrefixedOp k n line) p q before behind = PrefixedOpIs s code site k n line p q before behind

  -- ---- stages

  -- A level of an instance, counted from the outermost one: its text, the record of its block, and that of its class.
  pub record LevelIs (b : Runs) (text place : ℕ) (block : BlockOf) (class : ClassOf) : Type 0 where
    pub level : LevelOf s.tables b.own text
    pub has : has_levels (Texts.text s text) ≡ true
    pub place_is : slice_get (levels_of s b.own) place ≡ Some text
    pub frame : frame_text s text ≡ text
    pub found : slice_get code.blocks (block_number s text) ≡ Some block
    pub numbered : class_numbered code (class_number s code text) ≡ Some class
    pub roomy : block.room ≤ b.room
    -- all levels have room
    pub own_roomy : (x : BlockOf) → slice_get code.blocks (block_number s b.own) ≡ Some x → x.room ≤ b.room
    pub of_class : HasClass s b.own
    pub base : b.thunk ≡ None

  -- at a level and a stage, with no temp of statements in use
  abbrev pub at_level : Runs → (text : ℕ) → BlockOf → Stage → Spot
  at_level b k block stage = spot k (record b { limit = block.room; temps = own_end s code k; block = block; stage = stage }) (own_end s code k + expression_temps)

  -- The declarations of a level are made: those of the next one follow, or behind the last one the statements of the first one.
  pub record NextIs (b : Runs) (place : ℕ) (c : Spot) (q : ℕ) : Type 0 where
    pub text : ℕ
    pub block : BlockOf
    pub class : ClassOf
    pub level : LevelIs b text (suc place) block class
    pub leads : class.declarations ≡ q
    pub goes_on : c ≡ at_level b text block (stage.Declaring (suc place))

  pub record FirstIs (b : Runs) (place : ℕ) (c : Spot) (q : ℕ) : Type 0 where
    pub last : slice_get (levels_of s b.own) (suc place) ≡ None
    pub text : ℕ
    pub block : BlockOf
    pub class : ClassOf
    pub level : LevelIs b text 0 block class
    pub leads : class.statements ≡ q
    pub goes_on : c ≡ at_level b text block (stage.Stating 0)

  pub data DeclaredTo (b : Runs) (place : ℕ) (c : Spot) (q : ℕ) : Type 0 where
    to_next : NextIs b place c q → DeclaredTo b place c q
    to_first : FirstIs b place c q → DeclaredTo b place c q

  pub record DeclaredIs (b : Runs) (c : Spot) (p q : ℕ) (before behind : List Kind) : Type 0 where
    pub place : ℕ
    pub was : b.stage ≡ stage.Declaring place
    pub on : ℕ
    pub is : Is code (i.NextDecl (pos place)) p on
    pub there : q < length code.instrs
    pub to : DeclaredTo b place c q
    pub none : before ≡ []
    pub none_behind : behind ≡ []

  -- The level of a text in which `inner` is reached: control goes on behind it at another stage, with nothing in hand.
  pub record AtLevel (site : Site) (b : Runs) (c : Spot) (place after : ℕ) (before behind : List Kind) : Type 0 where
    pub was : b.stage ≡ stage.Stating place
    pub class : ClassOf
    pub level : LevelIs b site.text place b.block class
    pub leads : class.after_inner ≡ after
    pub there : after < length code.instrs
    pub low : site.used ≡ own_end s code site.text + expression_temps
    pub limit_is : b.limit ≡ b.block.room
    pub temps_are : b.temps ≡ own_end s code site.text
    pub goes_on : c ≡ spot site.text (at_stage b (stage.Behind place)) site.used
    pub none : before ≡ []
    pub none_behind : behind ≡ []

  -- the statements of these levels are those inside
  pub record InnerIs (site : Site) (b : Runs) (c : Spot) (xs : List Level) (p q : ℕ) (before behind : List Kind) : Type 0 where
    pub place : ℕ
    pub at : AtLevel site b c place q before behind
    pub is : Is code (i.Inner (pos place)) p q
    pub inside : levels_made s (drop (suc place) (levels_of s b.own)) ≡ Some xs

  -- `inner` itself, in the level of a text
  pub record InnerHere (site : Site) (b : Runs) (c : Spot) (token p q : ℕ) (before behind : List Kind) : Type 0 where
    pub place : ℕ
    pub at : AtLevel site b c place q before behind
    pub x : ℕ
    pub tick : Is code i.Tick p x
    pub is : Is code (i.Inner (pos place)) x q
    pub its_own : block_around s token ≡ Some site.text
    pub ordinary : is_process_in s site.text ≡ false

  -- statements one of which is `inner`
  pub record WithInnerIs (site : Site) (b : Runs) (c : Spot) (ss : Statements) (p q : ℕ) (before behind : List Kind) : Type 0 where
    pub place : ℕ
    pub after : ℕ
    pub at : AtLevel site b c place after before behind
    pub is : WithInnerAt s code site place after ss p q
    pub ordinary : is_process_in s site.text ≡ false

  -- The end of a process, behind `inner` of the level of the class `process`: its own class is that, or among the classes with that level.
  pub record EndProcessIs (site : Site) (b : Runs) (c : Spot) (p q : ℕ) (before behind : List Kind) : Type 0 where
    pub place : ℕ
    pub was : b.stage ≡ stage.Behind place
    pub class : ClassOf
    pub level : LevelIs b site.text place b.block class
    pub process : is_process_in s site.text ≡ true
    pub around : ℕ
    pub is_around : encloser s.tables site.text ≡ Some around
    pub classes : List ℕ
    pub each_class : (n k : ℕ) → slice_get classes n ≡ Some k → is_class_text (Texts.text s k) ≡ true
    pub own : ((n : ℕ) × (slice_get classes n ≡ Some b.own)) ⊎ (b.own ≡ site.text)
    pub ends : EndsAt s code site around classes (origins s site.text) p q
    pub low : site.used ≡ own_end s code site.text + expression_temps
    pub goes_on : c ≡ spot site.text b site.used
    pub none : before ≡ []
    pub none_behind : behind ≡ []

  -- An operator leaves level and stage as they are, or it is one of those that go to the next one.
  pub data InStage (Stays : Op → (p q : ℕ) → (before behind : List Kind) → Type 0) (site : Site) (op : Op) (b : Runs) (c : Spot) (p q : ℕ) (before behind : List Kind) : Type 0 where
    stays : Stays op p q before behind → Calm s b → c ≡ spot site.text b site.used → InStage Stays site op b c p q before behind
    declares : (k : ℕ) → op ≡ LevelOp k → DeclaredIs b c p q before behind → InStage Stays site op b c p q before behind
    inner_last : (xs : List Level) → op ≡ InnerOp xs → InnerIs site b c xs p q before behind → InStage Stays site op b c p q before behind
    inner_here : (token : ℕ) → op ≡ Exec (syntax.Inner token) → InnerHere site b c token p q before behind → InStage Stays site op b c p q before behind
    with_inner : (ss : Statements) → op ≡ Execs ss → WithInnerIs site b c ss p q before behind → InStage Stays site op b c p q before behind
    ends_process : op ≡ EndProcessOp → EndProcessIs site b c p q before behind → InStage Stays site op b c p q before behind

  -- ---- pending work

  -- the instruction that ends a text; its block's record
  pub record EndIs (x : Instr) (kind : BlockKind) (result : CodeType) (t : ℕ) (Base : Type 0) (b : BlockOf) (p : ℕ) (before : List Kind) (Below : Type 0) : Type 0 where
    pub base : Base
    pub last : ℕ
    pub at : Is code x p last
    pub heads : RecordOf s code t kind result b
    pub none : before ≡ []
    pub below : Below

  pub record BlockEnds (t : ℕ) : Type 0 where
    pub begin : ℕ
    pub declarations : syntax.Declarations
    pub statements : Statements
    pub is : text s t ≡ Some (BlockText begin declarations statements)

  pub record ProcedureEnds (t : ℕ) (leaves : Bool) (Ends : Option TypeName → Type 0) : Type 0 where
    pub result : Option TypeName
    pub heading : syntax.Heading
    pub body : Statement
    pub is : text s t ≡ Some (ProcedureText result heading body)
    pub same : has_result result ≡ leaves
    pub ends : Ends result

  -- the end of the program, whose block may have a prefix
  pub record ProgramEnds (t : ℕ) (Base : Type 0) (p : ℕ) (before : List Kind) (Below : Type 0) : Type 0 where
    pub base : Base
    pub first : t ≡ 0
    pub last : ℕ
    pub at : Is code (i.EndLevel (pos 0)) p last
    pub none : before ≡ []
    pub below : Below

  -- the end of an object or a prefixed block
  pub record OutermostEnds (kind : BlockKind) (b : Runs) (Base : Type 0) (p : ℕ) (before : List Kind) (Below : Type 0) : Type 0 where
    pub levels : has_levels (text s b.own) ≡ true
    pub not_first : block_number s b.own ≢ 0
    pub was : b.stage ≡ stage.Behind 0
    pub block : BlockOf
    pub found : slice_get code.blocks (block_number s b.own) ≡ Some block
    pub ends : EndIs (i.EndLevel (pos 0)) kind type.Nothing b.own Base block p before Below

  -- The end of a level inside another one: control goes on behind `inner` of that.
  pub record LevelEnds (b : Runs) (c : Spot) (p q : ℕ) (before : List Kind) : Type 0 where
    pub place : ℕ
    pub was : b.stage ≡ stage.Behind (suc place)
    pub is_at : ℕ
    pub is : Is code (i.EndLevel (pos (suc place))) p is_at
    pub block : BlockOf
    pub class : ClassOf
    pub text : ℕ
    pub level : LevelIs b text place block class
    pub leads : class.after_inner ≡ q
    pub there : q < length code.instrs
    pub goes_on : c ≡ at_level b text block (stage.Behind place)
    pub none : before ≡ []

  -- the end of the evaluation of an actual parameter by name, with what it gives in hand
  pub record EvaluationEnds (thunk : Option ℕ) (rest : List Item) (p : ℕ) (before : List Kind) (Below : Type 0) : Type 0 where
    pub number : ℕ
    pub is_thunk : thunk ≡ Some number
    pub alone : rest ≡ []
    pub last : ℕ
    pub at : Is code i.EndThunk p last
    pub kind : Kind
    pub given : IsGiven s kind
    pub one : before ≡ kind ∷ []
    pub below : Below

  -- an end of an instance, behind which nothing is pending
  abbrev pub IsBase : Runs → (rest : List Item) → Type 0
  IsBase b rest = (b.thunk ≡ None) × (rest ≡ [])

  -- the end of a text
  abbrev pub EndAt : (Below : Wait → Type 0) → (t : ℕ) → Runs → Item → (rest : List Item) → (p : ℕ) → (before : List Kind) → Type 0
  EndAt Below t b (Do op) rest p before = ⊥
  EndAt Below t b EndBlock rest p before = BlockEnds t × EndIs i.Leave block_kind.SubBlock type.Nothing t (IsBase b rest) b.block p before (Below NoValue)
  EndAt Below t b (EndProcedure leaves) rest p before = ProcedureEnds t leaves (λ result. EndIs i.Return block_kind.Procedure (type_of_name result) t (IsBase b rest) b.block p before (Below (value_if leaves)))
  EndAt Below t b EndProgram rest p before = ProgramEnds t (IsBase b rest) p before (Below NoValue)
  EndAt Below t b EndObject rest p before = OutermostEnds block_kind.Object b (IsBase b rest) p before (Below NoValue)
  EndAt Below t b EndPrefixed rest p before = OutermostEnds block_kind.Prefixed b (IsBase b rest) p before (Below NoValue)
  EndAt Below t b (EndEvaluation wanted) rest p before = EvaluationEnds b.thunk rest p before (Below (OfName wanted))
  EndAt Below t b _ rest p before = ⊥

  -- an operator in its own place
  abbrev pub BeginsAt : Instances → Frames → (inst : ℕ) → Site → Op → (p q : ℕ) → (before behind : List Kind) → Type 0
  BeginsAt m fs inst site (Exec a) p q before behind = StmAt s code site (length before) a p q × (behind ≡ before)
  BeginsAt m fs inst site op p q before behind = OpAt m fs inst site op p q before behind

  -- The pending work of an instance at the text t, whose block is b, from the place p on, where cells and temps up to `used` are in use. An
  -- operator may use more of them than those behind it, and no fewer than the text has cells and temps of expressions; it may stand in another text whose frames are
  -- these, as in a connection. Behind it the work may go on at another level or stage. `Below` tells of what is below on the chain, and whether that waits for a value.
  abbrev pub WorkAt : Instances → Frames → (Below : Wait → Type 0) → (inst t : ℕ) → Runs → (used : ℕ) → List Item → (p : ℕ) → (before : List Kind) → Type 0
  WorkAt m fs Below inst t b used [] p before = ⊥
  WorkAt m fs Below inst t b used (Do op ∷ w) p before =
      (at : ℕ) × (u : ℕ) × (q : ℕ) × (behind : List Kind) × (v : ℕ) × (c : Spot) × SameFrame s v t × ComesTo fs inst t b used (length before) at p × (u ≤ used) × Low s code t b u
      × InStage (OpAt m fs inst (site_at v b u)) (site_at v b u) op b c at q before behind × WorkAt m fs Below inst c.text c.runs c.used w q behind
  WorkAt m fs Below inst t b used (EndBlock ∷ w) p before = (at : ℕ) × ComesTo fs inst t b used (length before) at p × EndAt Below (frame_text s t) b EndBlock w at before
  WorkAt m fs Below inst t b used (EndProcedure leaves ∷ w) p before = (at : ℕ) × ComesTo fs inst t b used (length before) at p × EndAt Below (frame_text s t) b (EndProcedure leaves) w at before
  WorkAt m fs Below inst t b used (EndProgram ∷ w) p before = (at : ℕ) × ComesTo fs inst t b used (length before) at p × EndAt Below (frame_text s t) b EndProgram w at before
  WorkAt m fs Below inst t b used (EndObject ∷ w) p before = (at : ℕ) × ComesTo fs inst t b used (length before) at p × EndAt Below (frame_text s t) b EndObject w at before
  WorkAt m fs Below inst t b used (EndPrefixed ∷ w) p before = (at : ℕ) × ComesTo fs inst t b used (length before) at p × EndAt Below (frame_text s t) b EndPrefixed w at before
  WorkAt m fs Below inst t b used (EndEvaluation wanted ∷ w) p before = (at : ℕ) × ComesTo fs inst t b used (length before) at p × EndAt Below (frame_text s t) b (EndEvaluation wanted) w at before
  WorkAt m fs Below inst t b used (EndLevel k ∷ w) p before =
      (at : ℕ) × (q : ℕ) × (c : Spot) × ComesTo fs inst t b used (length before) at p × LevelEnds b c at q before × WorkAt m fs Below inst c.text c.runs c.used w q []

  -- The same where control has come to the first part, which a statement begins in its own place.
  abbrev pub NowAt : Instances → Frames → (Below : Wait → Type 0) → (inst t : ℕ) → Runs → (used : ℕ) → List Item → (p : ℕ) → (before : List Kind) → Type 0
  NowAt m fs Below inst t b used [] p before = ⊥
  NowAt m fs Below inst t b used (Do op ∷ w) p before =
      (u : ℕ) × (q : ℕ) × (behind : List Kind) × (v : ℕ) × (c : Spot) × SameFrame s v t × (u ≤ used) × Low s code t b u × InStage (BeginsAt m fs inst (site_at v b u)) (site_at v b u) op b c p q before behind × WorkAt m fs Below inst c.text c.runs c.used w q behind
  NowAt m fs Below inst t b used (EndBlock ∷ w) p before = EndAt Below (frame_text s t) b EndBlock w p before
  NowAt m fs Below inst t b used (EndProcedure leaves ∷ w) p before = EndAt Below (frame_text s t) b (EndProcedure leaves) w p before
  NowAt m fs Below inst t b used (EndProgram ∷ w) p before = EndAt Below (frame_text s t) b EndProgram w p before
  NowAt m fs Below inst t b used (EndObject ∷ w) p before = EndAt Below (frame_text s t) b EndObject w p before
  NowAt m fs Below inst t b used (EndPrefixed ∷ w) p before = EndAt Below (frame_text s t) b EndPrefixed w p before
  NowAt m fs Below inst t b used (EndEvaluation wanted ∷ w) p before = EndAt Below (frame_text s t) b (EndEvaluation wanted) w p before
  NowAt m fs Below inst t b used (EndLevel k ∷ w) p before = (q : ℕ) × (c : Spot) × LevelEnds b c p q before × WorkAt m fs Below inst c.text c.runs c.used w q []

  -- ---- chains

  -- An instance or an evaluation on a chain, and the activation that stands for it; `waits` tells what is given by what is directly above it. What
  -- waits for a parameter by name stands behind the instruction that uses it.
  pub record TopIs (m : Instances) (fs : Frames) (a : Activation) (waits : Wait) (x : machine.Activation) (Work : (t : ℕ) → Runs → (used p : ℕ) → List Kind → Type 0) : Type 0 where
    pub home : x.home ≡ a.instance
    pub text : ℕ
    pub block : Runs
    pub base : x.thunk ≡ block.thunk
    pub found : slice_get code.blocks (block_number s (frame_text s text)) ≡ Some block.block
    pub stands : Stands s m a.instance text
    pub own : text_at m a.instance ≡ Some block.own
    pub roomy : block.limit ≤ block.room
    pub room : x.room ≡ block.room
    pub stage : x.stage ≡ block.stage
    pub kinds : List Kind
    pub values : StackAt (HandAt s code m) kinds a.values x.stack
    pub gets : Wait
    pub gets_is : GetsIs (suspended_by m (owner_of block.thunk a.instance)) waits gets
    pub fits : gets_any gets ≡ true → length kinds < block.room
    pub asked : AskedAt s code gets x.pc
    pub used : ℕ
    pub goes : Work text block used x.pc (given_by gets kinds)

  -- A chain that stands on a ground.
  abbrev pub ChainOn : (Ground : Wait → List machine.Activation → Type 0) → Instances → Frames → List Activation → Wait → List machine.Activation → Type 0
  ChainOn Ground m fs [] waits below = Ground waits below
  ChainOn Ground m fs (a ∷ rest) waits [] = ⊥
  ChainOn Ground m fs (a ∷ rest) waits (x ∷ below) =
      TopIs m fs a waits x (λ t b used p ks. WorkAt m fs (λ value. ChainOn Ground m fs rest value below) a.instance t b used a.work p ks)

  -- nothing is below, where the end of the chain gives this
  pub record Bottom (gives waits : Wait) (below : List machine.Activation) : Type 0 where
    pub still : waits ≡ gives
    pub is : below ≡ []

  abbrev pub ChainAt : Instances → Frames → List Activation → Wait → List machine.Activation → Type 0
  ChainAt m fs chain waits below = ChainOn (Bottom NoValue) m fs chain waits below

  -- ---- stores

  -- How the frames of a text are laid out: the cells of its levels have slots of their own, apart from the temps of all levels, and each frame
  -- has room for those of all levels. The temps of the statements of a level are apart from those of the expressions of all levels.
  pub record Laid (own : ℕ) : Type 0 where
    pub one_level : (t u : ℕ) (key : Key) → LevelOf s.tables own t → LevelOf s.tables own u → HasCell s t key → HasCell s u key → t ≡ u
    pub one_key : (t u : ℕ) (k l : Key) → LevelOf s.tables own t → LevelOf s.tables own u → HasCell s t k → HasCell s u l → slot_of s code t k ≡ slot_of s code u l → k ≡ l
    pub apart : (t u temp : ℕ) (k : Key) (b : BlockOf) → LevelOf s.tables own t → LevelOf s.tables own (frame_text s u) → HasCell s t k → slice_get code.blocks (block_number s (frame_text s u)) ≡ Some b → InTemps s code u temp b → slot_of s code t k ≢ temp
    pub temps_apart : (t u c d : ℕ) (x y : BlockOf) → LevelOf s.tables own (frame_text s t) → LevelOf s.tables own (frame_text s u) → slice_get code.blocks (block_number s (frame_text s t)) ≡ Some x → slice_get code.blocks (block_number s (frame_text s u)) ≡ Some y → own_end s code (frame_text s t) ≤ c → c < own_end s code (frame_text s t) + expression_temps → c < length x.types → IsTemp s code u d y → c ≢ d
    pub fits : (t : ℕ) (k : Key) (b : BlockOf) → LevelOf s.tables own t → HasCell s t k → slice_get code.blocks (block_number s own) ≡ Some b → slot_of s code t k < length b.types
    pub longer : (t : ℕ) (x b : BlockOf) → LevelOf s.tables own t → slice_get code.blocks (block_number s t) ≡ Some x → slice_get code.blocks (block_number s own) ≡ Some b → length x.types ≤ length b.types
    pub block : (b : BlockOf) × (slice_get code.blocks (block_number s own) ≡ Some b)

  -- an instance and its frame
  pub record InstanceAt (m : Instances) (x : Instance (List Held)) (y : Instance Cells) : Type 0 where
    pub number : y.text ≡ block_number s x.text
    pub level : y.level ≡ x.level
    pub encloser : y.encloser ≡ x.encloser
    pub passing : y.passing ≡ x.passing
    pub passes_so : x.passing ≡ passes (text s x.text) (is_class_free s x.text)
    pub kept : y.kept ≡ x.kept
    pub given_back : y.given_back ≡ x.given_back
    pub own : frame_text s x.text ≡ x.text
    pub solid : is_connected s.tables x.text ≡ false
    pub laid : Laid x.text
    -- each cell of each level, by its key; those that are declared are there
    pub cells : (t : ℕ) (key : Key) → LevelOf s.tables x.text t → HasCell s t key → SlotAt s code m (is_fixed s key) key (held key x.cells) (joined (slice_get y.cells (slot_of s code t key)))
    pub there : (t : ℕ) (key : Key) → LevelOf s.tables x.text t → HasCell s t key → is_declared key ≡ true → place_of key x.cells < length x.cells
    pub size : (b : BlockOf) → slice_get code.blocks (block_number s x.text) ≡ Some b → length y.cells ≡ length b.types

  pub record StoreAt (m : Instances) (fs : Frames) : Type 0 where
    pub as_many : length m.instances ≡ length fs.instances
    pub at : (j : ℕ) → Both (InstanceAt m) (slice_get m.instances j) (slice_get fs.instances j)
    pub all : (j : ℕ) (x : Instance (List Held)) → slice_get m.instances j ≡ Some x → Stands s m j x.text

  -- an object: its own text is a class, so that its end gives no value
  pub record ObjectIs (m : Instances) (j : ℕ) : Type 0 where
    pub own : ℕ
    pub is : text_at m j ≡ Some own
    pub class : is_class (Texts.text s own) ≡ true

  -- How an instance and its frame stand as components: alike, and the chains that they keep stand for each other. Nothing is below on these,
  -- and a main chain gives at its end what its head waits for.
  abbrev pub StandingAt : Instances → Frames → (instance : ℕ) → Standing Activation → Standing machine.Activation → Type 0
  StandingAt m fs j (NoObject None) (NoObject None) = ⊤
  StandingAt m fs j (NoObject (Some chain)) (NoObject (Some below)) = ChainOn (Bottom (demand NoValue chain)) m fs chain NoValue below
  StandingAt m fs j AttachedObject AttachedObject = ObjectIs m j
  StandingAt m fs j (DetachedObject chain) (DetachedObject below) = ObjectIs m j × ChainAt m fs chain NoValue below
  StandingAt m fs j ResumedObject ResumedObject = ObjectIs m j
  StandingAt m fs j TerminatedObject TerminatedObject = ⊤
  StandingAt m fs j _ _ = ⊥

  -- each instance stands in some way
  pub record StandingsAt (m : Instances) (fs : Frames) : Type 0 where
    pub each : (j : ℕ) → Both (StandingAt m fs j) (slice_get m.standings j) (slice_get fs.standings j)
    pub counted : length m.standings ≡ length m.instances

  -- What a step does to both stores, if it makes no instance: all is found as before, temps of some instances are as they were, and so is
  -- how each instance stands.
  pub record Changed (Of : ℕ → Type 0) (m : Instances) (fs : Frames) (m' : Instances) (fs' : Frames) : Type 0 where
    pub store : StoreAt m' fs'
    pub later : Later s m m'
    pub keeps : Keeps s code m fs fs' Of
    pub standings : m'.standings ≡ m.standings
    pub frame_standings : fs'.standings ≡ fs.standings
    pub as_many : length m'.instances ≡ length m.instances

  pub record StateAt (c : Configuration) (x : Machine) : Type 0 where
    pub chain : ChainAt c.memory x.memory c.chain NoValue x.chain
    pub store : StoreAt c.memory x.memory
    pub parked : StandingsAt c.memory x.memory

  -- the same where control has come to the first part
  abbrev pub ChainNow : Instances → Frames → List Activation → List machine.Activation → Type 0
  ChainNow m fs [] below = Bottom NoValue NoValue below
  ChainNow m fs (a ∷ rest) [] = ⊥
  ChainNow m fs (a ∷ rest) (x ∷ below) =
      TopIs m fs a NoValue x (λ t b used p ks. NowAt m fs (λ value. ChainAt m fs rest value below) a.instance t b used a.work p ks)

  pub record StateNow (c : Configuration) (x : Machine) : Type 0 where
    pub chain : ChainNow c.memory x.memory c.chain x.chain
    pub store : StoreAt c.memory x.memory
    pub parked : StandingsAt c.memory x.memory
