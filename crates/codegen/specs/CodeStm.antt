-- Which code stands for a statement. There are n values on the operand stack before it and behind it.
use Rattle.std.specs.Prelude.{◌≡◌, ◌||◌, ◌&&◌, ◌+◌, ◌-◌, ◌==◌, ℕ, zero, suc, Bool, true, false, pos, List, [], ◌∷◌, length, slice_get, Option, Some, None}
use Rattle.sim_scope.specs.Assignments.{last_value, left_sides}
use Rattle.sim_scope.specs.Access.{encloser}
use Rattle.sim_scope.specs.Scopes.{entry_of}
use Rattle.sim_scope.specs.Levels.{has_level}
use Rattle.sim_scope.specs.Source.{Source, block_around, denoted, found_at, level_of, line_at}
use Rattle.sim_tree.specs.Syntax.{Also, Arms, Begin, Block, Expression, Expressions, NoArm, NoDeclaration, NoMore, NoStatement, Schedule, Statement, Statements, Then, When, With}
use Rattle.sim_tree.specs.Syntax as syntax
use Rattle.sim_code.specs.declared.instr.Instr.TheVariants as i
use Rattle.sim_code.specs.Code.{CodeOf}
use Rattle.sim_values.specs.declared.standard.Standard.TheVariants as name_of
use Rattle.sim_code.specs.Names.{standard_names}
use Rattle.sim_code.specs.Scheduling.{AtTime, Beside, Directly, Timing, WithDelay}
use Rattle.sim_code.specs.Transfers.{Calling, Detaching, Resuming, Transfer}
use Rattle.sim_meaning.specs.Attributes.{cell_of_connection, connection_at, own_attribute, transfer_at}
use Rattle.sim_meaning.specs.Closing.{class_parameters, formals_at, is_attribute, is_text, is_variable, stream_of}
use Rattle.sim_meaning.specs.Levels.{class_at, last_line}
use Rattle.sim_meaning.specs.Objects.{no_line}
use Rattle.sim_meaning.specs.Pending.{Connection, Origin}
use Rattle.sim_meaning.specs.Statements.{begin_of, is_again, leaves, simulation_around, timing}
use Rattle.sim_meaning.specs.Texts.{ClassText, ConnectionText, Text, text}
use Rattle.sim_meaning.specs.Texts as Texts
use Rattle.codegen_expr.specs.Sites.{Ahead, At, HasCell, IfAt, Inside, Is, LoopAt, Pushes, Site, WhenAt, block_number, class_number, frame_text, slot_of}
use Rattle.codegen_expr.specs.CodeExpr.{ActualsAt, Listed, parameters_at, ConnectedNameAt, DotAt, ExprAt, ExprsAt, NamedAt, OfObjectAt, OwnAt, OwnNameAt, PlaceAt, ThisFoundAt, ThroughAt, gives, operands}
use Rattle.codegen.specs.Agrees.{is_prefixed}
use Rattle.codegen.specs.CodeFor.{ForAt, assigned_by, is_empty, variable_of}
use Rattle.codegen.specs.CodeLeft.{AssignAt, each_stored}

-- ---- statements

-- what a call leaves is dropped
abbrev pub DropsAt : CodeOf → Bool → ℕ → ℕ → Type 0
DropsAt code true p q = Is code i.Pop p q
DropsAt code false p q = q ≡ p

-- a sub-block stands in the text from which it is entered
abbrev pub EnterAt : Source → CodeOf → Site → (line : ℕ) → Option ℕ → ℕ → ℕ → Type 0
EnterAt s code site line None p q = ⊥
EnterAt s code site line (Some zero) p q = ⊥
EnterAt s code site line (Some (suc k)) p q = (encloser s.tables (suc k) ≡ Some site.text) × At code (i.Enter (pos (block_number s (suc k)))) line p q

-- A block prefix: its actuals, and the entry of the prefixed block, which stands in the text from which it is entered.
pub record PrefixAt (s : Source) (code : CodeOf) (site : Site) (n line text : ℕ) (es : Expressions) (p q : ℕ) : Type 0 where
  pub x : ℕ
  pub is : is_prefixed s.tables text ≡ true
  pub around : encloser s.tables text ≡ Some site.text
  pub actuals : ActualsAt s code site n line true es (Listed (class_parameters s (Some text))) p x
  pub enter : At code (i.Pref (pos (block_number s text)) (pos (operands es))) line x q

abbrev pub PrefixedAt : Source → CodeOf → Site → (n line : ℕ) → Expressions → Option ℕ → ℕ → ℕ → Type 0
PrefixedAt s code site n line es None p q = ⊥
PrefixedAt s code site n line es (Some zero) p q = ⊥
PrefixedAt s code site n line es (Some (suc k)) p q = PrefixAt s code site n line (suc k) es p q

-- `detach` of what a tree gives, which is an object; `call` and `resume` of an actual parameter
pub record DetachAt (code : CodeOf) (line : ℕ) (Object : ℕ → ℕ → Type 0) (p q : ℕ) : Type 0 where
  pub x : ℕ
  pub y : ℕ
  pub object : Object p x
  pub there : At code i.NotNone line x y
  pub detaches : At code i.Detach line y q

abbrev pub TransferAt : CodeOf → (line : ℕ) → Transfer → Expressions → (Around Operands : ℕ → ℕ → Type 0) → ℕ → ℕ → Type 0
TransferAt code line Detaching NoMore Around Operands p q = DetachAt code line Around p q
TransferAt code line Calling (Then e NoMore) Around Operands p q = (x : ℕ) × Operands p x × At code i.Attach line x q
TransferAt code line Resuming (Then e NoMore) Around Operands p q = (x : ℕ) × Operands p x × At code i.Resume line x q
TransferAt code line t es Around Operands p q = ⊥

-- a transfer of control, or another call
abbrev pub OrTransferAt : Option Transfer → (Transfers : Transfer → ℕ → ℕ → Type 0) → (Other : ℕ → ℕ → Type 0) → ℕ → ℕ → Type 0
OrTransferAt None Transfers Other p q = Other p q
OrTransferAt (Some t) Transfers Other p q = Transfers t p q

-- A call that stands as a statement: a transfer of control; an identifier or an attribute that leaves a value just where its entry or row says so;
-- or `new`.
abbrev pub CalledAt : Source → CodeOf → Site → ℕ → Expression → ℕ → ℕ → Type 0
CalledAt s code site n (syntax.Named name es) p q =
    OrTransferAt (transfer_at s name.token.0) (λ t. TransferAt code (line_at s name.token.0) t es (ThisFoundAt s code site n (found_at s name.token.0)) (ExprsAt s code site n es))
    (λ p q. (leaves s (syntax.Named name es) ≡ gives s (denoted s name.token.0)) × ThroughAt (connection_at s name.token.0)
    (λ k. ConnectedNameAt s code site n (line_at s name.token.0) k (denoted s name.token.0) es (ExprsAt s code site (suc n) es) (λ formals. ActualsAt s code site (suc n) (line_at s name.token.0) false es formals))
    (OwnAt (own_attribute s name.token.0)
    (λ d. OwnNameAt s code site n (line_at s name.token.0) (found_at s name.token.0) (entry_of s.tables d) es (ActualsAt s code site (suc n) (line_at s name.token.0) false es (Listed (formals_at s d)))
    (OfObjectAt s code site n (line_at s name.token.0) d (entry_of s.tables d) es (ThisFoundAt s code site n (found_at s name.token.0)) (ExprsAt s code site (suc n) es) (ActualsAt s code site (suc n) (line_at s name.token.0) false es (parameters_at s d))))
    (NamedAt s code site n (line_at s name.token.0) (denoted s name.token.0) es (ExprsAt s code site n es) (ExprsAt s code site (suc n) es) (λ formals. ActualsAt s code site (suc n) (line_at s name.token.0) false es formals))) p q) p q
CalledAt s code site n (syntax.Dot token a name es) p q =
    OrTransferAt (transfer_at s name.token.0) (λ t. TransferAt code (line_at s name.token.0) Detaching es (ExprAt s code site n a) (ExprsAt s code site n es))
    (λ p q. (leaves s (syntax.Dot token a name es) ≡ gives s (denoted s name.token.0)) × DotAt s code site n (line_at s name.token.0) (denoted s name.token.0) (stream_of s a) (is_variable s a || is_attribute s a) es
    (PlaceAt s code site n 0 a) (ExprAt s code site n a) (ExprsAt s code site n es) (ExprsAt s code site (suc n) es) (λ formals. ActualsAt s code site (suc n) (line_at s name.token.0) false es formals) p q) p q
CalledAt s code site n (syntax.New token class es) p q = ExprAt s code site n (syntax.New token class es) p q
CalledAt s code site n _ p q = ⊥

-- ---- activations

-- the number of a timing
abbrev pub timing_number : Timing → ℕ
timing_number Directly = 0
timing_number (AtTime false) = 1
timing_number (AtTime true) = 2
timing_number (WithDelay false) = 3
timing_number (WithDelay true) = 4
timing_number (Beside true) = 5
timing_number (Beside false) = 6

abbrev pub activation_number : (again : Bool) → Timing → ℕ
activation_number false t = timing_number t
activation_number true t = timing_number t + 8

abbrev pub OperandAt : Source → CodeOf → Site → ℕ → Schedule → ℕ → ℕ → Type 0
OperandAt s code site n syntax.Now p q = q ≡ p
OperandAt s code site n (syntax.At token e prior) p q = ExprAt s code site n e p q
OperandAt s code site n (syntax.Delay token e prior) p q = ExprAt s code site n e p q
OperandAt s code site n (syntax.Before token e) p q = ExprAt s code site n e p q
OperandAt s code site n (syntax.After token e) p q = ExprAt s code site n e p q

-- the link to the simulation block, the process, and the operand of the timing, if there is one
pub record ActivationAt (s : Source) (code : CodeOf) (site : Site) (n line text : ℕ) (again : Bool) (e : Expression) (schedule : Schedule) (p q : ℕ) : Type 0 where
  pub x : ℕ
  pub y : ℕ
  pub z : ℕ
  pub link : Pushes code site n (i.Link (pos (level_of s text))) p x
  pub inside : Inside s.tables site.text text
  pub process : ExprAt s code site (suc n) e x y
  pub operand : OperandAt s code site (suc (suc n)) schedule y z
  pub does : At code (i.Act (pos (activation_number again (timing schedule)))) line z q

abbrev pub ActivatesAt : Source → CodeOf → Site → (n line : ℕ) → (simulation : Option ℕ) → (again : Bool) → Expression → Schedule → ℕ → ℕ → Type 0
ActivatesAt s code site n line None again e schedule p q = ⊥
ActivatesAt s code site n line (Some k) again e schedule p q = ActivationAt s code site n line k again e schedule p q

-- ---- connections

-- The object on top is kept in the cell of the connection that begins at a token, which stands in the text; then comes its statement, which
-- stands in the connection.
pub record ConnectionAt (s : Source) (code : CodeOf) (site : Site) (opening connection : ℕ) (Body : Site → ℕ → ℕ → Type 0) (p q : ℕ) : Type 0 where
  pub x : ℕ
  pub is : text s connection ≡ Some ConnectionText
  pub begins : cell_of_connection s connection ≡ Connection opening
  pub around : encloser s.tables connection ≡ Some site.text
  pub kept : Is code (i.Store (pos (level_of s connection)) (pos (slot_of s code (frame_text s connection) (Connection opening)))) p x
  pub has : HasCell s (frame_text s connection) (Connection opening)
  pub body : Body (record site { text = connection }) x q

abbrev pub ConnectsAt : Source → CodeOf → Site → (opening : ℕ) → (connection : Option ℕ) → (Body : Site → ℕ → ℕ → Type 0) → ℕ → ℕ → Type 0
ConnectsAt s code site opening None Body p q = ⊥
ConnectsAt s code site opening (Some k) Body p q = ConnectionAt s code site opening k Body p q

-- `inspect x do`: the object, which is connected, or `otherwise` where there is none
pub record InspectAt (code : CodeOf) (site : Site) (n : ℕ) (Object Connected Otherwise : ℕ → ℕ → Type 0) (p q : ℕ) : Type 0 where
  pub a : ℕ
  pub b : ℕ
  pub c : ℕ
  pub d : ℕ
  pub e : ℕ
  pub f : ℕ
  pub g : ℕ
  pub y : ℕ
  pub z : ℕ
  pub object : Object p a
  pub again : Pushes code site (suc n) i.Dup a b
  pub none : Pushes code site (suc (suc n)) i.None b c
  pub same : Is code i.Same c d
  pub other : Is code i.Not d e
  pub jump : Is code (i.JumpF (pos y)) e f
  pub leads : Ahead code e y
  pub connected : Connected f g
  pub over : Is code (i.Jump (pos q)) g y
  pub past : Ahead code g q
  pub dropped : Is code i.Pop y z
  pub otherwise : Otherwise z q

-- an arm: the object is tested, and connected where it is in the class, or else the arms behind are tried
pub record ArmAt (s : Source) (code : CodeOf) (site : Site) (n class : ℕ) (Connected More : ℕ → ℕ → Type 0) (p q : ℕ) : Type 0 where
  pub a : ℕ
  pub b : ℕ
  pub c : ℕ
  pub d : ℕ
  pub y : ℕ
  pub again : Pushes code site (suc n) i.Dup p a
  pub test : Is code (i.In (pos (class_number s code class))) a b
  pub jump : Is code (i.JumpF (pos y)) b c
  pub leads : Ahead code b y
  pub connected : Connected c d
  pub over : Is code (i.Jump (pos q)) d y
  pub past : Ahead code d q
  pub more : More y q

abbrev pub ArmOfAt : Source → CodeOf → Site → ℕ → (class : Option ℕ) → (Connected More : ℕ → ℕ → Type 0) → ℕ → ℕ → Type 0
ArmOfAt s code site n None Connected More p q = ⊥
ArmOfAt s code site n (Some k) Connected More p q = ArmAt s code site n k Connected More p q

abbrev mutual
  pub StmAt : Source → CodeOf → Site → ℕ → Statement → ℕ → ℕ → Type 0
  StmAt s code site n (syntax.Empty token) p q = q ≡ p
  StmAt s code site n (syntax.Compound b) p q = (t : ℕ) × Is code i.Tick p t × BlockAt s code site n b t q
  StmAt s code site n (syntax.Call e) p q = (t : ℕ) × (x : ℕ) × Is code i.Tick p t × CalledAt s code site n e t x × DropsAt code (leaves s e) x q
  StmAt s code site n (syntax.Assign left rs) p q = (t : ℕ) × Is code i.Tick p t × AssignAt s code site n (each_stored s (left_sides left rs)) (last_value left rs) t q
  StmAt s code site n (syntax.Choose token c a b) p q = (t : ℕ) × Is code i.Tick p t × BranchAt s code site n b (ExprAt s code site n c) (StmAt s code site n a) t q
  StmAt s code site n (syntax.Repeat token c a) p q =
      (t : ℕ) × (y : ℕ) × (w : ℕ) × Is code i.Tick p t × LoopAt code (ExprAt s code site n c) (StmAt s code site n a) t y w q
  StmAt s code site n (syntax.For token x sign assign es a) p q =
      (t : ℕ) × Is code i.Tick p t × ForAt s code site n (variable_of s (line_at s assign) (syntax.Named x NoMore) (assigned_by (is_text s (syntax.Named x NoMore)) sign (line_at s assign))) (is_empty a) es (λ site. StmAt s code site n a) t q
  StmAt s code site n (syntax.Prefixed class es b) p q = (t : ℕ) × Is code i.Tick p t × PrefixedAt s code site n (line_at s class.token.0) es (block_around s (begin_of b)) t q
  StmAt s code site n (syntax.Inspect token e opening a end other) p q =
      (t : ℕ) × Is code i.Tick p t × InspectAt code site n (ExprAt s code site n e) (ConnectsAt s code site opening (block_around s opening) (λ site. StmAt s code site n a)) (StmsAt s code site n other) t q
  StmAt s code site n (syntax.InspectWhen token e arms other) p q =
      (t : ℕ) × (x : ℕ) × Is code i.Tick p t × ExprAt s code site n e t x × ArmsAt s code site n arms (StmsAt s code site n other) x q
  StmAt s code site n (syntax.Inner token) p q = ⊥
  StmAt s code site n (syntax.Activate token word e schedule) p q = (t : ℕ) × Is code i.Tick p t × ActivatesAt s code site n (line_at s token) (simulation_around s token) (is_again word) e schedule t q

  -- the object is on top; where no arm is taken it is dropped
  pub ArmsAt : Source → CodeOf → Site → ℕ → Arms → (Otherwise : ℕ → ℕ → Type 0) → ℕ → ℕ → Type 0
  ArmsAt s code site n NoArm Otherwise p q = (x : ℕ) × Is code i.Pop p x × Otherwise x q
  ArmsAt s code site n (When token class opening a end more) Otherwise p q =
      ArmOfAt s code site n (class_at s class.token.0) (ConnectsAt s code site opening (block_around s opening) (λ site. StmAt s code site n a)) (ArmsAt s code site n more Otherwise) p q

  pub BranchAt : Source → CodeOf → Site → ℕ → Statements → (Test First : ℕ → ℕ → Type 0) → ℕ → ℕ → Type 0
  BranchAt s code site n NoStatement Test First p q = WhenAt code Test First p q
  BranchAt s code site n (Also a more) Test First p q = IfAt code Test First (λ x y. (u : ℕ) × StmAt s code site n a x u × StmsAt s code site n more u y) p q

  pub StmsAt : Source → CodeOf → Site → ℕ → Statements → ℕ → ℕ → Type 0
  StmsAt s code site n NoStatement p q = q ≡ p
  StmsAt s code site n (Also a more) p q = (x : ℕ) × StmAt s code site n a p x × StmsAt s code site n more x q

  -- a compound statement in its place; a sub-block is entered, and its code stands elsewhere
  pub BlockAt : Source → CodeOf → Site → ℕ → Block → ℕ → ℕ → Type 0
  BlockAt s code site n (Begin token NoDeclaration ss end) p q = StmsAt s code site n ss p q
  BlockAt s code site n (Begin token (With d ds) ss end) p q = EnterAt s code site (line_at s token) (block_around s token) p q

-- ---- the statements of a level of a class, or of a prefixed block

abbrev pub inner_of : Statement → Option ℕ
inner_of (syntax.Inner token) = Some token
inner_of _ = None

-- `inner` itself, which is written in the level of this text; `place` is the number of levels in front of it, and `after` is what stands behind
pub record InnerAt (s : Source) (code : CodeOf) (site : Site) (place after token p q : ℕ) : Type 0 where
  pub x : ℕ
  pub its_own : block_around s token ≡ Some site.text
  pub tick : Is code i.Tick p x
  pub inner : Is code (i.Inner (pos place)) x after
  pub on : q ≡ after

-- a statement of such a list, one of which is `inner`
abbrev pub InnerOrAt : Source → CodeOf → Site → (place after : ℕ) → (token : Option ℕ) → Statement → (more : Statements) → (More : ℕ → ℕ → Type 0) → ℕ → ℕ → Type 0
InnerOrAt s code site place after (Some token) a more More p q = (x : ℕ) × InnerAt s code site place after token p x × StmsAt s code site 0 more x q
InnerOrAt s code site place after None a more More p q = (x : ℕ) × StmAt s code site 0 a p x × More x q

abbrev pub WithInnerAt : Source → CodeOf → Site → (place after : ℕ) → Statements → ℕ → ℕ → Type 0
WithInnerAt s code site place after NoStatement p q = ⊥
WithInnerAt s code site place after (Also a more) p q = InnerOrAt s code site place after (inner_of a) a more (WithInnerAt s code site place after more) p q

-- where none is written, what stands for it comes behind all statements
pub record InnerLastAt (s : Source) (code : CodeOf) (site : Site) (place after : ℕ) (ss : Statements) (p q : ℕ) : Type 0 where
  pub x : ℕ
  pub statements : StmsAt s code site 0 ss p x
  pub inner : Is code (i.Inner (pos place)) x after
  pub on : q ≡ after

abbrev pub LevelAt : Source → CodeOf → Site → (place after : ℕ) → (written : Bool) → Statements → ℕ → ℕ → Type 0
LevelAt s code site place after true ss p q = WithInnerAt s code site place after ss p q
LevelAt s code site place after false ss p q = InnerLastAt s code site place after ss p q

-- ---- the level of the class `process`

-- the classes of which a class is a level, but itself, in text order
abbrev pub is_class_text : Option Text → Bool
is_class_text (Some (ClassText prefix h ds ss)) = true
is_class_text _ = false

abbrev pub is_subclass : Source → (class text : ℕ) → Bool
is_subclass s k j = is_class_text (text s j) && has_level s.tables j k

abbrev pub with_subclass : Bool → ℕ → List ℕ → List ℕ
with_subclass true j js = j ∷ js
with_subclass false j js = js

abbrev pub subclasses_from : Source → (class text count : ℕ) → List ℕ
subclasses_from s k j zero = []
subclasses_from s k j (suc n) = with_subclass (is_subclass s k j) j (subclasses_from s k (suc j) n)

unfoldable pub subclasses : Source → (class : ℕ) → List ℕ
subclasses s k = subclasses_from s k 0 (length s.tables.blocks)

-- The end of a process: its class is found, since the line is that of the end of the class, and it passivates.
pub record EndOfAt (s : Source) (code : CodeOf) (site : Site) (around class : ℕ) (More : ℕ → ℕ → Type 0) (p q : ℕ) : Type 0 where
  pub a : ℕ
  pub b : ℕ
  pub c : ℕ
  pub d : ℕ
  pub e : ℕ
  pub y : ℕ
  pub this : Pushes code site 0 (i.This (pos (level_of s site.text))) p a
  pub test : Is code (i.Is (pos (class_number s code class))) a b
  pub jump : Is code (i.JumpF (pos y)) b c
  pub leads : Ahead code b y
  pub link : Pushes code site 0 (i.Link (pos (level_of s around))) c d
  pub number : ℕ
  pub numbered : slice_get standard_names number ≡ Some name_of.Passivate
  pub done : At code (i.Std (pos number)) (last_line s class) d e
  pub over : Is code (i.Jump (pos q)) e y
  pub past : Ahead code e q
  pub more : More y q

-- The end of an object of `process` itself, which tells by a token where it was generated: the line is that of `new`.
pub record OriginEndAt (s : Source) (code : CodeOf) (site : Site) (around token : ℕ) (More : ℕ → ℕ → Type 0) (p q : ℕ) : Type 0 where
  pub a : ℕ
  pub b : ℕ
  pub c : ℕ
  pub d : ℕ
  pub e : ℕ
  pub f : ℕ
  pub y : ℕ
  pub kept : Pushes code site 0 (i.Load (pos (level_of s site.text)) (pos (slot_of s code site.text Origin))) p a
  pub given : Pushes code site 1 (i.Int (pos token)) a b
  pub test : Is code (i.Rel (pos 2)) b c
  pub jump : Is code (i.JumpF (pos y)) c d
  pub leads : Ahead code c y
  pub link : Pushes code site 0 (i.Link (pos (level_of s around))) d e
  pub number : ℕ
  pub numbered : slice_get standard_names number ≡ Some name_of.Passivate
  pub done : At code (i.Std (pos number)) (line_at s (token - 1)) e f
  pub over : Is code (i.Jump (pos q)) f y
  pub past : Ahead code f q
  pub within : HasCell s site.text Origin
  pub more : More y q

-- the tokens at which a class is meant by its identifier: among them are those behind each `new`
abbrev pub is_same : (class : ℕ) → Option ℕ → Bool
is_same k None = false
is_same k (Some j) = j == k

abbrev pub means : Source → (class token : ℕ) → Bool
means s k token = is_same k (class_at s token)

abbrev pub origins_from : Source → (class token count : ℕ) → List ℕ
origins_from s k t zero = []
origins_from s k t (suc n) = with_subclass (means s k t) t (origins_from s k (suc t) n)

unfoldable pub origins : Source → (class : ℕ) → List ℕ
origins s k = origins_from s k 0 (length s.uses)

-- behind the last of them, for no token
pub record LastEndAt (s : Source) (code : CodeOf) (site : Site) (around p q : ℕ) : Type 0 where
  pub a : ℕ
  pub link : Pushes code site 0 (i.Link (pos (level_of s around))) p a
  pub number : ℕ
  pub numbered : slice_get standard_names number ≡ Some name_of.Passivate
  pub done : At code (i.Std (pos number)) (line_at s 0) a q

abbrev pub OriginsAt : Source → CodeOf → Site → (around : ℕ) → (tokens : List ℕ) → ℕ → ℕ → Type 0
OriginsAt s code site around [] p q = LastEndAt s code site around p q
OriginsAt s code site around (t ∷ ts) p q = OriginEndAt s code site around t (OriginsAt s code site around ts) p q

-- by the class of the process; behind that it is an object of `process` itself
abbrev pub EndsAt : Source → CodeOf → Site → (around : ℕ) → (classes tokens : List ℕ) → ℕ → ℕ → Type 0
EndsAt s code site around [] ts p q = OriginsAt s code site around ts p q
EndsAt s code site around (k ∷ ks) ts p q = EndOfAt s code site around k (EndsAt s code site around ks ts) p q

-- A process detaches itself; then comes what stands for `inner`, and behind it the end.
pub record ProcessAt (s : Source) (code : CodeOf) (site : Site) (place statements after q : ℕ) : Type 0 where
  pub around : ℕ
  pub is_around : encloser s.tables site.text ≡ Some around
  pub a : ℕ
  pub b : ℕ
  pub this : Pushes code site 0 (i.This (pos (level_of s site.text))) statements a
  pub detach : At code i.Detach no_line a b
  pub inner : Is code (i.Inner (pos place)) b after
  pub ends : EndsAt s code site around (subclasses s site.text) (origins s site.text) after q
