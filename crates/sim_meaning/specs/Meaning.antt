-- What a program does, step by step: one step is one event of the operating instance.
use Rattle.std.specs.Prelude.{ℕ, ◌*◌, ◌==◌, Bool, true, false, not, ◌&&◌, if◌then◌else◌, List, [], ◌∷◌, length, slice_get, Option, Some, None}
use Rattle.sim_base.specs.declared.limits.Limits.{Limits}
use Rattle.sim_scope.specs.declared.types.Formal.{Formal}
use Rattle.sim_scope.specs.declared.types.Mode.{Mode}
use Rattle.sim_scope.specs.declared.types.Mode.TheVariants as mode
use Rattle.sim_scope.specs.Source.{Source, line_at}
use Rattle.sim_tree.specs.declared.stmt.TypeName.{TypeName}
use Rattle.sim_tree.specs.Syntax.{Declarations, Expression, Expressions, Statements}
use Rattle.sim_values.specs.Plain.{Object}
use Rattle.sim_code.specs.Outcome.{Going, Normal, Run, World, after, first_world}
use Rattle.sim_code.specs.Events.{applying_one, applying_two, choosing, entering, having, joining, no_rule, performing, pop_integers, pop_many, pop_object, pop_truth, popping, qualifying, stopping, testing_step, ticking, when}
use Rattle.sim_code.specs.Arrays.{giving_back, handed_over, making_array, pairs}
use Rattle.sim_code.specs.Instances.{Instance, given, is_given_at_end, is_live, no_instances, object_ended}
use Rattle.sim_code.specs.Sets.{performing_set}
use Rattle.sim_code.specs.Thunks.{locating}
use Rattle.sim_code.specs.Formals.{copying_value, each, suiting}
use Rattle.sim_code.specs.Virtuals.{counting, matching}
use Rattle.sim_meaning.specs.Pending.{Activation, ActivateOp, Actual, Address, AgainOp, ArrayOp, ArrayValue, AttributeOp, BackOp, BlockOp, BranchOp, CallOp, CallValueOp, CheckOp, ChooseOp, CloseOp, Configuration, ConnectOp, CopyOp, DeclareOp, Do, DropOp, ElementOp, ElementsOp, EndBlock, EndEvaluation, EndLevel, EndObject, EndPrefixed, EndProcedure, EndProcessOp, EndProgram, EnterOp, Eval, Exec, Execs, FetchOp, FitsOp, ForParameter, ForPlace, ForValue, GiveOp, Held, IfOp, InnerOp, Instances, Item, JoinOp, KeepOp, Key, LevelOp, Link, MemberOp, NamedOp, NewOp, NotNoneOp, ObjectOp, Of, OneOp, Op, OriginOp, ParameterOp, PastOp, PrefixedOp, ProcedureOp, ProcedureValue, ProcessOp, QuaOp, QualifiedElementOp, RaiseOp, ReferOp, Result, SelfOp, SetOp, SimulationOp, ShareOp, StandardOp, StepOp, StepTestOp, StoreOp, SwapOp, TestOp, TransferOp, TwoOp, Use, Val, VirtualOp, WhenOp, WhileElementOp, actual_in, array_in, cell, instance_in, owner, plain, procedure_in}
use Rattle.sim_meaning.specs.Constants.{constants_of}
use Rattle.sim_meaning.specs.Texts.{BlockText, PrefixedText, ProcedureText, Text, text}
use Rattle.sim_meaning.specs.Levels.{levels, stands_in}
use Rattle.sim_meaning.specs.Attributes.{parameter_qualification}
use Rattle.sim_meaning.specs.Closing.{close, close_passed, is_procedure_kind}
use Rattle.sim_meaning.specs.Checks.{agrees, all_fit, all_passed, copied_for, fits, passed}
use Rattle.sim_meaning.specs.Virtuals.{match_at}
use Rattle.sim_meaning.specs.Steps.{copied, count_of, element_found, eval, fetched, given_to, go, operand, put_back, stored, value_at, with_value}
use Rattle.sim_meaning.specs.Statements.{elements, exec, execs, first_branch, raised, step_tested, while_element}
use Rattle.sim_meaning.specs.Objects.{activation_done, attribute_found, block_begun, cells_of_levels, fitted, generated, inner_done, kept, member_tested, levels_work, not_none, object_found, origin_kept, prefix_done, process_ended, process_told, qua_tested, qualified_element_found, referred, simulation_done, transfer_done}
use Rattle.sim_meaning.specs.Connections.{inspected, inspected_when}
use Rattle.sim_meaning.specs.Entries.{arrays_by_value, arrays_declared, filled_behind, first_cells, formals_of, in_instance, instances_kept, words_of_cells}

-- ---- entries

abbrev pub has_result : Option TypeName → Bool
has_result None = false
has_result (Some type) = true

-- the work of a block: its arrays, then its statements
abbrev pub block_work : Source → Instances → (instance : ℕ) → Declarations → Statements → (end : Item) → List Item
block_work s m i ds ss end = arrays_declared s m i ds (Do (Execs ss) ∷ end ∷ [])

-- a sub-block
abbrev pub sub_block_entered : Source → Limits → World → Instances → ℕ → List Item → List Val → List Activation → (text line : ℕ) → Option Text → Run Configuration
sub_block_entered s l o m i w vals rest k line (Some (BlockText begin ds ss)) =
    let cells = first_cells s k (BlockText begin ds ss) in
    entering l line (words_of_cells cells) o (λ p.
    in_instance s p m k (Some i) cells (λ now. block_work s now (length m.instances) ds ss EndBlock) (record { instance = i; work = w; values = vals } ∷ rest))
sub_block_entered s l o m i w vals rest k line _ = no_rule o

-- A procedure: the actuals were evaluated, and now its instance is made.
abbrev pub procedure_entered : Source → Limits → World → Instances → ℕ → List Item → List Val → List Activation → (text line : ℕ) → List Val → (encloser : ℕ) → Option Text → Run Configuration
procedure_entered s l o m i w vals rest k line values j (Some (ProcedureText result h a)) =
    let cells = first_cells s k (ProcedureText result h a) in
    having (filled_behind result values cells) o (λ filled.
    entering l line (words_of_cells cells) o (λ p.
    in_instance s (handed_over (length m.instances) (arrays_by_value (formals_of s k) values) p) (instances_kept s k (record { instance = i; work = w; values = vals } ∷ rest) m) k (Some j) filled (λ now. Do (Exec a) ∷ EndProcedure (has_result result) ∷ []) (record { instance = i; work = w; values = vals } ∷ rest)))
procedure_entered s l o m i w vals rest k line values j _ = no_rule o

abbrev pub called : Source → Limits → World → Instances → ℕ → List Item → List Val → List Activation → (text actuals line : ℕ) → Run Configuration
called s l o m i w vals rest k n line =
    pop_many n [] vals o (λ values vals. popping vals o (λ v vals. having (instance_in v) o (λ j. when (is_live m j) o (
    procedure_entered s l o m i w vals rest k line values j (text s k)))))

-- what matches a virtual in the object in hand: E6 of none, E8 without a match
abbrev pub match_taken : Source → World → Instances → ℕ → List Item → List Val → List Activation → (virtual line : ℕ) → Run Configuration
match_taken s o m i w vals rest v line = pop_object plain line vals o (λ j vals. matching line (match_at s m v j) o (λ k. go o m i w (ProcedureValue k j ∷ vals) rest))

-- the instance in hand, or the object, with a procedure that is declared there
abbrev pub procedure_found : World → Instances → ℕ → List Item → List Val → List Activation → (text : ℕ) → Run Configuration
procedure_found o m i w vals rest k = popping vals o (λ v vals. having (instance_in v) o (λ j. go o m i w (ProcedureValue k j ∷ vals) rest))

-- ---- calls that are checked

-- E10, and then E11 from left to right, before any actual parameter is evaluated
abbrev pub call_checked : Source → World → Instances → ℕ → List Item → List Val → List Activation → Expressions → (line : ℕ) → Run Configuration
call_checked s o m i w vals rest es line =
    popping vals o (λ v more. having (procedure_in v) o (λ q. counting line (length (formals_of s q.0)) (count_of es) o (
    suiting line (all_fit s (formals_of s q.0) (all_passed s es)) o (
    having (each (agrees s m q.1 i) (formals_of s q.0) (all_passed s es)) o (λ agree. suiting line agree o (go o m i w vals rest))))))

-- the formal parameter of a number, of the procedure in hand that lies below as many values
abbrev pub procedure_at : Option Val → Option (ℕ × ℕ)
procedure_at None = None
procedure_at (Some v) = procedure_in v

abbrev pub formal_in : Source → (number : ℕ) → Option (ℕ × ℕ) → Option Formal
formal_in s n None = None
formal_in s n (Some q) = slice_get (formals_of s q.0) n

unfoldable pub formal_in_hand : Source → (number : ℕ) → List Val → Option Formal
formal_in_hand s n vals = formal_in s n (procedure_at (slice_get vals n))

abbrev pub is_by_name : Mode → Bool
is_by_name mode.ByName = true
is_by_name mode.ByValue = false
is_by_name mode.ByReference = false

-- An actual parameter is evaluated for the instance in which it stands, and is closed there and not before.
abbrev pub evaluating : World → Instances → (home : ℕ) → (as_procedure : Bool) → Expression → Use → List Activation → Run Configuration
evaluating o m home p e wanted rest = go o m home (Do (CloseOp p e) ∷ EndEvaluation wanted ∷ []) [] rest

-- That an actual parameter fits the formal one was asked by the check; it is asked here too, so that the rule says by itself what is passed. One
-- that is passed by name is a value as it stands; any other is evaluated, and what that gives is passed.
abbrev pub parameter_begun : Source → World → Instances → ℕ → List Item → List Val → List Activation → (number : ℕ) → Expression → (line : ℕ) → Run Configuration
parameter_begun s o m i w vals rest n e line =
    having (formal_in_hand s n vals) o (λ f. when (fits s f (passed s e)) o (choosing (is_by_name f.mode)
    (go o m i w (Actual i (is_procedure_kind f.kind) e ∷ vals) rest)
    (evaluating o m i (is_procedure_kind f.kind) e (ForParameter n line) (record { instance = i; work = w; values = vals } ∷ rest))))

-- The procedure in hand is called with the values above it: as many as it has formal parameters; and it leaves a value just where its call does.
abbrev pub leaves_value : Option Text → Bool
leaves_value (Some (ProcedureText result h a)) = has_result result
leaves_value _ = false

abbrev pub are_alike : Bool → Bool → Bool
are_alike true b = b
are_alike false b = not b

abbrev pub is_called_so : Source → (text actuals : ℕ) → (leaves : Bool) → Bool
is_called_so s k n leaves = (length (formals_of s k) == n) && are_alike leaves (leaves_value (text s k))

abbrev pub value_called : Source → Limits → World → Instances → ℕ → List Item → List Val → List Activation → (actuals : ℕ) → (leaves : Bool) → (line : ℕ) → Run Configuration
value_called s l o m i w vals rest n leaves line =
    pop_many n [] vals o (λ values vals. popping vals o (λ v vals. having (procedure_in v) o (λ q. when (is_live m q.1) o (when (is_called_so s q.0 n leaves) o (
    procedure_entered s l o m i w vals rest q.0 line values q.1 (text s q.0))))))

-- ---- parameters by name

-- A use takes its tick, and then the actual is evaluated.
abbrev pub name_used : Limits → World → Instances → ℕ → List Item → List Val → List Activation → (instance : ℕ) → Key → Use → Run Configuration
name_used l o m i w vals rest j key wanted =
    having (cell m j key) o (λ v. having (actual_in v) o (λ a. when (is_live m a.home) o (ticking l o (λ p.
    evaluating p m a.home a.as_procedure a.expression wanted (record { instance = i; work = w; values = vals } ∷ rest)))))

-- the value that an actual gave: itself, or what is where it lies
abbrev pub value_given : World → Instances → Val → Option Val
value_given o m (Address p) = value_at o m p
value_given o m v = Some v

abbrev pub is_place : Val → Bool
is_place (Address p) = true
is_place _ = false

-- goes on with a value that may stand where references of a class stand
abbrev pub admitted : Source → Instances → (class : Option ℕ) → (line : ℕ) → Val → World → Run Configuration → Run Configuration
admitted s m None line v o r = r
admitted s m (Some k) line v o r = having (plain v) o (λ p. qualifying line (stands_in s m k) p o r)

-- a value is passed: E7 where it is a reference that is not in the class of the formal parameter; a copy where that asks for it
abbrev pub passing : Source → Limits → Instances → (owner : ℕ) → Formal → (line : ℕ) → Val → World → (Val → World → Run Configuration) → Run Configuration
passing s l m owner f line v o go = admitted s m (parameter_qualification s f.kind f.ty) line v o (copying_value Of plain ArrayValue array_in l line owner (copied_for f) v o go)

-- What an evaluation gave goes to the activation below, which asked for its value, or for where it lies, or for what is passed for a formal parameter.
abbrev pub evaluated : Source → Limits → World → Instances → List Activation → Use → Val → Run Configuration
evaluated s l o m [] wanted v = no_rule o
evaluated s l o m (a ∷ rest) (ForValue class line) v = having (value_given o m v) o (λ v. admitted s m class line v o (go o m a.instance a.work (v ∷ a.values) rest))
evaluated s l o m (a ∷ rest) (ForPlace value_too line) v = locating line (is_place v) value_too o (go o m a.instance a.work (v ∷ a.values) rest)
evaluated s l o m (a ∷ rest) (ForParameter n line) v =
    having (formal_in_hand s n a.values) o (λ f. having (value_given o m v) o (λ v.
    passing s l m a.instance f line v o (λ v p. go p m a.instance a.work (v ∷ a.values) rest)))

-- ---- ends

-- An instance ends, and control goes to the instance below, which gets a value or none. It is given back, unless it is kept or its text
-- has a class.
abbrev pub words_of_text : Source → ℕ → Option Text → ℕ
words_of_text s k None = 0
words_of_text s k (Some x) = words_of_cells (first_cells s k x)

abbrev pub text_of : Instances → ℕ → ℕ
text_of m i = text_in (slice_get m.instances i)
  where
    text_in : Option (Instance (List Held)) → ℕ
    text_in None = 0
    text_in (Some x) = x.text

abbrev pub world_left : Source → (instance : ℕ) → World → Instances → World
world_left s i o m = if is_given_at_end m i then giving_back o i (words_of_text s (text_of m i) (text s (text_of m i))) else o

abbrev pub instances_left : (instance : ℕ) → Instances → Instances
instances_left i m = if is_given_at_end m i then given m i else m

abbrev pub with_any : Option Val → List Val → List Val
with_any None vals = vals
with_any (Some v) vals = v ∷ vals

unfoldable pub leaving : Source → List Activation → Option Val → (instance : ℕ) → World → Instances → Run Configuration
leaving s [] v i o m = no_rule o
leaving s (a ∷ rest) v i o m = go (world_left s i o m) (instances_left i m) a.instance a.work (with_any v a.values) rest

-- ---- the steps

abbrev pub do_op : Source → Limits → World → Instances → ℕ → List Item → List Val → List Activation → Op → Run Configuration
-- expressions
do_op s l o m i w vals rest (Eval t) = eval o m i w vals rest t
do_op s l o m i w vals rest (OneOp op line) = applying_one plain op line vals o (λ z vals. go o m i w (Of z ∷ vals) rest)
do_op s l o m i w vals rest (TwoOp op line) = applying_two plain op line vals o (λ z vals. go o m i w (Of z ∷ vals) rest)
do_op s l o m i w vals rest (IfOp a b) = pop_truth plain vals o (λ c vals. choosing c (go o m i (Do (Eval a) ∷ Do PastOp ∷ w) vals rest) (go o m i (Do (Eval b) ∷ w) vals rest))
do_op s l o m i w vals rest (JoinOp line) = joining plain l line vals o (λ z p vals. go p m i w (Of z ∷ vals) rest)
do_op s l o m i w vals rest (ElementOp n line) = element_found o m i w vals rest n line
do_op s l o m i w vals rest FetchOp = fetched o m i w vals rest
do_op s l o m i w vals rest (CopyOp line) = copied l o m i w vals rest line
do_op s l o m i w vals rest (CallOp k n line) = called s l o m i w vals rest k n line
do_op s l o m i w vals rest (StandardOp name line) = performing operand put_back l line name vals o m (λ p m value vals. go p m i w (with_value value vals) rest)
-- objects and references
do_op s l o m i w vals rest (NewOp k n line) = generated s l o m i w vals rest k n line
do_op s l o m i w vals rest (AttributeOp k key class line) = attribute_found s o m i w vals rest k key class line
do_op s l o m i w vals rest (ObjectOp k line) = object_found s o m i w vals rest k line
do_op s l o m i w vals rest (QualifiedElementOp n line k) = qualified_element_found o m i w vals rest n line k
do_op s l o m i w vals rest (MemberOp member k) = member_tested s o m i w vals rest member k
do_op s l o m i w vals rest (QuaOp k line) = qua_tested s o m i w vals rest k line
do_op s l o m i w vals rest (FitsOp k line) = fitted s o m i w vals rest k line
do_op s l o m i w vals rest KeepOp = kept o m i w vals rest
do_op s l o m i w vals rest (NotNoneOp line) = not_none o m i w vals rest line
do_op s l o m i w vals rest (TransferOp t line) = transfer_done o m i w vals rest t line
do_op s l o m i w vals rest (ProcessOp name line) = process_told o m i w vals rest name line
do_op s l o m i w vals rest (SimulationOp name line) = simulation_done s o m i w vals rest name line
do_op s l o m i w vals rest (VirtualOp v line) = match_taken s o m i w vals rest v line
do_op s l o m i w vals rest (OriginOp k token line) = origin_kept s o m i w vals rest k token line
do_op s l o m i w vals rest (ProcedureOp k) = procedure_found o m i w vals rest k
do_op s l o m i w vals rest (CheckOp es line) = call_checked s o m i w vals rest es line
do_op s l o m i w vals rest (ParameterOp n e line) = parameter_begun s o m i w vals rest n e line
do_op s l o m i w vals rest (CallValueOp n leaves line) = value_called s l o m i w vals rest n leaves line
do_op s l o m i w vals rest (NamedOp j key wanted) = name_used l o m i w vals rest j key wanted
do_op s l o m i w vals rest (CloseOp p e) = go o m i (Do (Eval (close_passed p s m i e)) ∷ w) vals rest
do_op s l o m i w vals rest (SetOp name) = performing_set plain name vals o (λ p value vals. go p m i w (with_value value vals) rest)
-- values in hand, and assignments
do_op s l o m i w vals rest DropOp = popping vals o (λ v vals. go o m i w vals rest)
do_op s l o m i w vals rest AgainOp = popping vals o (λ v vals'. go o m i w (v ∷ vals) rest)
do_op s l o m i w vals rest SwapOp = popping vals o (λ v vals. popping vals o (λ u vals. go o m i w (u ∷ v ∷ vals) rest))
do_op s l o m i w vals rest (StoreOp t) = stored o m i w vals rest t
do_op s l o m i w vals rest (ShareOp ts) = popping vals o (λ v vals. go o m i (Do (GiveOp v ts) ∷ w) vals rest)
do_op s l o m i w vals rest (GiveOp v ts) = given_to o m i w vals rest v ts
do_op s l o m i w vals rest (ReferOp line) = referred s o m i w vals rest line
do_op s l o m i w vals rest (ArrayOp kind n line) = pop_integers plain (2 * n) [] vals o (λ bounds vals. making_array l line i kind (pairs bounds) o (λ array p. go p m i w (ArrayValue array ∷ vals) rest))
-- statements
do_op s l o m i w vals rest (Exec a) = exec s l o m i w vals rest a
do_op s l o m i w vals rest (Execs ss) = execs o m i w vals rest ss
do_op s l o m i w vals rest (EnterOp k line) = sub_block_entered s l o m i w vals rest k line (text s k)
do_op s l o m i w vals rest (PrefixedOp k n line) = prefix_done s l o m i w vals rest k n line
do_op s l o m i w vals rest (DeclareOp ds) = go o m i (arrays_declared s m i ds w) vals rest
do_op s l o m i w vals rest (LevelOp k) = go o m i w vals rest
do_op s l o m i w vals rest (InnerOp xs) = inner_done o m i w vals rest xs
do_op s l o m i w vals rest SelfOp = go o m i w (Of (Object i) ∷ vals) rest
do_op s l o m i w vals rest EndProcessOp = process_ended s o m i w vals rest
do_op s l o m i w vals rest (BlockOp b) = go o m i w (Link b ∷ vals) rest
do_op s l o m i w vals rest (ActivateOp again timing line) = activation_done s o m i w vals rest again timing line
do_op s l o m i w vals rest (ConnectOp k a other) = inspected o m i w vals rest k a other
do_op s l o m i w vals rest (WhenOp arms other) = inspected_when s o m i w vals rest arms other
do_op s l o m i w vals rest (ChooseOp a b) = pop_truth plain vals o (λ c vals. choosing c (go o m i (Do (Exec a) ∷ first_branch b w) vals rest) (go o m i (Do (Execs b) ∷ w) vals rest))
do_op s l o m i w vals rest (TestOp c a) = ticking l o (λ p. go p m i (Do (Eval (close s m i c)) ∷ Do (BranchOp a (BackOp (TestOp c a))) ∷ w) vals rest)
do_op s l o m i w vals rest (BranchOp a again) = pop_truth plain vals o (λ c vals. choosing c (go o m i (Do (Exec a) ∷ Do again ∷ w) vals rest) (go o m i w vals rest))
do_op s l o m i w vals rest (BackOp op) = go o m i (Do op ∷ w) vals rest
do_op s l o m i w vals rest PastOp = go o m i w vals rest
-- `for` lists
do_op s l o m i w vals rest (ElementsOp t es a) = elements s l o m i w vals rest t es a
do_op s l o m i w vals rest (WhileElementOp t e c a) = while_element s l o m i w vals rest t e c a
do_op s l o m i w vals rest (StepTestOp t line step limit a) = step_tested s l o m i w vals rest t line step limit a
do_op s l o m i w vals rest (StepOp line) = testing_step plain line vals o (λ b vals. go o m i w (Of b ∷ vals) rest)
do_op s l o m i w vals rest (RaiseOp t line step limit a) = raised s o m i w vals rest t line step limit a

abbrev pub do_item : Source → Limits → World → Instances → ℕ → List Item → List Val → List Activation → Item → Run Configuration
do_item s l o m i w vals rest (Do op) = do_op s l o m i w vals rest op
do_item s l o m i w vals rest EndBlock = leaving s rest None i o m
do_item s l o m i w vals rest (EndProcedure true) = having (cell m i Result) o (λ v. leaving s rest (Some v) i o m)
do_item s l o m i w vals rest (EndProcedure false) = leaving s rest None i o m
do_item s l o m i w vals rest (EndLevel k) = go o m i w vals rest
-- each object that ends takes its tick
do_item s l o m i w vals rest EndObject = ticking l o (λ p. object_ended owner p m i rest)
do_item s l o m i w vals rest EndPrefixed = leaving s rest None i o m
do_item s l o m i w vals rest (EndEvaluation wanted) = popping vals o (λ v vals. evaluated s l o m rest wanted v)
do_item s l o m i w vals rest EndProgram = stopping Normal o

abbrev pub do_work : Source → Limits → World → Instances → ℕ → List Val → List Activation → List Item → Run Configuration
do_work s l o m i vals rest [] = no_rule o
do_work s l o m i vals rest (x ∷ w) = do_item s l o m i w vals rest x

-- The first step enters the program's block. Behind it stands that control goes on, so that the code has an instruction there. A prefix of the
-- program's block can only be `simset` or `simulation`, which has no parameters.
abbrev pub program_entered : Source → Limits → World → Instances → Option Text → Run Configuration
program_entered s l o m (Some (BlockText begin ds ss)) =
    let cells = first_cells s 0 (BlockText begin ds ss) in
    entering l (line_at s begin) (words_of_cells cells) o (λ p.
    in_instance s p m 0 None cells (λ now. Do PastOp ∷ block_work s now (length m.instances) ds ss EndProgram) [])
program_entered s l o m (Some (PrefixedText class arguments ds ss)) =
    having (levels s 0) o (λ xs. entering l (line_at s class.token.0) (words_of_cells (cells_of_levels s xs)) o (λ p.
    in_instance s (block_begun s 0 (length m.instances) p) m 0 None (cells_of_levels s xs) (λ now. Do PastOp ∷ levels_work xs EndProgram) []))
program_entered s l o m _ = no_rule o

abbrev pub first_step : Source → Limits → World → Instances → Run Configuration
first_step s l o m = when (length m.instances == 0) o (program_entered s l o m (text s 0))

abbrev pub do_chain : Source → Limits → World → Instances → List Activation → Run Configuration
do_chain s l o m [] = first_step s l o m
do_chain s l o m (a ∷ rest) = do_work s l o m a.instance a.values rest a.work

abbrev pub step : Source → Limits → World → Configuration → Run Configuration
step s l o c = do_chain s l o c.memory c.chain

abbrev pub opening : Source → Limits → (input : List ℕ) → Run Configuration
opening s l input = Going (first_world (constants_of s) l input) no_instances

-- the run of a program after n steps
abbrev pub run : Source → Limits → (input : List ℕ) → ℕ → Run Configuration
run s l input n = after (step s l) n (opening s l input)
