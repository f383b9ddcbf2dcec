-- The evaluation of an actual parameter is an activation on a chain, and no instance. Here it is left out: what it has pending is pending in the
-- instance for which it is done.
use Rattle.std.specs.Prelude.{◌≡◌, ◌⊎◌, ℕ, ◌+◌, Bool, if◌then◌else◌, List, [], ◌∷◌, ◌++◌, length, map, slice_get, Option, Some, None, Result, Ok}
use Rattle.sim_base.specs.declared.run_error.RunError.{RunError}
use Rattle.sim_chains.specs.WellFormed.{chain_in}
use Rattle.sim_chains.specs.Components.{AttachedObject, Components, DetachedObject, NoObject, ResumedObject, Standing, TerminatedObject, call, detach, entered, finish, left, resume, resume_main}
use Rattle.sim_base.specs.declared.limits.Limits.{Limits}
use Rattle.sim_scope.specs.Source.{Source}
use Rattle.sim_values.specs.declared.standard.Standard.{Standard}
use Rattle.sim_tree.specs.Syntax.{Expression}
use Rattle.sim_code.specs.Instances.{components, system_head}
use Rattle.sim_code.specs.Scheduling.{Timing}
use Rattle.sim_code.specs.Transfers.{Calling, Detaching, Resuming}
use Rattle.sim_code.specs.Outcome.{Going, World}
use Rattle.sim_meaning.specs.Meaning.{run, step}
use Rattle.sim_meaning.specs.Pending.{ActivateOp, Activation, CallOp, CallValueOp, CloseOp, Configuration, Do, EndBlock, EndEvaluation, EndLevel, EndObject, EndPrefixed, EndProcedure, EndProcessOp, EnterOp, Item, Key, NamedOp, NewOp, Op, ParameterOp, PrefixedOp, SimulationOp, TransferOp, Use, Val, evaluates, owner}

-- ---- pending work

-- An instance on a chain, with its pending work.
pub record OnChain : Type 0 where
  pub instance : ℕ
  pub work : List Item

-- work that is for the first instance of a chain, and is done before its own
abbrev pub in_front : List Item → List OnChain → List OnChain
in_front w [] = []
in_front w (x ∷ xs) = record { instance = x.instance; work = w ++ x.work } ∷ xs

-- The instances of a chain. An evaluation is for the instance below it, the first one that is reached.
abbrev pub on_chain : List Activation → List OnChain
on_chain [] = []
on_chain (a ∷ rest) = if evaluates a.work then in_front a.work (on_chain rest) else record { instance = a.instance; work = a.work } ∷ on_chain rest

-- Evaluations at the outer end of a chain have no instance below them there. So it is only of the main chain that a system head keeps, and they are
-- for that head.
abbrev pub if_alone : (below : List OnChain) → List Item → (further : List Item) → List Item
if_alone [] w further = w ++ further
if_alone (x ∷ xs) w further = further

abbrev pub outer_work : List Activation → List Item
outer_work [] = []
outer_work (a ∷ rest) = if evaluates a.work then if_alone (on_chain rest) a.work (outer_work rest) else outer_work rest

abbrev pub work_for_head : Option (Standing Activation) → List Item
work_for_head (Some (NoObject (Some main))) = outer_work main
work_for_head _ = []

-- an instance stands on a chain with this work
abbrev pub IsOn : (instance : ℕ) → List Item → List OnChain → Type 0
IsOn i w [] = ⊥
IsOn i w (x ∷ xs) = (x ≡ record { instance = i; work = w }) ⊎ IsOn i w xs

-- the operating chain, and those that are kept
pub data IsChain (c : Components Activation) : List Activation → Type 0 where
  operates : IsChain c c.operating
  is_kept : (j : ℕ) (x : Standing Activation) → slice_get c.standings j ≡ Some x → IsChain c (chain_in x)

-- The pending work of an instance is that of the evaluations above it, followed by its own. Where it is a system head that keeps its main chain,
-- the evaluations at the outer end of that chain are above it.
pub record PendingOf (c : Components Activation) (instance : ℕ) (w : List Item) : Type 0 where
  pub chain : List Activation
  pub of : IsChain c chain
  pub own : List Item
  pub on : IsOn instance own (on_chain chain)
  pub whole : w ≡ work_for_head (slice_get c.standings instance) ++ own

-- Work gets operators, and ends of levels, in front.
pub data Adds (w : List Item) : List Item → Type 0 where
  adds_nothing : Adds w w
  adds_operator : {op : Op} {v : List Item} → Adds w v → Adds w (Do op ∷ v)
  adds_level : {text : ℕ} {v : List Item} → Adds w v → Adds w (EndLevel text ∷ v)

-- What comes in place of an item of work: other work; or an actual parameter is closed, and then its evaluation ends.
pub data Comes (w : List Item) : List Item → Type 0 where
  work_comes : {v : List Item} → Adds w v → Comes w v
  evaluation_comes : (as_procedure : Bool) (e : Expression) (wanted : Use) → Comes w (Do (CloseOp as_procedure e) ∷ EndEvaluation wanted ∷ w)

-- the ends of blocks and procedures
pub data EndsInstance : Item → Type 0 where
  of_block : EndsInstance EndBlock
  of_procedure : {has_result : Bool} → EndsInstance (EndProcedure has_result)
  of_prefixed : EndsInstance EndPrefixed

-- what is done within an instance
pub data StaysInside : Item → Type 0 where
  by_operator : {op : Op} → StaysInside (Do op)
  behind_level : {text : ℕ} → StaysInside (EndLevel text)
  behind_evaluation : {wanted : Use} → StaysInside (EndEvaluation wanted)

-- ---- chains of instances

abbrev pub with_owner : Option ℕ → List ℕ → List ℕ
with_owner None xs = xs
with_owner (Some i) xs = i ∷ xs

-- the numbers of the instances of a chain
abbrev pub instances_on : List Activation → List ℕ
instances_on [] = []
instances_on (a ∷ rest) = with_owner (owner a) (instances_on rest)

abbrev pub instances_in : Standing Activation → Standing ℕ
instances_in (NoObject None) = NoObject None
instances_in (NoObject (Some main)) = NoObject (Some (instances_on main))
instances_in AttachedObject = AttachedObject
instances_in (DetachedObject chain) = DetachedObject (instances_on chain)
instances_in ResumedObject = ResumedObject
instances_in TerminatedObject = TerminatedObject

-- the chains of the instances, and how each instance stands
abbrev pub without_evaluations : Components Activation → Components ℕ
without_evaluations c = record { operating = instances_on c.operating; standings = map instances_in c.standings }

-- What schedules, and so may give control to another process; what enters a block or a procedure, or a prefixed block; what generates an object; and
-- what begins the evaluation of an actual parameter.
pub data Schedules : Op → Type 0 where
  by_procedure : {name : Standard} {line : ℕ} → Schedules (SimulationOp name line)
  by_activation : {again : Bool} {timing : Timing} {line : ℕ} → Schedules (ActivateOp again timing line)
  by_end : Schedules EndProcessOp

pub data Enters : Op → Type 0 where
  sub_block : {text line : ℕ} → Enters (EnterOp text line)
  procedure : {text actuals line : ℕ} → Enters (CallOp text actuals line)
  procedure_in_hand : {actuals : ℕ} {leaves : Bool} {line : ℕ} → Enters (CallValueOp actuals leaves line)
  prefixed_block : {text actuals line : ℕ} → Enters (PrefixedOp text actuals line)

pub data Generates : Op → Type 0 where
  new_object : {text actuals line : ℕ} → Generates (NewOp text actuals line)

pub data BeginsEvaluation : Op → Type 0 where
  of_name : {instance : ℕ} {key : Key} {wanted : Use} → BeginsEvaluation (NamedOp instance key wanted)
  of_parameter : {number : ℕ} {e : Expression} {line : ℕ} → BeginsEvaluation (ParameterOp number e line)

-- What an operator that transfers control makes of the chains, where it is not refused: `call`, `detach`, `resume`, and scheduling.
pub data Transfers {A : Type 0} (owner : A → Option ℕ) (head : ℕ → ℕ) (c : Components A) : Op → Components A → Type 0 where
  calls : {line : ℕ} (y : Option ℕ) {d : Components A} → ◌≡◌ {A = Result (Components A) RunError} (call c y) (Ok d) → Transfers owner head c (TransferOp Calling line) d
  detaches : {line : ℕ} (x : ℕ) {d : Components A} → ◌≡◌ {A = Result (Components A) RunError} (detach owner head c x) (Ok d) → Transfers owner head c (TransferOp Detaching line) d
  resumes : {line : ℕ} (y : Option ℕ) {d : Components A} → ◌≡◌ {A = Result (Components A) RunError} (resume owner head c y) (Ok d) → Transfers owner head c (TransferOp Resuming line) d
  schedules : {op : Op} → Schedules op → (y : ℕ) {d : Components A} → ◌≡◌ {A = Result (Components A) RunError} (resume owner head c (Some y)) (Ok d) → Transfers owner head c op d
  schedules_main : {op : Op} → Schedules op → (s : ℕ) {d : Components A} → ◌≡◌ {A = Result (Components A) RunError} (resume_main owner c s) (Ok d) → Transfers owner head c op d

-- ---- steps

abbrev pub waiting : (instance : ℕ) → List Item → OnChain
waiting i w = record { instance = i; work = w }

-- there are the same instances, and they stand in the same way as components
pub record StandAsBefore (c d : Configuration) : Type 0 where
  pub counted : length d.memory.instances ≡ length c.memory.instances
  pub standings : d.memory.standings ≡ c.memory.standings

-- there is one instance more, which stands so
pub record OneMore (c : Configuration) (standing : Standing Activation) (d : Configuration) : Type 0 where
  pub counted : length d.memory.instances ≡ length c.memory.instances + 1
  pub standings : d.memory.standings ≡ c.memory.standings ++ standing ∷ []

abbrev pub left_on_top : Activation → List Item → List Val → Activation
left_on_top a w vals = record { instance = a.instance; work = w; values = vals }

-- The first item of the pending work of the operating instance i is done, and w is left behind it; others stand below on the chain.
pub data Done (c : Configuration) (i : ℕ) (w : List Item) (others : List OnChain) : Item → Configuration → Type 0 where
  -- within the instance, and so it is also where the evaluation of an actual parameter ends
  inside : {item : Item} {v : List Item} (d : Configuration) → StaysInside item → Adds w v → on_chain d.chain ≡ waiting i v ∷ others → StandAsBefore c d → Done c i w others item d
  -- and where it begins
  began_evaluation : {op : Op} (d : Configuration) → BeginsEvaluation op → (as_procedure : Bool) (e : Expression) (wanted : Use) → on_chain d.chain ≡ waiting i (Do (CloseOp as_procedure e) ∷ EndEvaluation wanted ∷ w) ∷ others → StandAsBefore c d → Done c i w others (Do op) d
  -- a new instance is on top, which is no object, or an attached one
  entered_instance : {op : Op} (v : List Item) (d : Configuration) → Enters op → on_chain d.chain ≡ waiting (length c.memory.instances) v ∷ waiting i w ∷ others → OneMore c (NoObject None) d → Done c i w others (Do op) d
  entered_object : {op : Op} (v : List Item) (d : Configuration) → Generates op → on_chain d.chain ≡ waiting (length c.memory.instances) v ∷ waiting i w ∷ others → OneMore c AttachedObject d → Done c i w others (Do op) d
  -- the instance was done
  left_instance : {item : Item} (d : Configuration) → EndsInstance item → w ≡ [] → on_chain d.chain ≡ others → StandAsBefore c d → Done c i w others item d
  -- control is transferred, when the item was taken from the activation on top
  transferred_control : {op : Op} (d : Configuration) (top : Activation) (work : List Item) (values : List Val) (below : List Activation)
      → c.chain ≡ top ∷ below → top.work ≡ Do op ∷ work → on_chain (left_on_top top work values ∷ below) ≡ waiting i w ∷ others
      → Transfers owner (system_head c.memory) (record { operating = left_on_top top work values ∷ below; standings = c.memory.standings }) op (components d)
      → length d.memory.instances ≡ length c.memory.instances → Done c i w others (Do op) d
  -- the instance is an object, attached or resumed, and was done
  ended_object : (d : Configuration) → (slice_get c.memory.standings i ≡ Some AttachedObject) ⊎ (slice_get c.memory.standings i ≡ Some ResumedObject) → w ≡ [] → components d ≡ finish owner (system_head c.memory) (components c) i → length d.memory.instances ≡ length c.memory.instances → Done c i w others EndObject d

-- A step does the first item of the pending work of the instance that operates.
pub record DoesPending (c d : Configuration) : Type 0 where
  pub instance : ℕ
  pub item : Item
  pub behind : List Item
  pub others : List OnChain
  pub operates : on_chain c.chain ≡ waiting instance (item ∷ behind) ∷ others
  pub done : Done c instance behind others item d

-- A moment of a run, and the next one.
pub record NextMoments (s : Source) : Type 0 where
  pub limits : Limits
  pub input : List ℕ
  pub steps : ℕ
  pub world : World
  pub now : Configuration
  pub next_world : World
  pub next : Configuration
  pub reaches : run s limits input steps ≡ Going world now
  pub goes_on : step s limits world now ≡ Going next_world next

-- So it is with each step but the first one, which enters the program.
pub record WorksOffPending (s : Source) : Type 0 where
  pub each : (t : NextMoments s) → ((t.now).chain ≡ [] → ⊥) → DoesPending t.now t.next

-- ---- what a step does to the chains of instances

-- a number is that of an instance itself
abbrev pub itself : ℕ → Option ℕ
itself i = Some i

-- The chains stay as they are; or the innermost instance is a new one, which has the next number, or it ends; or control is transferred; or the
-- object ends that operates. These are the definitions of chains for the numbers of instances alone.
pub data Steps (next : ℕ) (head : ℕ → ℕ) (c : Components ℕ) : Item → Components ℕ → Type 0 where
  stays : {item : Item} → StaysInside item → Steps next head c item c
  enters_instance : {op : Op} → Enters op → Steps next head c (Do op) (entered next (NoObject None) c)
  enters_object : {op : Op} → Generates op → Steps next head c (Do op) (entered next AttachedObject c)
  leaves_instance : {item : Item} → EndsInstance item → Steps next head c item (left c)
  transfers_control : {op : Op} {d : Components ℕ} → Transfers itself head c op d → Steps next head c (Do op) d
  ends_object : (object : ℕ) {rest : List ℕ} → c.operating ≡ object ∷ rest → Steps next head c EndObject (finish itself head c object)

-- What is pending in the operating instance after a step: what came in place of the item; or nothing, since it was done.
pub data OwnAfter (d : Configuration) (instance : ℕ) (w : List Item) : Type 0 where
  pending_after : (v : List Item) → Comes w v → PendingOf (components d) instance v → OwnAfter d instance w
  done_after : w ≡ [] → OwnAfter d instance w

-- Each instance has one pending work at most, and after a step the others have the same as before.
pub record PendingAfter (c d : Configuration) (instance : ℕ) (item : Item) (w : List Item) : Type 0 where
  pub one : (j : ℕ) (u v : List Item) → PendingOf (components c) j u → PendingOf (components c) j v → u ≡ v
  pub before : PendingOf (components c) instance (item ∷ w)
  pub own : OwnAfter d instance w
  pub others : (j : ℕ) (u : List Item) → (j ≡ instance → ⊥) → PendingOf (components c) j u → PendingOf (components d) j u

-- A step does an item of pending work, and what that is for the chains of instances, evaluations left out.
pub record StepsWithout (c d : Configuration) : Type 0 where
  pub does : DoesPending c d
  pub pending : PendingAfter c d does.instance does.item does.behind
  pub chains : Steps (length c.memory.instances) (system_head c.memory) (without_evaluations (components c)) does.item (without_evaluations (components d))

-- The first step enters the program's block, which is the first instance.
pub record BeginsProgram (c d : Configuration) : Type 0 where
  pub none : c.memory.instances ≡ []
  pub chains : without_evaluations (components d) ≡ entered 0 (NoObject None) (without_evaluations (components c))

pub record ChainsAreOfInstances (s : Source) : Type 0 where
  pub first : (t : NextMoments s) → (t.now).chain ≡ [] → BeginsProgram t.now t.next
  pub each : (t : NextMoments s) → ((t.now).chain ≡ [] → ⊥) → StepsWithout t.now t.next
