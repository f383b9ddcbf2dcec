-- Transfers of control from component to component, for the meaning and the machine: what `detach`, `call` and `resume` make of the chains.
use Rattle.std.specs.Prelude.{◌≡◌, ℕ, List, [], ◌∷◌, slice_get, Option, Some, None, Result, Ok, Err}
use Rattle.sim_base.specs.declared.run_error.RunError.{RunError}
use Rattle.sim_base.specs.declared.run_error.RunError.TheVariants.{ComponentIsAttached, ObjectNotOperating, ResumedIsAttached}
use Rattle.sim_chains.specs.Chains.{Cut, cut_at}
use Rattle.sim_chains.specs.Components.{AttachedObject, Components, NoObject, ResumedObject, call, detach, finish, resume}
use Rattle.sim_values.specs.Plain.{MainOf, Nothing, Object, Plain}
use Rattle.sim_code.specs.Outcome.{Ended, Going, NoRule, Run, RunFault, World}
use Rattle.sim_code.specs.Events.{computing, having, stopping}
use Rattle.sim_code.specs.Instances.{Memory, State, components, going_below, object_ended, system_head}

-- by which word control is transferred
pub data Transfer : Type 0 where
  Detaching : Transfer
  Calling : Transfer
  Resuming : Transfer

-- the component that a reference names: an object, or none
abbrev pub component_in : Plain → Option (Option ℕ)
component_in (Object j) = Some (Some j)
component_in Nothing = Some None
component_in _ = None

-- A main program counts as an attached object on no chain.
abbrev pub refused_of_main : Transfer → RunError
refused_of_main Detaching = ObjectNotOperating
refused_of_main Calling = ComponentIsAttached
refused_of_main Resuming = ResumedIsAttached

-- `owner` of an activation as for chains; `head` gives the system head of an object
module _ {A : Type 0} (owner : A → Option ℕ) where
  -- there is no rule to detach none
  abbrev pub transferred : Transfer → (head : ℕ → ℕ) → Components A → (component : Option ℕ) → Option (Result (Components A) RunError)
  transferred Detaching head c None = None
  transferred Detaching head c (Some x) = Some (detach owner head c x)
  transferred Calling head c y = Some (call c y)
  transferred Resuming head c y = Some (resume owner head c y)

  -- Control goes on where the operating chain leads then, or the transfer is refused. `chain` is the operating chain before.
  unfoldable pub transferring : {C : Type 0} → Transfer → (line : ℕ) → World → (chain : List A) → Memory C A → Plain → Run (State C A)
  transferring t line o chain m (MainOf b) = stopping (RunFault (refused_of_main t) line) o
  transferring t line o chain m v =
      having (component_in v) o (λ y.
      having (transferred t (system_head m) (record { operating = chain; standings = m.standings }) y) o (λ r.
      computing line r o (λ c. going_below o c.operating (record m { standings = c.standings }))))

-- ---- as among components

module _ {C A : Type 0} where
  -- The run goes on with these components, and with the instances as they were. Where no activation is left there is no rule.
  abbrev pub GoesOn : World → Memory C A → Components A → (operating : List A) → Run (State C A) → Type 0
  GoesOn o m c [] r = r ≡ Ended o NoRule
  GoesOn o m c (a ∷ below) r = (left : State C A) × (r ≡ Going o left) × (components left ≡ c) × (left.memory.instances ≡ m.instances)

  -- the same of a transfer that may be refused: then the run ends with the error at the line
  abbrev pub GoesAs : World → (line : ℕ) → Memory C A → Result (Components A) RunError → Run (State C A) → Type 0
  GoesAs o line m (Ok c) r = GoesOn o m c c.operating r
  GoesAs o line m (Err e) r = r ≡ stopping (RunFault e line) o

  -- the components before a transfer
  abbrev pub before : (chain : List A) → Memory C A → Components A
  before chain m = components (record { chain = chain; memory = m })

  pub record TransfersAsComponents (owner : A → Option ℕ) (line : ℕ) (o : World) (chain : List A) (m : Memory C A) : Type 0 where
    pub detaches : (x : ℕ) → GoesAs o line m (detach owner (system_head m) (before chain m) x) (transferring owner Detaching line o chain m (Object x))
    pub calls : (y : ℕ) → GoesAs o line m (call (before chain m) (Some y)) (transferring owner Calling line o chain m (Object y))
    pub calls_none : GoesAs o line m (call (before chain m) None) (transferring owner Calling line o chain m Nothing)
    pub resumes : (y : ℕ) → GoesAs o line m (resume owner (system_head m) (before chain m) (Some y)) (transferring owner Resuming line o chain m (Object y))
    pub resumes_none : GoesAs o line m (resume owner (system_head m) (before chain m) None) (transferring owner Resuming line o chain m Nothing)

  -- The end of an object on top of the operating chain. Of a resumed one the system head keeps the main chain, and stands below.
  abbrev pub Finishes : (owner : A → Option ℕ) → World → (top : A) → (below : List A) → Memory C A → (object : ℕ) → Type 0
  Finishes owner o top below m j =
      GoesOn o m (finish owner (system_head m) (before (top ∷ below) m) j) (finish owner (system_head m) (before (top ∷ below) m) j).operating (object_ended owner o m j below)

  pub record EndsAsComponent (owner : A → Option ℕ) (o : World) (top : A) (below : List A) (m : Memory C A) (object : ℕ) : Type 0 where
    pub attached : slice_get m.standings object ≡ Some AttachedObject → Finishes owner o top below m object
    pub resumed : (main : List A) (k : Cut A) → slice_get m.standings object ≡ Some ResumedObject → slice_get m.standings (system_head m object) ≡ Some (NoObject (Some main)) → cut_at owner (system_head m object) below ≡ Some k → (system_head m object ≡ object → ⊥) → Finishes owner o top below m object
