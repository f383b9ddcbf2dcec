-- Which component operates, and what `call`, `detach`, `resume` and the end of an object make of the chains.
--
-- In the pictures `chain(Y)` is the chain that the detached object Y keeps, from its innermost activation out to its own; `U` and
-- `R` are any chains, `[X]` is the own activation of X, and `S` is the system head of Y.
use Rattle.std.specs.Prelude.{ℕ, Bool, true, false, if◌then◌else◌, List, [], ◌∷◌, ◌++◌, Option, Some, None, Result, Ok, Err, slice_index_or, slice_set}
use Rattle.sim_base.specs.declared.run_error.RunError.{RunError}
use Rattle.sim_base.specs.declared.run_error.RunError.TheVariants.{NoneIsNoComponent, ComponentIsAttached, ComponentIsTerminated, ComponentIsResumed, ObjectNotOperating, SystemNotOperating, ResumedIsAttached}
use Rattle.sim_chains.specs.Chains.{Cut, cut_at, outermost, upper}
use Rattle.sim_chains.specs.declared.state.State.{State}
use Rattle.sim_chains.specs.declared.state.State.TheVariants.{Attached, Detached, Resumed, Terminated}

-- How an instance stands as a component. An instance that is no object may be a system head: it keeps the chain of its main
-- component for as long as a resumed object operates in its place. A detached object keeps its own chain.
pub data Standing (A : Type 0) : Type 0 where
  NoObject : Option (List A) → Standing A
  AttachedObject : Standing A
  DetachedObject : List A → Standing A
  ResumedObject : Standing A
  TerminatedObject : Standing A

-- the operating chain, and how each instance stands, by its number in the order of entry
pub record Components (A : Type 0) : Type 0 where
  pub operating : List A
  pub standings : List (Standing A)

module _ {A : Type 0} where
  -- the state of an object; none of an instance that is no object
  abbrev pub state_in : Standing A → Option State
  state_in (NoObject main) = None
  state_in AttachedObject = Some Attached
  state_in (DetachedObject chain) = Some Detached
  state_in ResumedObject = Some Resumed
  state_in TerminatedObject = Some Terminated

  abbrev pub standing_of : Components A → ℕ → Standing A
  standing_of c x = slice_index_or c.standings x (NoObject None)

  abbrev pub state_of : Components A → ℕ → Option State
  state_of c x = state_in (standing_of c x)

  -- whether the main component of a system waits
  abbrev pub waits_in : Standing A → Bool
  waits_in (NoObject (Some main)) = true
  waits_in other = false

  abbrev pub with_operating : List A → Components A → Components A
  with_operating l c = record { operating = l; standings = c.standings }

  abbrev pub with_standing : ℕ → Standing A → Components A → Components A
  with_standing x s c = record { operating = c.operating; standings = slice_set c.standings x s }

  -- a new instance begins on top of the operating chain; as an object it is attached
  abbrev pub entered : A → Standing A → Components A → Components A
  entered a s c = record { operating = a ∷ c.operating; standings = c.standings ++ s ∷ [] }

  -- the innermost activation ends, which is not that of an object
  abbrev pub left : Components A → Components A
  left c = with_operating (left_by c.operating) c
    where
      left_by : List A → List A
      left_by [] = []
      left_by (a ∷ l) = l

  --  call(Y)        before   O                     chain(Y) = U ++ [Y]   Y detached
  --                 after    U ++ [Y] ++ O                               Y attached
  abbrev pub call_by : Standing A → Components A → ℕ → Result (Components A) RunError
  call_by (NoObject main) c y = Err ComponentIsAttached
  call_by AttachedObject c y = Err ComponentIsAttached
  call_by TerminatedObject c y = Err ComponentIsTerminated
  call_by ResumedObject c y = Err ComponentIsResumed
  call_by (DetachedObject chain) c y = Ok (with_standing y AttachedObject (with_operating (chain ++ c.operating) c))

  abbrev pub call : Components A → Option ℕ → Result (Components A) RunError
  call c None = Err NoneIsNoComponent
  call c (Some y) = call_by (standing_of c y) c y

-- `owner` of an activation as for chains; `head` gives the system head of an object
module _ {A : Type 0} (owner : A → Option ℕ) where
  -- The component of the system S that operates keeps U, what stands above the head: as its main chain where the main component
  -- operates, else as the chain of the resumed object, which is the outermost of U and is detached then.
  abbrev pub kept_as : Option ℕ → List A → Components A → Components A
  kept_as None u c = c
  kept_as (Some z) u c = with_standing z (DetachedObject u) c

  abbrev pub kept_by : Standing A → ℕ → List A → Components A → Components A
  kept_by (NoObject None) s u c = with_standing s (NoObject (Some u)) c
  kept_by other s u c = kept_as (outermost owner u) u c

  abbrev pub kept : ℕ → List A → Components A → Components A
  kept s u c = kept_by (standing_of c s) s u c

  --  resume(Y)      before   U ++ [S] ++ R         chain(Y)              Y detached
  --                 after    chain(Y) ++ [S] ++ R  S's component keeps U   Y resumed
  --  Where Y is resumed already, nothing is done.
  abbrev pub resume_at : Option (Cut A) → List A → Components A → ℕ → ℕ → Result (Components A) RunError
  resume_at None chain c s y = Err SystemNotOperating
  resume_at (Some k) chain c s y = Ok (with_standing y ResumedObject (with_operating (chain ++ k.here ∷ k.below) (kept s k.above c)))

  abbrev pub resume_by : Standing A → Components A → ℕ → ℕ → Result (Components A) RunError
  resume_by (NoObject main) c s y = Err ResumedIsAttached
  resume_by AttachedObject c s y = Err ResumedIsAttached
  resume_by TerminatedObject c s y = Err ComponentIsTerminated
  resume_by ResumedObject c s y = Ok c
  resume_by (DetachedObject chain) c s y = resume_at (cut_at owner s c.operating) chain c s y

  abbrev pub resume : (head : ℕ → ℕ) → Components A → Option ℕ → Result (Components A) RunError
  resume head c None = Err NoneIsNoComponent
  resume head c (Some y) = resume_by (standing_of c y) c (head y) y

  --  the main component of S
  --                 before   U ++ [S] ++ R         S keeps M              a resumed object of S operates
  --                 after    M ++ [S] ++ R         that object keeps U    the object is detached
  --  Where the main component operates already, nothing is done, also where S is not on the operating chain.
  abbrev pub main_at : Option (Cut A) → List A → Components A → ℕ → Result (Components A) RunError
  main_at None main c s = Err SystemNotOperating
  main_at (Some k) main c s = Ok (with_standing s (NoObject None) (with_operating (main ++ k.here ∷ k.below) (kept s k.above c)))

  abbrev pub main_by : Standing A → Components A → ℕ → Result (Components A) RunError
  main_by (NoObject (Some main)) c s = main_at (cut_at owner s c.operating) main c s
  main_by other c s = Ok c

  abbrev pub resume_main : Components A → ℕ → Result (Components A) RunError
  resume_main c s = main_by (standing_of c s) c s

  --  detach of X    before   U ++ [X] ++ R         X attached
  --                 after    R                     chain(X) = U ++ [X]   X detached
  --  Of a resumed X on the operating chain it gives control to the main component of X's system; in an instance that is no object
  --  it does nothing.
  abbrev pub leave_at : Option (Cut A) → Components A → ℕ → Result (Components A) RunError
  leave_at None c x = Err ObjectNotOperating
  leave_at (Some k) c x = Ok (with_standing x (DetachedObject (upper k)) (with_operating k.below c))

  abbrev pub give_up_at : Option (Cut A) → Components A → ℕ → Result (Components A) RunError
  give_up_at None c s = Err ObjectNotOperating
  give_up_at (Some k) c s = resume_main c s

  abbrev pub detach_by : Standing A → Components A → ℕ → ℕ → Result (Components A) RunError
  detach_by (NoObject main) c s x = Ok c
  detach_by AttachedObject c s x = leave_at (cut_at owner x c.operating) c x
  detach_by ResumedObject c s x = give_up_at (cut_at owner x c.operating) c s
  detach_by (DetachedObject chain) c s x = Err ObjectNotOperating
  detach_by TerminatedObject c s x = Err ObjectNotOperating

  abbrev pub detach : (head : ℕ → ℕ) → Components A → ℕ → Result (Components A) RunError
  detach head c x = detach_by (standing_of c x) c (head x) x

  --  the end of X   before   [X] ++ R              X attached
  --                 after    R                     X terminated
  --                 before   U ++ [S] ++ R         X resumed, S keeps M
  --                 after    M ++ [S] ++ R         X terminated, U is dropped
  abbrev pub returned : Option (Cut A) → Components A → Components A
  returned None c = c
  returned (Some k) c = with_operating k.below c

  abbrev pub dropped : Option (Cut A) → Standing A → ℕ → Components A → Components A
  dropped (Some k) (NoObject (Some main)) s c = with_standing s (NoObject None) (with_operating (main ++ k.here ∷ k.below) c)
  dropped other standing s c = c

  abbrev pub finish_by : Standing A → Components A → ℕ → ℕ → Components A
  finish_by ResumedObject c s x = with_standing x TerminatedObject (dropped (cut_at owner s c.operating) (standing_of c s) s c)
  finish_by other c s x = with_standing x TerminatedObject (returned (cut_at owner x c.operating) c)

  abbrev pub finish : (head : ℕ → ℕ) → Components A → ℕ → Components A
  finish head c x = finish_by (standing_of c x) c (head x) x

  -- After a scheduling procedure the process of the first notice is to operate. Where it is the same as before, control stays where
  -- it is. Else it is the main component of the system, here none, or the object of the process, which is resumed.
  abbrev pub give_control_to : (head : ℕ → ℕ) → Components A → ℕ → Option ℕ → Result (Components A) RunError
  give_control_to head c s None = resume_main c s
  give_control_to head c s (Some y) = resume head c (Some y)

  abbrev pub give_control : (head : ℕ → ℕ) → Bool → Components A → ℕ → Option ℕ → Result (Components A) RunError
  give_control head as_before c s process = if as_before then Ok c else give_control_to head c s process
