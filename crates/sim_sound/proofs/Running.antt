-- What stands on the chains, and which configurations have a rule for what is pending.
use Rattle.std.proofs.Common.{◌≡◌, ◌<◌, ◌≤◌, ℕ, zero, suc, Bool, true, false, List, [], ◌∷◌, length, Option, Some, None}
use Rattle.std.specs.Prelude.{slice_get, ◌+◌}
use Rattle.sim_base.specs.declared.numbering.DeclNo.{DeclNo}
use Rattle.sim_chains.specs.Chains.{outermost, times_on}
use Rattle.sim_chains.specs.Components.{AttachedObject, Components, DetachedObject, NoObject, ResumedObject, Standing, TerminatedObject, standing_of}
use Rattle.sim_chains.specs.WellFormed.{HasResumed, IsInPlace, over_kept}
use Rattle.sim_scope.specs.declared.types.Formal.{Formal}
use Rattle.sim_scope.specs.Source.{Source}
use Rattle.sim_tree.specs.declared.stmt.TypeName.{TypeName}
use Rattle.sim_tree.specs.Syntax.{Heading, Statement}
use Rattle.sim_values.specs.Plain.{Object, Plain}
use Rattle.sim_code.specs.Outcome.{ArrayOf as OneArray}
use Rattle.sim_code.specs.Arrays.{unless_given}
use Rattle.sim_code.specs.Instances.{Instance, is_given_at_end, is_object_at, live, system_head}
use Rattle.sim_meaning.specs.Levels.{has_levels}
use Rattle.sim_meaning.specs.Meaning.{formal_in_hand, has_result, is_by_name}
use Rattle.sim_meaning.specs.Pending.{Activation, Configuration, Do, EndBlock, EndEvaluation, EndLevel, ForParameter, ForPlace, EndObject, EndPrefixed, EndProcedure, EndProgram, Held, Instances, Item, Of, Use, Val, owner}
use Rattle.sim_meaning.specs.Texts.{ProcedureText, is_class_free, text}
use Rattle.sim_sound.specs.Held.{Holds, actual_means}
use Rattle.sim_sound.proofs.Members.{MembersFine, no_members}
use Rattle.sim_sound.proofs.Simulated.{SimulationsFine}
use Rattle.sim_sound.proofs.Sound.{Gets, Gives, GivesResult, Makes, OpFine, given}
use Rattle.sim_sound.proofs.Values.{AllArrays, ForFormal, Generated, HandsFine, InstanceFine, Kinds, Near, Passes, PlainFine, Present, Seat, Sight, Stays, at_seat, Suspended, Takes, Waits, elements_of}

-- an instance that is an object's
abbrev pub IsObject : Standing Activation → Type 0
IsObject AttachedObject = Unit {0}
IsObject (DetachedObject chain) = Unit {0}
IsObject ResumedObject = Unit {0}
IsObject TerminatedObject = Unit {0}
IsObject (NoObject main) = ⊥

abbrev pub ObjectStands : Instances → ℕ → Type 0
ObjectStands m j = (x : Standing Activation) × (slice_get m.standings j ≡ Some x) × IsObject x

-- and one that is none
abbrev pub NoObjectStands : Instances → ℕ → Type 0
NoObjectStands m j = (main : Option (List Activation)) × (slice_get m.standings j ≡ Some (NoObject main))

abbrev pub is_resumed : Option (Standing Activation) → Bool
is_resumed (Some ResumedObject) = true
is_resumed _ = false

-- a resumed object
abbrev pub resumes : Instances → ℕ → Bool
resumes m j = is_resumed (slice_get m.standings j)

-- what waits when an object of a text ends, or detaches itself: below a resumed one its system head; else what generated it, or what called
-- it, which has no reference in hand for it
abbrev pub IsRelease : (resumed : Bool) → (object class : ℕ) → Waits → Type 0
IsRelease true j t Suspended = Unit {0}
IsRelease true j t (Takes g) = ⊥
IsRelease true j t (Passes number formal) = ⊥
IsRelease true j t (Generated i u) = ⊥
IsRelease false j t Suspended = ⊥
IsRelease false j t (Passes number formal) = ⊥
IsRelease false j t (Takes None) = Unit {0}
IsRelease false j t (Takes (Some k)) = ⊥
IsRelease false j t (Generated i u) = (i ≡ j) × (u ≡ t)

-- the end of an instance's own work
abbrev pub Last : AllArrays → List Item → Type 0
Last o w = (w ≡ []) × ((o.seat).evaluations ≡ 0)

-- what a formal parameter takes of the evaluation of its actual one, when a call is done that is checked
pub record TakesFor (s : Source) (Below : Waits → Type 0) (number : ℕ) (x : Kinds) : Type 0 where
  pub formal : Formal
  pub by_value : is_by_name formal.mode ≡ false
  pub means : Holds
  pub is : actual_means s formal.kind formal.ty ≡ Some means
  pub gives : Gives means x
  pub below : Below (Passes number formal)

-- what an evaluation gave serves for what is below
abbrev pub Serves : Source → (Below : Waits → Type 0) → Use → Kinds → Type 0
Serves s Below (ForParameter number line) x = TakesFor s Below number x
Serves s Below wanted x = (h : Holds) × Gives h x × (g : Kinds) × Gets s h wanted g × Below (Takes (Some g))

-- The pending work of an activation: of an instance's own, or of an evaluation. `Below` tells what is below on the chain where it waits for this;
-- `Outermost` that nothing is.
abbrev pub WorkFine : Source → AllArrays → Instances → (Below : Waits → Type 0) → (Outermost : Type 0) → (j t : ℕ) → List Item → (todo : List DeclNo) → (before : List Kinds) → Type 0
WorkFine s o m Below Outermost j t [] todo before = ⊥
WorkFine s o m Below Outermost j t (Do op ∷ w) todo before = (todo' : List DeclNo) × (behind : List Kinds) × OpFine s o m j t op todo todo' before behind × WorkFine s o m Below Outermost j t w todo' behind
WorkFine s o m Below Outermost j t (EndBlock ∷ w) todo before = NoObjectStands m j × Below (Takes None) × Last o w
WorkFine s o m Below Outermost j t (EndProcedure leaves ∷ w) todo before =
    (result : Option TypeName) × (heading : Heading) × (body : Statement) × (text s t ≡ Some (ProcedureText result heading body)) × (has_result result ≡ leaves) × (g : Option Kinds) × GivesResult s t g × NoObjectStands m j × Below (Takes g) × Last o w
WorkFine s o m Below Outermost j t (EndLevel k ∷ w) todo before = WorkFine s o m Below Outermost j t w todo before
-- an object, with its arrays
WorkFine s o m Below Outermost j t (EndObject ∷ w) todo before =
    (todo ≡ []) × (is_class_free s t ≡ false) × (has_levels (text s t) ≡ true) × ObjectStands m j × (v : Waits) × IsRelease (resumes m j) j t v × Below v × Last o w
WorkFine s o m Below Outermost j t (EndPrefixed ∷ w) todo before = NoObjectStands m j × Below (Takes None) × Last o w
WorkFine s o m Below Outermost j t (EndProgram ∷ w) todo before = NoObjectStands m j × Outermost × Last o w
-- what it gave is in hand alone
WorkFine s o m Below Outermost j t (EndEvaluation wanted ∷ w) todo before = (w ≡ []) × (0 < (o.seat).evaluations) × (x : Kinds) × (before ≡ x ∷ []) × Serves s Below wanted x

-- ---- chains

-- what an activation waits for, that may be a system head's own
abbrev pub awaited : (waiting : ℕ → Waits) → (owner : Option ℕ) → Waits → Waits
awaited waiting (Some j) Suspended = waiting j
awaited waiting None Suspended = Suspended
awaited waiting owner (Takes g) = Takes g
awaited waiting owner (Passes number formal) = Passes number formal
awaited waiting owner (Generated i u) = Generated i u

-- the values in hand but for the reference to an object that was generated
abbrev pub Shown : Source → Waits → (all vals : List Val) → Type 0
Shown s (Takes g) all vals = all ≡ vals
Shown s (Passes number formal) all vals = (all ≡ vals) × (formal_in_hand s number vals ≡ Some formal)
Shown s (Generated j class) all vals = all ≡ Of (Object j) ∷ vals
Shown s Suspended all vals = ⊥

-- what is in hand when what is waited for comes
abbrev pub Expected : Source → Waits → (kinds then : List Kinds) → Type 0
Expected s (Takes g) ks xs = given g ks ≡ xs
Expected s (Passes number formal) ks xs = ForFormal number ∷ ks ≡ xs
Expected s (Generated j class) ks xs = (x : Kinds) × Makes s class x × (x ∷ ks ≡ xs)
Expected s Suspended ks xs = ⊥

abbrev pub or_below : Option ℕ → (under : Option ℕ) → Option ℕ
or_below None under = under
or_below (Some j) under = Some j

-- what is given back at its end stands on that on which it was entered
abbrev pub StandsOn : (beneath : List (Option ℕ)) → Instances → (j : ℕ) → Option ℕ → Type 0
StandsOn beneath m j under = is_given_at_end m j ≡ true → slice_get beneath j ≡ Some under

-- what an activation stands on: the first instance below it, the seat of what is directly below, and for which instance that works
pub record Footing : Type 0 where
  pub under : Option ℕ
  pub seat : Option Seat
  pub next : Option ℕ

abbrev pub own_seat : ℕ → Seat
own_seat j = record { owner = j; evaluations = 0; lower = j }

abbrev pub own_seats : Option ℕ → Option Seat
own_seats None = None
own_seats (Some j) = Some (own_seat j)

abbrev pub evaluation_seat : (below : Option Seat) → (next : Option ℕ) → Option Seat
evaluation_seat (Some q) (Some j) = Some (record { owner = q.owner; evaluations = suc q.evaluations; lower = j })
evaluation_seat _ _ = None

-- the seat of an activation on that
abbrev pub seat_on : (owner : Option ℕ) → Footing → Option Seat
seat_on (Some j) f = Some (own_seat j)
seat_on None f = evaluation_seat f.seat f.next

abbrev pub footing : (floor : Option ℕ) → List Activation → Footing
footing floor [] = record { under = floor; seat = own_seats floor; next = floor }
footing floor (a ∷ rest) = record { under = or_below (owner a) (footing floor rest).under; seat = seat_on (owner a) (footing floor rest); next = Some a.instance }

-- The instance for which an activation at a seat works is there for as long as the seat's owner, and as that for which the one below works.
pub record SeatedFor (o : AllArrays) (m : Instances) (q : Seat) (j : ℕ) : Type 0 where
  pub near : Near o m q.owner j
  pub through : Near o m q.owner q.lower
  pub lower : Near o m q.lower j

pub record ActFine (s : Source) (o : AllArrays) (m : Instances) (a : Activation) (on : Footing) (waits : Waits) (Below : Waits → Type 0) (Outermost : Type 0) : Type 0 where
  pub of_text : ℕ
  pub todo : List DeclNo
  pub here : Present s m a.instance of_text todo
  pub own : (here.now).text ≡ of_text
  pub stands_on : (j : ℕ) → owner a ≡ Some j → StandsOn o.beneath m j on.under
  pub seat : Seat
  pub seated : seat_on (owner a) on ≡ Some seat
  pub works : SeatedFor o m seat a.instance
  pub vals : List Val
  pub shown : Shown s waits a.values vals
  pub kinds : List Kinds
  pub hands : HandsFine s (at_seat o seat) m a.instance kinds vals
  pub expected : List Kinds
  pub expects : Expected s waits kinds expected
  pub goes : WorkFine s (at_seat o seat) m Below Outermost a.instance of_text a.work todo expected

-- The instances on a chain. `floor` stands below it, if any does; `Ground` tells what its last one may wait for, and `Outermost` where the program
-- may end: above what rest.
abbrev pub ChainOn : Source → AllArrays → Instances → (floor : Option ℕ) → (Ground : Waits → Type 0) → (Outermost : List Activation → Type 0) → List Activation → (waits : Waits) → Type 0
ChainOn s o m floor Ground Outermost [] waits = Ground waits
ChainOn s o m floor Ground Outermost (a ∷ rest) waits = ActFine s o m a (footing floor rest) (awaited o.waiting (owner a) waits) (λ v. ChainOn s o m floor Ground Outermost rest v) (Outermost rest)

-- the instance that stands first on a chain, where evaluations are passed over
abbrev pub first_of : List Activation → Option ℕ
first_of chain = (footing None chain).under

-- the operating chain: nothing is below it
abbrev pub ChainFine : Source → AllArrays → Instances → List Activation → (waits : Waits) → Type 0
ChainFine s o m chain waits = ChainOn s o m None (λ v. ⊥) (λ rest. rest ≡ []) chain waits

-- a chain on which no program ends
abbrev pub ChainOver : Source → AllArrays → Instances → (floor : Option ℕ) → (Ground : Waits → Type 0) → List Activation → Type 0
ChainOver s o m floor Ground chain = ChainOn s o m floor Ground (λ rest. ⊥) chain (Takes None)

-- the chain that a detached object keeps, which is the last one on it: when it ends, what called it goes on
pub record KeptChain (s : Source) (o : AllArrays) (m : Instances) (j : ℕ) (chain : List Activation) : Type 0 where
  pub stays : Stays m j
  pub last : outermost owner chain ≡ Some j
  pub fine : ChainOver s o m None (λ v. v ≡ Takes None) chain

-- How an instance stands. The main chain that a system head keeps ends with what that waits for.
abbrev pub StandsFine : Source → AllArrays → Instances → ℕ → Standing Activation → Type 0
StandsFine s o m j (NoObject None) = Unit {0}
StandsFine s o m j (NoObject (Some chain)) = ChainOver s o m (Some j) (λ v. awaited o.waiting (Some j) v ≡ o.waiting j) chain
StandsFine s o m j AttachedObject = Unit {0}
StandsFine s o m j (DetachedObject chain) = KeptChain s o m j chain
StandsFine s o m j ResumedObject = Stays m j
StandsFine s o m j TerminatedObject = Unit {0}

-- all seats of a chain are of a kind, and those of a chain that an instance keeps
abbrev pub SeatOf : (Is : Seat → Type 0) → Option Seat → Type 0
SeatOf Is None = Unit {0}
SeatOf Is (Some q) = Is q

abbrev pub AllSeats : (Is : Seat → Type 0) → (floor : Option ℕ) → List Activation → Type 0
AllSeats Is floor [] = Unit {0}
AllSeats Is floor (a ∷ rest) = SeatOf Is (seat_on (owner a) (footing floor rest)) × AllSeats Is floor rest

abbrev pub KeptSeats : (Is : Seat → Type 0) → ℕ → Standing Activation → Type 0
KeptSeats Is j (NoObject None) = Unit {0}
KeptSeats Is j (NoObject (Some chain)) = AllSeats Is (Some j) chain
KeptSeats Is j AttachedObject = Unit {0}
KeptSeats Is j (DetachedObject chain) = AllSeats Is None chain
KeptSeats Is j ResumedObject = Unit {0}
KeptSeats Is j TerminatedObject = Unit {0}

abbrev pub AllKeptSeats : (Is : Seat → Type 0) → Instances → Type 0
AllKeptSeats Is m = (j : ℕ) (x : Standing Activation) → slice_get m.standings j ≡ Some x → KeptSeats Is j x

-- ---- the store

-- Each instance that was not given back is as its text says, wherever it stands; each element of an array holds what the array's do; so is all
-- that stands on the chains that are kept; the linkages are those of the objects and main programs; and the simulation blocks have their entries.
pub record StoreFine (s : Source) (o : AllArrays) (m : Instances) : Type 0 where
  pub instances : (j : ℕ) (x : Instance (List Held)) → live m j ≡ Some x → InstanceFine s o m j x
  pub elements : (a i : ℕ) (it : OneArray) (x : Sight) (p : Plain) → unless_given (slice_get o.real a) ≡ Some it → slice_get o.sights a ≡ Some x → slice_get it.elements i ≡ Some p → PlainFine s m (elements_of x) p
  pub kept : (j : ℕ) (x : Standing Activation) → slice_get m.standings j ≡ Some x → StandsFine s o m j x
  pub noted : length o.beneath ≡ length m.instances
  pub members : MembersFine s o.members m
  pub simulations : SimulationsFine s o.simulations m

-- an instance whose arrays are made but for these, in such a store
pub record Begun (s : Source) (o : AllArrays) (m : Instances) (j t : ℕ) (todo : List DeclNo) : Type 0 where
  pub store : StoreFine s o m
  pub here : Present s m j t todo
  pub own : (here.now).text ≡ t
  pub works : SeatedFor o m o.seat j

-- ---- where instances stand

-- on how many places of the operating chain and of those that are kept an instance stands
abbrev pub places : Instances → List Activation → ℕ → ℕ
places m chain j = times_on owner j chain + over_kept (times_on owner j) m.standings

-- Each instance stands on one place at most, and does so where it is given back at its end and was not; an object that is terminated stands
-- nowhere.
pub record Placed (m : Instances) (chain : List Activation) : Type 0 where
  pub once : (j : ℕ) → places m chain j ≤ 1
  pub made : (j : ℕ) → length m.instances ≤ j → places m chain j ≡ 0
  pub ended : (j : ℕ) → slice_get m.standings j ≡ Some TerminatedObject → places m chain j ≡ 0
  pub all : (j : ℕ) → is_given_at_end m j ≡ true → 0 < places m chain j
  pub as_many : length m.standings ≡ length m.instances

-- the components of a run
abbrev pub parts : Instances → List Activation → Components Activation
parts m chain = record { operating = chain; standings = m.standings }

-- The first instance is no object, so that each object has a system head. A resumed object stands directly above its system head, which keeps
-- its main chain; and a head does so only while a resumed object operates in its system.
pub record Headed (m : Instances) (chain : List Activation) : Type 0 where
  pub outer : is_object_at m 0 ≡ false
  pub resumed : (x : ℕ) → standing_of (parts m chain) x ≡ ResumedObject → IsInPlace owner (system_head m) (parts m chain) x
  pub main : (x : ℕ) (main : List Activation) → standing_of (parts m chain) x ≡ NoObject (Some main) → HasResumed owner (system_head m) (parts m chain) x

-- some activation at a seat
abbrev pub idle_work : (evaluations : ℕ) → List Item
idle_work zero = []
idle_work (suc n) = EndEvaluation (ForPlace true 0) ∷ []

abbrev pub idle : Seat → (instance : ℕ) → Activation
idle q i = record { instance = i; work = idle_work q.evaluations; values = [] }

-- An activation for the instance i operates at a seat, on top of the rest of the chain.
pub record Operates (beneath : List (Option ℕ)) (q : Seat) (m : Instances) (i : ℕ) (rest : List Activation) : Type 0 where
  pub before : i < length m.instances
  pub stands_on : (j : ℕ) → owner (idle q i) ≡ Some j → StandsOn beneath m j (first_of rest)
  pub seated : seat_on (owner (idle q i)) (footing None rest) ≡ Some q
  pub placed : Placed m (idle q i ∷ rest)
  pub headed : Headed m (idle q i ∷ rest)

-- before the first step there is nothing
pub data Fine (s : Source) (o : AllArrays) (c : Configuration) : Type 0 where
  opens : c.chain ≡ [] → (c.memory).instances ≡ [] → (c.memory).standings ≡ [] → o.sights ≡ [] → o.beneath ≡ [] → o.members ≡ no_members → o.simulations ≡ [] → Fine s o c
  runs : StoreFine s o c.memory → Placed c.memory c.chain → Headed c.memory c.chain → ChainFine s o c.memory c.chain (Takes None) → Fine s o c
