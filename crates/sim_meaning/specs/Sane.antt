-- What the code of a program may count on at each moment of the program's run: the instance that operates lives with its enclosers, and
-- stands at no other place of the chains; and the components are as transfers of control leave them.
use Rattle.std.specs.Prelude.{◌≡◌, ⊤, ℕ, true, List, [], ◌∷◌, slice_get, Option, Some, None}
use Rattle.sim_base.specs.declared.limits.Limits.{Limits}
use Rattle.sim_chains.specs.Components.{DetachedObject, NoObject, Standing}
use Rattle.sim_chains.specs.WellFormed.{IsWellFormed}
use Rattle.sim_scope.specs.Source.{Source}
use Rattle.sim_values.specs.Plain.{MainOf, Object}
use Rattle.sim_code.specs.Outcome.{Ended, Going, NoRule, World}
use Rattle.sim_code.specs.Instances.{Instance, Memory, components, live, system_head}
use Rattle.sim_meaning.specs.Levels.{has_levels, is_simulation_text}
use Rattle.sim_meaning.specs.Meaning.{run, value_given}
use Rattle.sim_meaning.specs.Pending.{Activation, Configuration, Held, Instances, Val}
use Rattle.sim_meaning.specs.Pending as pending
use Rattle.sim_meaning.specs.Texts.{text}

-- Neither an instance nor one of its enclosers was given back.
pub data Lives {C A : Type 0} (m : Memory C A) : (instance : ℕ) → Type 0 where
  lives_alone : {j : ℕ} {x : Instance C} → live m j ≡ Some x → x.encloser ≡ None → Lives m j
  lives_inside : {j e : ℕ} {x : Instance C} → live m j ≡ Some x → x.encloser ≡ Some e → Lives m e → Lives m j

-- All instances of a chain are of a kind.
abbrev pub AllOf : (Of : ℕ → Type 0) → List Activation → Type 0
AllOf Of [] = ⊤
AllOf Of (a ∷ rest) = Of a.instance × AllOf Of rest

-- All instances of the chain that a standing keeps are: the main component of a system, or the component of a detached object.
abbrev pub KeptOf : (Of : ℕ → Type 0) → Standing Activation → Type 0
KeptOf Of (NoObject (Some chain)) = AllOf Of chain
KeptOf Of (DetachedObject chain) = AllOf Of chain
KeptOf Of _ = ⊤

-- All instances of all chains that are kept are.
abbrev pub AllKept : (Of : ℕ → Type 0) → Instances → Type 0
AllKept Of m = (j : ℕ) (x : Standing Activation) → slice_get m.standings j ≡ Some x → KeptOf Of x

abbrev pub Other : (instance : ℕ) → ℕ → Type 0
Other instance j = j ≡ instance → ⊥

-- what stands on a chain as an instance itself, and is no evaluation
abbrev pub OwnerOf : (Of : ℕ → Type 0) → Option ℕ → Type 0
OwnerOf Of None = ⊤
OwnerOf Of (Some j) = Of j

-- each instance that stands on a chain as itself
abbrev pub OwnersOf : (Of : ℕ → Type 0) → List Activation → Type 0
OwnersOf Of [] = ⊤
OwnersOf Of (a ∷ rest) = OwnerOf Of (pending.owner a) × OwnersOf Of rest

abbrev pub OwnersKeptOf : (Of : ℕ → Type 0) → Standing Activation → Type 0
OwnersKeptOf Of (NoObject (Some chain)) = OwnersOf Of chain
OwnersKeptOf Of (DetachedObject chain) = OwnersOf Of chain
OwnersKeptOf Of _ = ⊤

abbrev pub OwnersKept : (Of : ℕ → Type 0) → Instances → Type 0
OwnersKept Of m = (j : ℕ) (x : Standing Activation) → slice_get m.standings j ≡ Some x → OwnersKeptOf Of x

abbrev pub SaneOn : Instances → List Activation → Type 0
SaneOn m [] = ⊤
SaneOn m (a ∷ rest) = Lives m a.instance × OwnerOf (λ j. OwnersOf (Other j) rest × OwnersKept (Other j) m) (pending.owner a) × IsWellFormed pending.owner (system_head m) (components (record { chain = a ∷ rest; memory = m }))

abbrev pub Sane : Configuration → Type 0
Sane c = SaneOn c.memory c.chain

-- Each configuration that a run of the source comes to is sane.
abbrev pub StaysSane : Source → Type 0
StaysSane s = (l : Limits) (input : List ℕ) (n : ℕ) (o : World) (c : Configuration) → run s l input n ≡ Going o c → Sane c

-- ---- what else the code of a program may count on

-- The run of the source never comes to where there is no rule.
abbrev pub HasRules : Source → Type 0
HasRules s = (l : Limits) (input : List ℕ) (n : ℕ) (o : World) → run s l input n ≡ Ended o NoRule → ⊥

-- What a reference names is an object or a prefixed block, and is there.
pub record IsObject (s : Source) (m : Instances) (object : ℕ) : Type 0 where
  pub instance : Instance (List Held)
  pub lives : live m object ≡ Some instance
  pub levels : has_levels (text s instance.text) ≡ true

-- What a reference to a main program names is a simulation block, and is there.
pub record IsSimulation (s : Source) (m : Instances) (block : ℕ) : Type 0 where
  pub instance : Instance (List Held)
  pub lives : live m block ≡ Some instance
  pub simulates : is_simulation_text s instance.text ≡ true

abbrev pub Names : Source → Instances → Val → Type 0
Names s m (pending.Of (Object j)) = IsObject s m j
Names s m (pending.Of (MainOf b)) = IsSimulation s m b
Names s m _ = ⊤

-- of all values in hand
abbrev pub AllName : Source → Instances → List Val → Type 0
AllName s m [] = ⊤
AllName s m (v ∷ vals) = Names s m v × AllName s m vals

-- what is given where a value was asked for: itself, or what lies where it leads
abbrev pub Leads : Source → World → Instances → Val → Type 0
Leads s o m v = (x : Val) → value_given o m v ≡ Some x → Names s m x

abbrev pub AllLead : Source → World → Instances → List Val → Type 0
AllLead s o m [] = ⊤
AllLead s o m (v ∷ vals) = Leads s o m v × AllLead s o m vals

abbrev pub NamesOn : Source → World → Instances → List Activation → Type 0
NamesOn s o m [] = ⊤
NamesOn s o m (a ∷ rest) = AllName s m a.values × AllLead s o m a.values

-- Each reference that the operating instance has in hand names an object, at each moment of a run; and so does what lies where a value in hand
-- leads.
abbrev pub NamesObjects : Source → Type 0
NamesObjects s = (l : Limits) (input : List ℕ) (n : ℕ) (o : World) (c : Configuration) → run s l input n ≡ Going o c → NamesOn s o c.memory c.chain
