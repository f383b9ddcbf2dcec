-- The rows of the procedures of links and heads.
use Rattle.std.specs.Prelude.{◌≡◌, ℕ, Bool, pos, List, ◌∷◌, Option, Some, None, Result, Ok, Err}
use Rattle.simset.specs.Instances.{Memberships, number_of}
use Rattle.simset.specs.Sets.{Linkage}
use Rattle.sim_values.specs.Plain.{Integer, Plain, Truth}
use Rattle.sim_code.specs.Events.{having, no_rule, pop_plain}
use Rattle.sim_code.specs.Machine.{Machine, Of, Value, plain}
use Rattle.sim_code.specs.Outcome.{Run, World}
use Rattle.sim_code.specs.Sets.{SetEffect, becomes, gives, linkage_given, linkage_named, object_at, pop_given}
use Rattle.frame_arena.specs.declared.slot.Slot.{Slot}
use Rattle.frame_arena.specs.Slots.{value_of}
use Rattle.frame_arena.specs.Stacks.{values_of}
use Rattle.standard_calls.specs.declared.came.Missing.{Missing}
use Rattle.standard_calls.specs.declared.came.Missing.TheVariants as missing
use Rattle.object_machine.specs.declared.machine.Flow.{Flow}
use Rattle.object_machine.specs.declared.machine.Flow.TheVariants as flow
use Rattle.object_machine.specs.declared.sets.Came.{Came}
use Rattle.object_machine.specs.declared.sets.Came.TheVariants as came
use Rattle.object_machine.specs.declared.sets.Named.{Named}
use Rattle.object_machine.specs.declared.sets.Named.TheVariants as named
use Rattle.object_machine.specs.declared.sets.Owner.{Owner}
use Rattle.object_machine.specs.declared.sets.Parameter.{Parameter}

-- ---- operands

-- the linkage that a value names, if it is a plain one; and the one that it gives as a parameter, or none
abbrev pub owner_in : Memberships → Option Plain → Option ℕ
owner_in o None = None
owner_in o (Some p) = linkage_named o p

abbrev pub parameter_in : Memberships → Option Plain → Option (Option ℕ)
parameter_in o None = None
parameter_in o (Some p) = linkage_given o p

-- what a value names
abbrev pub Names : Named → Memberships → Option Plain → Type 0
Names (named.Linkage x) o p = (owner_in o p ≡ Some x.0) × (parameter_in o p ≡ Some (Some x.0))
Names named.IsNone o p = (owner_in o p ≡ None) × (parameter_in o p ≡ Some None)
Names named.Other o p = (owner_in o p ≡ None) × (parameter_in o p ≡ None)
Names named.Memory o p = Unit {0}

-- the parameter of a procedure, if it has one, and the values below it; or there is no rule
abbrev pub TakesParameter : Result Parameter Missing → (takes : Bool) → World → (depth : ℕ) → List Slot → Type 0
TakesParameter (Ok q) takes o depth stack = (go : Option ℕ → List Value → Run Machine) → pop_given plain takes (values_of depth stack) o go ≡ go (number_of q.linkage) (values_of q.under stack)
TakesParameter (Err missing.NoRule) takes o depth stack = (go : Option ℕ → List Value → Run Machine) → pop_given plain takes (values_of depth stack) o go ≡ no_rule o
TakesParameter (Err missing.Memory) takes o depth stack = Unit {0}

-- the linkage of the object or main program on top
abbrev pub taking_owner : World → List Value → (ℕ → List Value → Run Machine) → Run Machine
taking_owner o stack go = pop_plain plain stack o (λ p rest. having (linkage_named o.members p) o (λ x. go x rest))

abbrev pub TakesOwner : Result Owner Missing → World → (depth : ℕ) → List Slot → Type 0
TakesOwner (Ok q) o depth stack = (go : ℕ → List Value → Run Machine) → taking_owner o (values_of depth stack) go ≡ go q.linkage.0 (values_of q.under stack)
TakesOwner (Err missing.NoRule) o depth stack = (go : ℕ → List Value → Run Machine) → taking_owner o (values_of depth stack) go ≡ no_rule o
TakesOwner (Err missing.Memory) o depth stack = Unit {0}

-- ---- effects

-- what a procedure does, which leaves these sets
abbrev pub CameAs : Came → (naming : ℕ → Plain) → Option SetEffect → Memberships → (sets : List Linkage) → Type 0
CameAs (came.Linkage q) naming e o sets = (e ≡ gives o (object_at naming o (number_of q))) × (sets ≡ o.sets)
CameAs (came.Truth b) naming e o sets = (e ≡ gives o (Truth b)) × (sets ≡ o.sets)
CameAs (came.Integer n) naming e o sets = (e ≡ gives o (Integer (pos n))) × (sets ≡ o.sets)
CameAs came.Changed naming e o sets = e ≡ becomes o sets
CameAs came.NoRule naming e o sets = e ≡ None
CameAs came.Memory naming e o sets = Unit {0}

-- it came to something
abbrev pub HasEffect : Came → Type 0
HasEffect came.NoRule = ⊥
HasEffect came.Memory = ⊥
HasEffect _ = Unit {0}

-- the value of a procedure, if it has one
abbrev pub value_by : Came → (naming : ℕ → Plain) → Memberships → Option Plain
value_by (came.Linkage q) naming o = Some (object_at naming o (number_of q))
value_by (came.Truth b) naming o = Some (Truth b)
value_by (came.Integer n) naming o = Some (Integer (pos n))
value_by _ naming o = None

-- that value as a slot; or the procedure has no rule
abbrev pub IsSlot : Option Slot → Option Plain → Type 0
IsSlot None p = p ≡ None
IsSlot (Some s) p = (q : Plain) × (p ≡ Some q) × (value_of s ≡ Of q)

abbrev pub GivesSlot : Result (Option Slot) Missing → Came → (naming : ℕ → Plain) → Memberships → Type 0
GivesSlot (Ok value) c naming o = HasEffect c × IsSlot value (value_by c naming o)
GivesSlot (Err missing.NoRule) c naming o = c ≡ came.NoRule
GivesSlot (Err missing.Memory) c naming o = Unit {0}

-- the values with one more, if there is one
abbrev pub with_slot : Option Slot → List Value → List Value
with_slot None values = values
with_slot (Some s) values = value_of s ∷ values

-- ---- how a step ends that reads and writes nothing

abbrev pub flow_by : Missing → Flow
flow_by missing.NoRule = flow.NoRule
flow_by missing.Memory = flow.Memory

abbrev pub IsQuiet : Flow → Type 0
IsQuiet flow.WriteFault = ⊥
IsQuiet flow.InputFault = ⊥
IsQuiet _ = Unit {0}
