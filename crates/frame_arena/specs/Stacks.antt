-- What the window on the slots of a frame stands for, and how a row goes on with what was found there.
use Rattle.std.specs.Prelude.{ℕ, ◌+◌, zero, suc, ℤ, Bool, List, [], ◌∷◌, map, take, reverse, get_or, Option, Some, None}
use Rattle.sim_code.specs.Outcome.{World, Run}
use Rattle.sim_code.specs.Events.{no_rule}
use Rattle.sim_code.specs.Machine.{Machine, Value}
use Rattle.frame_arena.specs.declared.slot.Slot.{Slot}
use Rattle.frame_arena.specs.Slots.{value_of, empty_slot}

-- the values in hand, the last one first
abbrev pub values_of : (depth : ℕ) → List Slot → List Value
values_of depth stack = map value_of (reverse (take depth stack))

abbrev pub slot_at : List Slot → ℕ → Slot
slot_at stack at = get_or stack at empty_slot

-- goes on with the values, of which the number is given, or there is no rule
abbrev pub with_values : Option ℕ → List Slot → World → (List Value → Run Machine) → Run Machine
with_values None stack o go = no_rule o
with_values (Some depth) stack o go = go (values_of depth stack)

-- the value at a place, and those before it
abbrev pub with_top : Option ℕ → List Slot → World → (Value → List Value → Run Machine) → Run Machine
with_top None stack o go = no_rule o
with_top (Some at) stack o go = go (value_of (slot_at stack at)) (values_of at stack)

abbrev pub with_truth : Option Bool → List Value → World → (Bool → List Value → Run Machine) → Run Machine
with_truth None rest o go = no_rule o
with_truth (Some b) rest o go = go b rest

-- as many integers from a place on
abbrev pub integers_from : List Slot → (at count : ℕ) → List ℤ
integers_from stack at zero = []
integers_from stack at (suc n) = (slot_at stack at).«data» ∷ integers_from stack (suc at) n

-- as many integers from a place on, and the values before it
abbrev pub with_integers : Option ℕ → (count : ℕ) → List Slot → World → (List ℤ → List Value → Run Machine) → Run Machine
with_integers None count stack o go = no_rule o
with_integers (Some at) count stack o go = go (integers_from stack at count) (values_of at stack)

-- the integers at a place and behind it, and the values before it
abbrev pub with_two : Option ℕ → List Slot → World → (ℤ → ℤ → List Value → Run Machine) → Run Machine
with_two None stack o go = no_rule o
with_two (Some at) stack o go = go (slot_at stack at).«data» (slot_at stack (at + 1)).«data» (values_of at stack)

-- as many values from a place on
abbrev pub values_from : List Slot → (at count : ℕ) → List Value
values_from stack at zero = []
values_from stack at (suc n) = value_of (slot_at stack at) ∷ values_from stack (suc at) n

-- as many values from a place on, in the order in which they came, and the values before it
abbrev pub with_many : Option ℕ → (count : ℕ) → List Slot → World → (List Value → List Value → Run Machine) → Run Machine
with_many None count stack o go = no_rule o
with_many (Some at) count stack o go = go (values_from stack at count) (values_of at stack)
