-- A name of a text that stands apart from the stack.
use Rattle.std.specs.Prelude.{◌≡◌, ℕ, ◌-◌, List, Some}
use Rattle.sim_values.specs.Plain.{Text}
use Rattle.sim_code.specs.Machine.{Of}
use Rattle.frame_arena.specs.declared.slot.Slot.{Slot}
use Rattle.frame_arena.specs.Slots.{character_of, integer_of, value_of}
use Rattle.frame_arena.specs.Stacks.{slot_at}
use Rattle.standard_calls.specs.declared.calls.Call.{Call}
use Rattle.standard_calls.specs.declared.calls.Call.TheVariants as call

-- this slot has the text of the call
abbrev pub IsTextOf : Call → Slot → Type 0
IsTextOf (call.Text f t) s = value_of s ≡ Of (Text t)
IsTextOf (call.TextAndInteger f t i) s = value_of s ≡ Of (Text t)
IsTextOf (call.TextAndCharacter t c) s = value_of s ≡ Of (Text t)
IsTextOf _ s = ⊥

-- the other operand, if there is one, is on top
abbrev pub RestOnTop : Call → (depth : ℕ) → List Slot → Type 0
RestOnTop (call.Text f t) depth slots = Unit {0}
RestOnTop (call.TextAndInteger f t i) depth slots = Some i ≡ integer_of (value_of (slot_at slots (depth - 1)))
RestOnTop (call.TextAndCharacter t c) depth slots = Some c ≡ character_of (value_of (slot_at slots (depth - 1)))
RestOnTop _ depth slots = ⊥
