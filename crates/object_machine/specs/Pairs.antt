-- Two texts on an operand stack.
use Rattle.std.specs.Prelude.{◌≡◌, ℕ, ◌-◌, ◌<◌, ◌≤◌, ◌⊎◌, Bool, List, Option, Some, None, Ok}
use Rattle.sim_values.specs.declared.operators.Comparison.{Comparison}
use Rattle.sim_values.specs.declared.operators.Dyadic.{Dyadic}
use Rattle.sim_values.specs.declared.operators.Dyadic.TheVariants as dyadic
use Rattle.sim_values.specs.declared.value.TextVal.{TextVal}
use Rattle.sim_values.specs.Operators.{Answer}
use Rattle.sim_values.specs.Plain.{Plain, Text, Truth}
use Rattle.sim_values.specs.Texts.{Frame, IsText}
use Rattle.sim_code.specs.Events.{text_val}
use Rattle.sim_code.specs.Machine.{Of, Value, plain}
use Rattle.frame_arena.specs.declared.slot.Slot.{Slot}
use Rattle.frame_arena.specs.Slots.{value_of}
use Rattle.frame_arena.specs.Stacks.{slot_at}
use Rattle.object_machine.specs.declared.pairs.ReadText.{ReadText}
use Rattle.object_machine.specs.declared.pairs.ReadText.TheVariants as one
use Rattle.object_machine.specs.declared.pairs.ReadTexts.{ReadTexts}
use Rattle.object_machine.specs.declared.pairs.ReadTexts.TheVariants as two

-- the text of a plain value, if it is one
abbrev pub text_of_plain : Option Plain → Option TextVal
text_of_plain None = None
text_of_plain (Some p) = text_val p

abbrev pub IsNoText : Value → Type 0
IsNoText v = text_of_plain (plain v) ≡ None

-- a value is a text of these frames
abbrev pub HasText : List Frame → Slot → TextVal → Type 0
HasText frames s t = (value_of s ≡ Of (Text t)) × IsText frames t

abbrev pub ReadsText : ReadText → List Frame → Slot → Type 0
ReadsText (one.Text t) frames s = HasText frames s t
ReadsText one.Other frames s = IsNoText (value_of s)
ReadsText one.Stale frames s = Unit {0}

-- the two last values are texts; or there are fewer, or the upper one is no text, or it is one and the lower one is none
abbrev pub ReadsTexts : ReadTexts → List Frame → (depth : ℕ) → List Slot → Type 0
ReadsTexts (two.Texts left right) frames depth stack = (2 ≤ depth) × HasText frames (slot_at stack (depth - 1)) right × HasText frames (slot_at stack (depth - 2)) left
ReadsTexts two.Other frames depth stack =
    (depth < 2) ⊎ ((2 ≤ depth) × (IsNoText (value_of (slot_at stack (depth - 1))) ⊎ ((t : TextVal) × HasText frames (slot_at stack (depth - 1)) t × IsNoText (value_of (slot_at stack (depth - 2))))))
ReadsTexts two.Stale frames depth stack = Unit {0}

-- the relation of texts, or that they are the same
abbrev pub relating_by : Option Comparison → Dyadic
relating_by None = dyadic.SameText
relating_by (Some r) = dyadic.CompareTexts r

-- a truth value as an answer
abbrev pub an_answer : Bool → Answer
an_answer b = Some (Ok (Truth b))
