-- Operands of standard names, which may be addresses of texts.
use Rattle.std.specs.Prelude.{◌≡◌, ℕ, zero, suc, ◌-◌, ◌<◌, ◌≤◌, ◌⊎◌, Bool, true, false, List, length, Option, Some, None}
use Rattle.sim_values.specs.declared.standard.Standard.{Standard}
use Rattle.sim_values.specs.Plain.{Plain, Text}
use Rattle.sim_values.specs.declared.value.TextVal.{TextVal}
use Rattle.sim_values.specs.Standard.{operands_of, row_of}
use Rattle.sim_code.specs.Events.{only_text}
use Rattle.sim_code.specs.Machine.{Frames, Value, operand, plain, plain_in}
use Rattle.sim_code.specs.Outcome.{World}
use Rattle.frame_arena.specs.declared.slot.Slot.{Slot}
use Rattle.frame_arena.specs.Arrays.{HoldsArrays, SlotLeadsArray}
use Rattle.frame_arena.specs.Frames.{Holds, SlotLeads}
use Rattle.frame_arena.specs.Slots.{empty_slot, value_of}
use Rattle.frame_arena.specs.Stacks.{slot_at}
use Rattle.object_machine.specs.declared.machine.Storage.{Storage}
use Rattle.object_machine.specs.Standing.{ports_in, ports_of}

-- the text of a value, if it is one
abbrev pub text_there : Option Value → Option Plain
text_there v = only_text (plain_in v)

-- what was read, if anything was
abbrev pub read_as : Option Slot → Option Plain
read_as None = None
read_as (Some s) = plain (value_of s)

-- it is no text
abbrev pub IsNoTextIn : Option Plain → Type 0
IsNoTextIn q = (t : TextVal) → q ≡ Some (Text t) → ⊥

-- a fact about what an operand is, in whatever world and memory these parts stand
abbrev pub Wherever : Storage → Slot → (Option Plain → Type 0) → Type 0
Wherever p s P =
    (o : World) (m : Frames) (source : List ℕ) → Holds p.frames.items p.cells.items m → HoldsArrays p.arrays o.arrays → ports_in o.store ≡ ports_of p.image source → SlotLeads p.frames.items m s → SlotLeadsArray p.arrays.regions o.arrays s →
    P (operand o m (value_of s))

-- the first of as many last values
abbrev pub first_slot : (count depth : ℕ) → List Slot → Slot
first_slot zero depth stack = empty_slot
first_slot (suc n) depth stack = slot_at stack (depth - suc n)

-- each operand of a stack is what stands in its place in another one, and below them both are the same
pub record AllRead (o : World) (m : Frames) (first end : ℕ) (old new : List Slot) : Type 0 where
  pub read : (at : ℕ) → first ≤ at → at < end → operand o m (value_of (slot_at old at)) ≡ plain (value_of (slot_at new at))
  pub below : (at : ℕ) → at < first → slot_at new at ≡ slot_at old at

-- an operand is nothing
pub record OneUnread (o : World) (m : Frames) (first end : ℕ) (old : List Slot) : Type 0 where
  pub place : ℕ
  pub begins : first ≤ place
  pub ends : place < end
  pub nothing : operand o m (value_of (slot_at old place)) ≡ None

-- The operands of a name are what stands in their place, and this is the first; or there are too few, or one is nothing.
abbrev pub IsReady : Option Slot → Standard → World → Frames → (depth : ℕ) → (old new : List Slot) → Type 0
IsReady (Some first) name o m depth old new =
    (length (operands_of (row_of name).function) ≤ depth) × (first ≡ first_slot (length (operands_of (row_of name).function)) depth old) × AllRead o m (depth - length (operands_of (row_of name).function)) depth old new
IsReady None name o m depth old new =
    (depth < length (operands_of (row_of name).function)) ⊎ ((length (operands_of (row_of name).function) ≤ depth) × OneUnread o m (depth - length (operands_of (row_of name).function)) depth old)

abbrev pub OperandsRead : Bool → World → Frames → (first end : ℕ) → (old new : List Slot) → Type 0
OperandsRead true o m first end old new = AllRead o m first end old new
OperandsRead false o m first end old new = OneUnread o m first end old
