-- What slots stand for.
use Rattle.std.specs.Prelude.{ℕ, zero, suc, ℤ, pos, negsuc, Bool, true, false, Option, Some, None}
use Rattle.sim_values.specs.Plain.{Plain, Integer, Truth, Character, Text, Object, MainOf, Nothing}
use Rattle.sim_values.specs.Operators.{Reference, ToMain, ToNothing, ToObject}
use Rattle.sim_code.specs.Events.{integer_in, truth_in}
use Rattle.sim_code.specs.Instances.{CellPlace, ElementPlace, ImagePlace}
use Rattle.sim_code.specs.Machine.{Value, Of, Link, Address, ArrayValue, ProcedureValue, ThunkValue}
use Rattle.frame_arena.specs.declared.contents.Referent.{Referent}
use Rattle.frame_arena.specs.declared.contents.Referent.TheVariants as referent
use Rattle.frame_arena.specs.declared.slot.Slot.{Slot}
use Rattle.frame_arena.specs.declared.slot.SlotKind.{SlotKind}
use Rattle.frame_arena.specs.declared.slot.SlotKind.TheVariants as kind

abbrev pub is_on : ℤ → Bool
is_on (pos zero) = false
is_on (pos (suc n)) = true
is_on (negsuc n) = true

abbrev pub count_of : ℤ → ℕ
count_of (pos n) = n
count_of (negsuc n) = 0

-- the value of a slot by its kind; the fields that the kind does not use do not count
abbrev pub value_by : SlotKind → Slot → Value
value_by kind.Empty s = Of Nothing
value_by kind.Integer s = Of (Integer s.«data»)
value_by kind.Truth s = Of (Truth (is_on s.«data»))
value_by kind.Character s = Of (Character s.code)
value_by kind.Text s = Of (Text (record { text_frame = s.name; start = s.more; length = s.class; pos = count_of s.«data» }))
value_by kind.Nothing s = Of Nothing
value_by kind.Object s = Of (Object (count_of s.«data»))
value_by kind.Main s = Of (MainOf (count_of s.«data»))
value_by kind.Link s = Link (count_of s.«data»)
value_by kind.Cell s = Address (CellPlace (count_of s.«data») s.more s.class)
value_by kind.Element s = Address (ElementPlace (count_of s.«data») s.more s.class)
value_by kind.Image s = Address (ImagePlace s.more)
value_by kind.Array s = ArrayValue (count_of s.«data»)
value_by kind.Procedure s = ProcedureValue s.more (count_of s.«data»)
value_by kind.Thunk s = ThunkValue s.more (count_of s.«data»)

abbrev pub value_of : Slot → Value
value_of s = value_by s.kind s

-- the value of a cell, which may have none
abbrev pub unless_empty : SlotKind → Value → Option Value
unless_empty kind.Empty v = None
unless_empty _ v = Some v

abbrev pub cell_value : Slot → Option Value
cell_value s = unless_empty s.kind (value_of s)

-- the slot with no value
abbrev pub empty_slot : Slot
empty_slot = record { kind = kind.Empty; code = 0; name = 0; more = 0; class = 0; «data» = pos 0 }

-- ---- what kind of value it is

abbrev pub integer_of : Value → Option ℤ
integer_of (Of p) = integer_in p
integer_of _ = None

abbrev pub truth_of : Value → Option Bool
truth_of (Of p) = truth_in p
truth_of _ = None

abbrev pub character_in : Plain → Option ℕ
character_in (Character c) = Some c
character_in _ = None

abbrev pub character_of : Value → Option ℕ
character_of (Of p) = character_in p
character_of _ = None

-- what a reference names
abbrev pub reference_in : Plain → Option Reference
reference_in (Object i) = Some (ToObject i)
reference_in (MainOf i) = Some (ToMain i)
reference_in Nothing = Some ToNothing
reference_in _ = None

abbrev pub reference_of : Value → Option Reference
reference_of (Of p) = reference_in p
reference_of _ = None

-- the same, as a slot tells it
abbrev pub reference_to : Referent → Reference
reference_to referent.Nothing = ToNothing
reference_to (referent.Object i) = ToObject i
reference_to (referent.Main i) = ToMain i

abbrev pub referring : Option Referent → Option Reference
referring None = None
referring (Some x) = Some (reference_to x)

abbrev pub is_plain : Value → Bool
is_plain (Of p) = true
is_plain _ = false

-- the plain value of a slot, `none` where it is of another kind
abbrev pub plain_by : SlotKind → Slot → Plain
plain_by kind.Integer s = Integer s.«data»
plain_by kind.Truth s = Truth (is_on s.«data»)
plain_by kind.Character s = Character s.code
plain_by kind.Text s = Text (record { text_frame = s.name; start = s.more; length = s.class; pos = count_of s.«data» })
plain_by kind.Object s = Object (count_of s.«data»)
plain_by kind.Main s = MainOf (count_of s.«data»)
plain_by _ s = Nothing

abbrev pub plain_of : Slot → Plain
plain_of s = plain_by s.kind s
