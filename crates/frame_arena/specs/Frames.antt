-- What frames in regions of one list of cells stand for. Regions are used again; instances are numbered in order of entry, and no
-- number is used again, so that what was given back leaves no trace but in the machine's memory.
use Rattle.std.specs.Prelude.{◌≡◌, ℕ, zero, suc, ◌+◌, ◌<◌, ◌≤◌, ◌⊎◌, Bool, true, false, List, [], ◌∷◌, length, get_or, slice_get, Option, Some, None}
use Rattle.sim_values.specs.declared.value.FrameRef.{FrameRef}
use Rattle.sim_chains.specs.Components.{AttachedObject, DetachedObject, NoObject, ResumedObject, Standing, TerminatedObject}
use Rattle.sim_code.specs.Instances.{Instance, is_live, no_instances}
use Rattle.sim_code.specs.Machine.{Activation, Cells, Frames, Value}
use Rattle.frame_arena.specs.declared.slot.Slot.{Slot}
use Rattle.frame_arena.specs.declared.frames.Component.{Component}
use Rattle.frame_arena.specs.declared.frames.Component.TheVariants as component
use Rattle.frame_arena.specs.declared.frames.Frame.{Frame}
use Rattle.frame_arena.specs.declared.frames.Span.{Span}
use Rattle.frame_arena.specs.declared.slot.SlotKind.{SlotKind}
use Rattle.frame_arena.specs.declared.slot.SlotKind.TheVariants as kind
use Rattle.frame_arena.specs.Slots.{value_of, cell_value, count_of}
use Rattle.frame_arena.specs.Stacks.{slot_at}

abbrev pub no_frame : Frame
no_frame = record { live = false; number = 0; block = 0; level = 0; parent = None; passing = false; kept = false; component = component.NoObject; base = 0; cells = 0; floor = 0; room = 0; next = 0 }

abbrev pub frame_at : List Frame → ℕ → Frame
frame_at frames place = get_or frames place no_frame

abbrev pub number_in : Option FrameRef → Option ℕ
number_in None = None
number_in (Some f) = Some f.stamp

-- as many cells from a place on
abbrev pub cells_at : List Slot → (base count : ℕ) → Cells
cells_at cells base zero = []
cells_at cells base (suc n) = cell_value (slot_at cells base) ∷ cells_at cells (suc base) n

-- the instance whose frame it is
abbrev pub instance_of : List Slot → Frame → Instance Cells
instance_of cells f =
    record { text = f.block; level = f.level; encloser = number_in f.parent; cells = cells_at cells f.base f.cells; passing = f.passing; kept = f.kept; given_back = false }

-- the frame of a number lies at a place
abbrev pub Has : List Frame → (place number : ℕ) → Type 0
Has frames place number = (place < length frames) × ((frame_at frames place).live ≡ true) × ((frame_at frames place).number ≡ number)

-- the number of the frame in a region
abbrev pub number_there : List Frame → Option ℕ → Option ℕ
number_there frames None = None
number_there frames (Some place) = Some (frame_at frames place).number

-- the number, level and cells are those of the frame in its region
pub record IsSpan (frames : List Frame) (s : Span) : Type 0 where
  pub has : Has frames s.region s.number
  pub level : (frame_at frames s.region).level ≡ s.level
  pub base : (frame_at frames s.region).base ≡ s.base
  pub cells : (frame_at frames s.region).cells ≡ s.cells

abbrev pub span_number : Option Span → Option ℕ
span_number None = None
span_number (Some s) = Some s.number

-- a reference to a frame that was entered says where it lies, as long as it is not given back
abbrev pub Leads : List Frame → Frames → FrameRef → Type 0
Leads frames m f = (f.stamp < length m.instances) × (is_live m f.stamp ≡ true → Has frames f.frame f.stamp)

abbrev pub names_frame : SlotKind → Bool
names_frame kind.Object = true
names_frame kind.Main = true
names_frame kind.Link = true
names_frame kind.Cell = true
names_frame kind.Procedure = true
names_frame kind.Thunk = true
names_frame _ = false

abbrev pub frame_reference : Slot → FrameRef
frame_reference s = record { frame = s.name; stamp = count_of s.«data» }

-- the reference in a slot, if it has one, leads to its frame
abbrev pub SlotLeads : List Frame → Frames → Slot → Type 0
SlotLeads frames m s = names_frame s.kind ≡ true → Leads frames m (frame_reference s)

-- each slot of a list leads
abbrev pub AllLead : List Frame → Frames → List Slot → Type 0
AllLead frames m slots = (at : ℕ) → SlotLeads frames m (slot_at slots at)

-- regions that have no cell in common
abbrev pub Apart : Frame → Frame → Type 0
Apart f g = (f.base + f.cells ≤ g.base) ⊎ (g.base + g.cells ≤ f.base)

-- how a frame stands among the components; where it keeps a chain, that is some chain
abbrev pub StandsAs : Component → Option (Standing Activation) → Type 0
StandsAs component.NoObject s = s ≡ Some (NoObject None)
StandsAs component.Waiting s = (main : List Activation) × (s ≡ Some (NoObject (Some main)))
StandsAs component.Attached s = s ≡ Some AttachedObject
StandsAs component.Detached s = (chain : List Activation) × (s ≡ Some (DetachedObject chain))
StandsAs component.Resumed s = s ≡ Some ResumedObject
StandsAs component.Terminated s = s ≡ Some TerminatedObject

-- how a frame stands at its entry, which is that of an object or is not
abbrev pub stands_first : (object : Bool) → Standing Activation
stands_first true = AttachedObject
stands_first false = NoObject None

-- whether a frame that stands so is that of an object
abbrev pub is_object_as : Component → Bool
is_object_as component.NoObject = false
is_object_as component.Waiting = false
is_object_as _ = true

-- whether a frame that stands so keeps a chain
abbrev pub keeps_chain : Component → Bool
keeps_chain component.Waiting = true
keeps_chain component.Detached = true
keeps_chain _ = false

-- how it stands with that chain
abbrev pub keeping : Component → List Activation → Standing Activation
keeping component.Detached chain = DetachedObject chain
keeping _ chain = NoObject (Some chain)

-- the frame of a number lies at a place, and stands as one that keeps a chain
abbrev pub IsKeeping : List Frame → (place number : ℕ) → Component → Type 0
IsKeeping frames place number c = Has frames place number × ((frame_at frames place).component ≡ c) × (keeps_chain c ≡ true)

-- no frame keeps a chain that did not stand so before
abbrev pub KeptBefore : (old new : List Frame) → Type 0
KeptBefore old new = (place number : ℕ) (c : Component) → IsKeeping new place number c → IsKeeping old place number c

-- The frames in the regions are the instances that are not given back, one for one.
pub record Holds (frames : List Frame) (cells : List Slot) (m : Frames) : Type 0 where
  pub known : (place number : ℕ) → Has frames place number → slice_get m.instances number ≡ Some (instance_of cells (frame_at frames place))
  pub found : (number : ℕ) → is_live m number ≡ true → (place : ℕ) × Has frames place number
  pub standings : (place number : ℕ) → Has frames place number → StandsAs (frame_at frames place).component (slice_get m.standings number)
  pub counted : length m.standings ≡ length m.instances
  pub single : (place other number : ℕ) → Has frames place number → Has frames other number → place ≡ other
  pub parents : (place number : ℕ) → Has frames place number → (r : FrameRef) → (frame_at frames place).parent ≡ Some r → Leads frames m r
  pub links : (at : ℕ) → SlotLeads frames m (slot_at cells at)
  pub within : (place : ℕ) → place < length frames → (frame_at frames place).base + (frame_at frames place).cells ≤ length cells
  pub apart : (place other : ℕ) → place < length frames → other < length frames → (place ≡ other → ⊥) → Apart (frame_at frames place) (frame_at frames other)

-- the value of a cell that was found
abbrev pub found_value : Option Slot → Option Value
found_value None = None
found_value (Some s) = Some (value_of s)

-- after a write into a cell: whether there is such a cell, and then what the regions hold
abbrev pub HoldsAfter : Bool → List Frame → List Slot → Option Frames → Type 0
HoldsAfter written frames cells None = written ≡ false
HoldsAfter written frames cells (Some m) = (written ≡ true) × Holds frames cells m

-- a reference leads after a write into a cell, where there is such a cell
abbrev pub LeadsAfter : List Frame → Option Frames → FrameRef → Type 0
LeadsAfter frames None r = Unit {0}
LeadsAfter frames (Some m) r = Leads frames m r

-- the machine's memory before its first step
abbrev pub empty_memory : Frames
empty_memory = no_instances.memory

-- a region with as many cells and as much room for operands
abbrev pub HasShape : Frame → (cells room : ℕ) → Type 0
HasShape f cells room = (f.cells ≡ cells) × (f.room ≡ room)

-- where the operand stack of each region begins, and its room
abbrev pub rooms : List Frame → List (ℕ × ℕ)
rooms [] = []
rooms (f ∷ fs) = (f.floor, f.room) ∷ rooms fs

-- operand stacks that lie one behind the other, up to an end
abbrev pub Laid : (from : ℕ) → List (ℕ × ℕ) → (end : ℕ) → Type 0
Laid from [] end = from ≡ end
Laid from (r ∷ rs) end = (r.0 ≡ from) × Laid (from + r.1) rs end
