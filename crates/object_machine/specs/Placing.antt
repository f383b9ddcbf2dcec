-- What is left where a value is put where an address leads.
use Rattle.std.specs.Prelude.{◌≡◌, ℕ, List, Option}
use Rattle.sim_base.specs.declared.limits.Limits.{Limits}
use Rattle.sim_values.specs.declared.value.TextVal.{TextVal}
use Rattle.sim_code.specs.Events.{having, no_rule}
use Rattle.sim_code.specs.Machine.{Frames, Machine, place_in}
use Rattle.sim_code.specs.Outcome.{Run, World}
use Rattle.sim_code.specs.Rows.{put_back, putting}
use Rattle.frame_arena.specs.declared.slot.Slot.{Slot}
use Rattle.frame_arena.specs.Arrays.{SlotLeadsArray}
use Rattle.frame_arena.specs.Frames.{SlotLeads}
use Rattle.frame_arena.specs.Slots.{value_of}
use Rattle.object_machine.specs.declared.machine.Storage.{Storage}
use Rattle.object_machine.specs.declared.machine.Registers.{Registers}
use Rattle.object_machine.specs.declared.machine.Activation as working
use Rattle.object_machine.specs.declared.placing.Placing.{Placing}
use Rattle.object_machine.specs.declared.placing.Placing.TheVariants as placing
use Rattle.object_machine.specs.Standing.{Outside, Stands}

-- the references in a slot lead to their frame or array
abbrev pub LeadsFrom : Storage → World → Frames → Slot → Type 0
LeadsFrom p o m s = SlotLeads p.frames.items m s × SlotLeadsArray p.arrays.regions o.arrays s

-- the run that goes on behind the place where an address leads, which holds the value then
abbrev pub placed_in : World → Frames → (address value : Slot) → (World → Frames → Run Machine) → Run Machine
placed_in o m address value go = having (place_in (value_of address)) o (λ place. putting place (value_of value) o m go)

-- It goes on in a world and a memory for which the parts stand.
pub record IsPlaced (l : Limits) (p2 : Storage) (r : Registers) (stack : List Slot) (below : List working.Activation) (before : Option (List ℕ)) (now : Outside) (o : World) (m : Frames) (address value : Slot) : Type 0 where
  pub world : World
  pub memory : Frames
  pub is : (go : World → Frames → Run Machine) → placed_in o m address value go ≡ go world memory
  pub stands : Stands l p2 r stack below before now world memory

abbrev pub Places : Placing → Limits → Storage → Registers → List Slot → List working.Activation → (before : Option (List ℕ)) → (now : Outside) → World → Frames → (address value : Slot) → Type 0
Places placing.Done l p2 r stack below before now o m address value = IsPlaced l p2 r stack below before now o m address value
Places placing.NoRule l p2 r stack below before now o m address value = (go : World → Frames → Run Machine) → placed_in o m address value go ≡ no_rule o
Places placing.Memory l p2 r stack below before now o m address value = Unit {0}

-- ---- a text that is put back

-- It goes on in a world and a memory for which the parts stand.
pub record IsPutBack (l : Limits) (p2 : Storage) (r : Registers) (stack : List Slot) (below : List working.Activation) (before : Option (List ℕ)) (now : Outside) (o : World) (m : Frames) (address : Slot) (text : TextVal) : Type 0 where
  pub world : World
  pub memory : Frames
  pub is : (go : World → Frames → Run Machine) → put_back (value_of address) text o m go ≡ go world memory
  pub stands : Stands l p2 r stack below before now world memory

abbrev pub PutsBack : Placing → Limits → Storage → Registers → List Slot → List working.Activation → (before : Option (List ℕ)) → (now : Outside) → World → Frames → (address : Slot) → (text : TextVal) → Type 0
PutsBack placing.Done l p2 r stack below before now o m address text = IsPutBack l p2 r stack below before now o m address text
PutsBack placing.NoRule l p2 r stack below before now o m address text = (go : World → Frames → Run Machine) → put_back (value_of address) text o m go ≡ no_rule o
PutsBack placing.Memory l p2 r stack below before now o m address text = Unit {0}
