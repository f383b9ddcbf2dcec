-- Frames on the operating chain that are kept.
use Rattle.std.specs.Prelude.{◌≡◌, ℕ, List, [], length, Option}
use Rattle.sim_values.specs.declared.value.FrameRef.{FrameRef}
use Rattle.sim_code.specs.Instances.{kept_at}
use Rattle.sim_code.specs.Machine.{Frames, owner}
use Rattle.frame_arena.specs.declared.frames.Frame.{Frame}
use Rattle.frame_arena.specs.declared.slot.Slot.{Slot}
use Rattle.frame_arena.specs.Frames.{Holds, KeptBefore, Leads}
use Rattle.object_machine.specs.declared.keeping.Kept.{Kept}
use Rattle.object_machine.specs.declared.keeping.Kept.TheVariants as result
use Rattle.object_machine.specs.declared.machine.Registers.{Registers}
use Rattle.object_machine.specs.Standing.{activation_at}

-- The regions hold a memory in which more frames are kept: all that led leads, and all stand as components as before.
pub record KeptIn (old new : List Frame) (cells : List Slot) (m m2 : Frames) : Type 0 where
  pub holds : Holds new cells m2
  pub leads : (r : FrameRef) → Leads old m r → Leads new m2 r
  pub chains : KeptBefore old new
  pub count : length m2.instances ≡ length m.instances
  pub standings : m2.standings ≡ m.standings

-- the frame of what is at work here: a thunk has none
abbrev pub owner_at : Registers → Option ℕ
owner_at r = owner (activation_at r [])

-- What is done for one on the chain: its frame is kept or it has none, and those below it may be kept; its frame is none that is given back at
-- its end; or it is not there.
abbrev pub KeepsOne : Kept → (old new : List Frame) → (cells : List Slot) → Frames → Option ℕ → Type 0
KeepsOne result.Further old new cells m owned = (m2 : Frames) × KeptIn old new cells m m2 × ((go : Frames → Frames) → kept_at go m owned ≡ go m2)
KeepsOne result.Ends old new cells m owned = (new ≡ old) × ((go : Frames → Frames) → kept_at go m owned ≡ m)
KeepsOne result.Missing old new cells m owned = Unit {0}
