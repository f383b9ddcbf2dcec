-- Ends of frames.
use Rattle.std.specs.Prelude.{◌≡◌, ℕ, List, slice_get, Option, Some, None}
use Rattle.sim_base.specs.declared.limits.Limits.{Limits}
use Rattle.sim_code.specs.Code.{BlockOf, CodeOf}
use Rattle.sim_code.specs.declared.code.BlockKind.{BlockKind}
use Rattle.sim_code.specs.Events.{having, no_rule, when}
use Rattle.sim_code.specs.Machine.{Frames, Machine, Value, frames_left, same_kind, world_left}
use Rattle.sim_code.specs.Outcome.{ArrayOf, Run, World}
use Rattle.frame_arena.specs.declared.frames.Frame.{Frame}
use Rattle.frame_arena.specs.declared.slot.Slot.{Slot}
use Rattle.frame_arena.specs.Arrays.{RegionOf, SlotLeadsArray}
use Rattle.frame_arena.specs.Frames.{SlotLeads, found_value}
use Rattle.object_machine.specs.declared.machine.Storage.{Storage}
use Rattle.object_machine.specs.declared.machine.Registers.{Registers}
use Rattle.object_machine.specs.declared.leaving.OwnBlock.{OwnBlock}
use Rattle.object_machine.specs.Standing.{AtWork, Outside, Stores}

-- what the end of a frame asks of the block of a number, which is of the wanted kind; or there is no such block
abbrev pub IsOwn : Option OwnBlock → CodeOf → BlockKind → (block : ℕ) → Type 0
IsOwn None code kind k = (o : World) (go : BlockOf → Run Machine) → having (slice_get code.blocks k) o (λ b. when (same_kind b.kind kind) o (go b)) ≡ no_rule o
IsOwn (Some own) code kind k =
    (b : BlockOf) × (b.cells ≡ own.cells) × (b.result_type ≡ own.result_type) × ((o : World) (go : BlockOf → Run Machine) → having (slice_get code.blocks k) o (λ b. when (same_kind b.kind kind) o (go b)) ≡ go b)

-- what a procedure gives: a value or none; or its result has no value yet
abbrev pub handed : Option (Option Slot) → Option (Option Value)
handed None = None
handed (Some s) = Some (found_value s)

-- the references in a value, if there is one, lead to their frame or array
abbrev pub ValueLeads : List Frame → Frames → List RegionOf → List ArrayOf → Option Slot → Type 0
ValueLeads frames m regions arrays None = Unit {0}
ValueLeads frames m regions arrays (Some s) = SlotLeads frames m s × SlotLeadsArray regions arrays s

-- A frame has ended: the parts stand for the world and the memory that are left, and all that was at work is so still.
pub record Ends (l : Limits) (p p2 : Storage) (b : BlockOf) (frame : ℕ) (before : Option (List ℕ)) (now : Outside) (o : World) (m : Frames) : Type 0 where
  pub stores : Stores l p2 before now (world_left b frame o m) (frames_left frame m)
  pub others : (r : Registers) (stack : List Slot) → AtWork p o m r stack → AtWork p2 (world_left b frame o m) (frames_left frame m) r stack
