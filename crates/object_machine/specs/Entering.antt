-- Blocks that are entered, and what an entry costs.
use Rattle.std.specs.Prelude.{◌≡◌, ℕ, ◌+◌, ℤ, false, List, [], length, slice_get, Option, Some, None}
use Rattle.sim_base.specs.declared.limits.Limits.{Limits}
use Rattle.sim_code.specs.Code.{BlockOf, CodeOf}
use Rattle.sim_code.specs.declared.code.BlockKind.{BlockKind}
use Rattle.sim_code.specs.declared.instr.Lined.{Lined}
use Rattle.sim_code.specs.Events.{entering, no_rule}
use Rattle.sim_values.specs.declared.value.FrameRef.{FrameRef}
use Rattle.sim_code.specs.Instances.{entered}
use Rattle.sim_code.specs.declared.stage.Stage.TheVariants as stage
use Rattle.sim_code.specs.Machine.{Frames, Machine, block_at, first_cells, passes}
use Rattle.sim_code.specs.Outcome.{Run, World}
use Rattle.frame_arena.specs.declared.slot.Slot.{Slot}
use Rattle.frame_arena.specs.Frames.{number_in, stands_first}
use Rattle.object_machine.specs.declared.machine.Storage.{Storage}
use Rattle.object_machine.specs.declared.machine.Registers.{Registers}
use Rattle.object_machine.specs.declared.machine.Activation as working
use Rattle.object_machine.specs.declared.machine.Flow.{Flow}
use Rattle.object_machine.specs.declared.machine.Flow.TheVariants as flow
use Rattle.object_machine.specs.declared.openings.Beginning.{Beginning}
use Rattle.object_machine.specs.Standing.{AtWork, Leaves, Outside, Stores, activation_of}

-- the number of a block that is there, of the wanted kind, and whose entry is an instruction; or there is no such block
abbrev pub IsBlock : Option ℕ → CodeOf → BlockKind → ℤ → Type 0
IsBlock None code kind z = (o : World) (go : ℕ → BlockOf → Lined → Run Machine) → block_at code kind z o go ≡ no_rule o
IsBlock (Some k) code kind z = (b : BlockOf) → slice_get code.blocks k ≡ Some b → (o : World) (go : ℕ → BlockOf → Run Machine) → block_at code kind z o (λ k b x. go k b) ≡ go k b

-- the world after a tick and so many words
abbrev pub paid : World → ℕ → World
paid o wanted = record o { ticks = o.ticks + 1; words = o.words + wanted }

-- what a tick and so many words leave
unfoldable pub Pays : Flow → Limits → (line wanted : ℕ) → Storage → (before : Option (List ℕ)) (now : Outside) → World → Frames → Type 0
Pays flow.On l line wanted p before now o m = ((go : World → Run Machine) → entering l line wanted o go ≡ go (paid o wanted)) × Stores l p before now (paid o wanted) m
Pays flow.Jumped l line wanted p before now o m = ⊥
Pays f l line wanted p before now o m =
    (r : Registers) (stack : List Slot) (below : List working.Activation) (go : World → Run Machine) → Leaves f l line p r stack below before now (entering l line wanted o go)

-- ---- a new frame

-- how the frame of a sub-block or a procedure begins
abbrev pub as_frame : BlockOf → Beginning
as_frame b = record { start = b.entry; stage = stage.NoStage; object = false }

-- the memory with a new frame of a block, which has its first values
abbrev pub opened : Frames → (block : ℕ) → BlockOf → Beginning → (parent : Option FrameRef) → Frames
opened m k b g parent =
    entered m (record { text = k; level = b.level; encloser = number_in parent; cells = first_cells b; passing = passes b.kind b.class_free; kept = false; given_back = false }) (stands_first g.object)

-- A new frame stands in the parts, is at work, and all that was at work is so still.
pub record Opens (l : Limits) (p p2 : Storage) (k : ℕ) (b : BlockOf) (g : Beginning) (parent : Option FrameRef) (t : working.Activation) (before : Option (List ℕ)) (now : Outside) (o : World) (m : Frames) : Type 0 where
  pub stores : Stores l p2 before now o (opened m k b g parent)
  pub top : activation_of t ≡ record { thunk = None; home = length m.instances; pc = g.start; stack = []; room = b.room; stage = g.stage }
  pub works : AtWork p2 o (opened m k b g parent) t.registers t.stack.items
  pub others : (r : Registers) (stack : List Slot) → AtWork p o m r stack → AtWork p2 o (opened m k b g parent) r stack
