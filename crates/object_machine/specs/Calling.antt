-- Calls of procedures.
use Rattle.std.specs.Prelude.{◌≡◌, ℕ, suc, ℤ, false, List, [], ◌∷◌, length, Option, Some, None}
use Rattle.sim_base.specs.declared.limits.Limits.{Limits}
use Rattle.sim_values.specs.declared.value.FrameRef.{FrameRef}
use Rattle.sim_code.specs.Code.{BlockOf}
use Rattle.sim_code.specs.Instances.{entered, is_live}
use Rattle.sim_code.specs.Events.{having, no_rule, pop_many, popping, when}
use Rattle.sim_code.specs.Machine.{Cells, Frames, Machine, Value, cell_set, frame_in, index, passes}
use Rattle.sim_code.specs.Outcome.{Run, World}
use Rattle.frame_arena.specs.declared.frames.Frame.{Frame}
use Rattle.frame_arena.specs.declared.slot.Slot.{Slot}
use Rattle.frame_arena.specs.Frames.{Holds, Leads, number_in, stands_first}
use Rattle.frame_arena.specs.Slots.{value_of}
use Rattle.frame_arena.specs.Stacks.{values_from, values_of}
use Rattle.object_machine.specs.declared.calling.Actuals.{Actuals}
use Rattle.object_machine.specs.declared.openings.Beginning.{Beginning}
use Rattle.object_machine.specs.declared.machine.Storage.{Storage}
use Rattle.object_machine.specs.declared.machine.Registers.{Registers}
use Rattle.object_machine.specs.declared.machine.Activation as working
use Rattle.object_machine.specs.Standing.{AtWork, Outside, Stores, activation_of}

-- the memory with a new frame of a block, which has these cells
abbrev pub opened_with : Frames → (block : ℕ) → BlockOf → Beginning → (parent : Option FrameRef) → Cells → Frames
opened_with m k b g parent cells =
    entered m (record { text = k; level = b.level; encloser = number_in parent; cells = cells; passing = passes b.kind b.class_free; kept = false; given_back = false }) (stands_first g.object)

-- A new frame with these cells stands in the parts, is at work, and all that was at work is so still.
pub record OpensWith (l : Limits) (p p2 : Storage) (k : ℕ) (b : BlockOf) (g : Beginning) (parent : Option FrameRef) (cells : Cells) (t : working.Activation) (before : Option (List ℕ)) (now : Outside) (o o2 : World) (m : Frames) : Type 0 where
  pub stores : Stores l p2 before now o2 (opened_with m k b g parent cells)
  pub top : activation_of t ≡ record { thunk = None; home = length m.instances; pc = g.start; stack = []; room = b.room; stage = g.stage }
  pub works : AtWork p2 o2 (opened_with m k b g parent cells) t.registers t.stack.items
  pub others : (r : Registers) (stack : List Slot) → AtWork p o m r stack → AtWork p2 o2 (opened_with m k b g parent cells) r stack

-- the memory with values in the cells of a frame from a place on; none where there are too few cells
abbrev pub then_set : Option Frames → (Frames → Option Frames) → Option Frames
then_set None go = None
then_set (Some m) go = go m

abbrev pub cells_set_from : Frames → (frame cell : ℕ) → List Value → Option Frames
cells_set_from m j c [] = Some m
cells_set_from m j c (v ∷ vs) = then_set (cell_set m j c v) (λ m. cells_set_from m j (suc c) vs)

-- Values were put into the cells of a frame: the cells hold that, and every reference that led before leads after.
pub record Filled (frames : List Frame) (cells : List Slot) (m : Frames) (result : Option Frames) : Type 0 where
  pub memory : Frames
  pub is : result ≡ Some memory
  pub holds : Holds frames cells memory
  pub leads : (r : FrameRef) → Leads frames m r → Leads frames memory r

-- the frame that a slot names, where that was not given back; or there is none
abbrev pub IsParent : Option FrameRef → List Frame → Frames → Slot → Type 0
IsParent None frames m s = (o : World) (go : ℕ → Run Machine) → having (frame_in (value_of s)) o (λ parent. when (is_live m parent) o (go parent)) ≡ no_rule o
IsParent (Some f) frames m s = Leads frames m f × ((o : World) (go : ℕ → Run Machine) → having (frame_in (value_of s)) o (λ parent. when (is_live m parent) o (go parent)) ≡ go f.stamp)

-- cells that were filled
pub record Fills (q : Option Cells) : Type 0 where
  pub cells : Cells
  pub is : q ≡ Some cells

-- ---- what a call finds on the operand stack

-- as many values, and below them the frame of the procedure's encloser
abbrev pub called : Frames → ℤ → List Value → World → (List Value → List Value → ℕ → Run Machine) → Run Machine
called m n stack o go =
    index n o (λ n. pop_many n [] stack o (λ values stack. popping stack o (λ v stack. having (frame_in v) o (λ parent. when (is_live m parent) o (go values stack parent)))))

abbrev pub with_actuals : Option Actuals → List Slot → World → (List Value → List Value → ℕ → Run Machine) → Run Machine
with_actuals None stack o go = no_rule o
with_actuals (Some a) stack o go = go (values_from stack a.at a.count) (values_of a.under stack) a.parent.stamp

-- A new frame was filled.
pub record Supplied (l : Limits) (p p2 : Storage) (k : ℕ) (b : BlockOf) (g : Beginning) (parent : Option FrameRef) (t : working.Activation) (before : Option (List ℕ)) (now : Outside) (o : World) (m : Frames) (q : Option Cells) : Type 0 where
  pub cells : Cells
  pub is : q ≡ Some cells
  pub opens : OpensWith l p p2 k b g parent cells t before now o o m
