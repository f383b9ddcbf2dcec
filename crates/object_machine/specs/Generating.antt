-- Objects and prefixed blocks that are entered, as the rows find them.
use Rattle.std.specs.Prelude.{◌≡◌, ℕ, ℤ, Bool, true, false, List, [], slice_get, Option, Some, None}
use Rattle.sim_values.specs.declared.value.FrameRef.{FrameRef}
use Rattle.sim_code.specs.declared.code.BlockKind.{BlockKind}
use Rattle.sim_code.specs.Code.{BlockOf, CodeOf}
use Rattle.sim_code.specs.Events.{having, no_rule, pop_many, popping, when}
use Rattle.sim_code.specs.Instances.{is_live}
use Rattle.sim_code.specs.Levels.{levelled, objects_of}
use Rattle.sim_code.specs.Machine.{Frames, Machine, Value, index, link_in}
use Rattle.sim_code.specs.Outcome.{Run, World}
use Rattle.frame_arena.specs.declared.frames.Frame.{Frame}
use Rattle.frame_arena.specs.declared.slot.Slot.{Slot}
use Rattle.frame_arena.specs.declared.slot.SlotKind.{SlotKind}
use Rattle.frame_arena.specs.declared.slot.SlotKind.TheVariants as kind
use Rattle.frame_arena.specs.Frames.{Leads}
use Rattle.frame_arena.specs.Slots.{value_of}
use Rattle.object_machine.specs.declared.levelled.Levelled.{Levelled}

abbrev pub names_link : SlotKind → Bool
names_link kind.Link = true
names_link _ = false

-- the frame that a link names, where that was not given back; or there is none
abbrev pub Enclosing : Frames → Slot → World → (ℕ → Run Machine) → Run Machine
Enclosing m s o go = having (link_in (value_of s)) o (λ parent. when (is_live m parent) o (go parent))

abbrev pub IsEncloser : Option FrameRef → List Frame → Frames → Slot → Type 0
IsEncloser None frames m s = (o : World) (go : ℕ → Run Machine) → Enclosing m s o go ≡ no_rule o
IsEncloser (Some f) frames m s = Leads frames m f × ((o : World) (go : ℕ → Run Machine) → Enclosing m s o go ≡ go f.stamp)

-- as many values, and below them the link
abbrev pub linked : Frames → ℤ → List Value → World → (List Value → List Value → ℕ → Run Machine) → Run Machine
linked m n stack o go =
    index n o (λ n. pop_many n [] stack o (λ values stack. popping stack o (λ v stack. having (link_in v) o (λ parent. when (is_live m parent) o (go values stack parent)))))

-- where a block with levels begins; or there is no such block
abbrev pub IsLevelled : Option ℕ → CodeOf → BlockKind → (block : ℕ) → Type 0
IsLevelled None code kind k = (o : World) (go : BlockOf → ℕ → Run Machine) → levelled code kind k o go ≡ no_rule o
IsLevelled (Some start) code kind k = (b : BlockOf) → slice_get code.blocks k ≡ Some b → (o : World) (go : BlockOf → ℕ → Run Machine) → levelled code kind k o go ≡ go b start

-- the block of the objects of a class, and where it begins; or there is no such class
abbrev pub IsObjects : Option Levelled → CodeOf → (class : ℤ) → Type 0
IsObjects None code z = (o : World) (go : ℕ → BlockOf → ℕ → Run Machine) → objects_of code z o go ≡ no_rule o
IsObjects (Some x) code z = (b : BlockOf) → slice_get code.blocks x.block ≡ Some b → (o : World) (go : ℕ → BlockOf → ℕ → Run Machine) → objects_of code z o go ≡ go x.block b x.start
