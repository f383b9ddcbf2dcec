-- A frame that goes on top of a chain.
use Rattle.std.specs.Prelude.{◌≡◌, ◌+◌, List, [], ◌∷◌, ◌++◌}
use Rattle.frame_arena.specs.declared.slot.Slot.{Slot}
use Rattle.object_machine.specs.declared.machine.Registers.{Registers}
use Rattle.object_machine.specs.declared.machine.Activation as working
use Rattle.object_machine.specs.declared.machine.Flow.{Flow}
use Rattle.object_machine.specs.declared.machine.Flow.TheVariants as flow

-- the new frame is the top, and behind those below stands the one that was the top, which goes on behind its instruction; or memory
-- was wanting
abbrev pub Covers : Flow → (next : working.Activation) → Registers → List Slot → (below : List working.Activation) → (top : working.Activation) → (below2 : List working.Activation) → Type 0
Covers flow.On next r stack below top below2 =
    (top ≡ next) × ((t : working.Activation) × (below2 ≡ below ++ t ∷ []) × (t.registers ≡ record r { pc = r.pc + 1 }) × (t.stack.items ≡ stack))
Covers flow.Memory next r stack below top below2 = Unit {0}
Covers _ next r stack below top below2 = ⊥
