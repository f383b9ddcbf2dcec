-- What becomes of a standard name that was performed.
use Rattle.std.specs.Prelude.{◌≡◌, ℕ, ◌+◌, List, Option}
use Rattle.sim_base.specs.declared.limits.Limits.{Limits}
use Rattle.sim_values.specs.declared.value.TextVal.{TextVal}
use Rattle.sim_values.specs.declared.standard.Standard.{Standard}
use Rattle.sim_code.specs.Events.{performing, when}
use Rattle.sim_code.specs.Machine.{Activation, Frames, Machine, on, operand}
use Rattle.sim_code.specs.Outcome.{Run, World}
use Rattle.sim_code.specs.Rows.{put_back, room_for, with_value}
use Rattle.frame_arena.specs.declared.slot.Slot.{Slot}
use Rattle.standard_calls.specs.declared.names.Performed.{Performed}
use Rattle.standard_calls.specs.declared.names.Performed.TheVariants as performed
use Rattle.object_machine.specs.declared.machine.Storage.{Storage}
use Rattle.object_machine.specs.declared.machine.Registers.{Registers}
use Rattle.object_machine.specs.declared.machine.Activation as working
use Rattle.object_machine.specs.declared.machine.Flow.{Flow}
use Rattle.object_machine.specs.declared.machine.Flow.TheVariants as flow
use Rattle.object_machine.specs.declared.placing.Placing.{Placing}
use Rattle.object_machine.specs.declared.placing.Placing.TheVariants as placing
use Rattle.object_machine.specs.Placing.{LeadsFrom, PutsBack}
use Rattle.object_machine.specs.Standing.{Outside, Stands}

-- the row of a standard name
abbrev pub named : Limits → (line : ℕ) → Standard → World → Frames → Activation → List Activation → Run Machine
named l line name o m a below = when (room_for name a) o (performing operand put_back l line name a.stack o m (λ p m value stack. on p m a (with_value value stack) below))

-- the run goes on behind the instruction with so many values, or it ends
abbrev pub Follows : Placing → Flow → (depth : ℕ) → (old new : Registers) → Type 0
Follows placing.Done f depth old new = (f ≡ flow.On) × (new ≡ record old { pc = old.pc + 1; depth = depth })
Follows placing.NoRule f depth old new = f ≡ flow.NoRule
Follows placing.Memory f depth old new = f ≡ flow.Memory

pub record MovesBack (f : Flow) (depth : ℕ) (text : TextVal) (address : Slot) (p p2 : Storage) (old new : Registers) : Type 0 where
  pub placing : Placing
  pub puts : (l : Limits) (r : Registers) (stack : List Slot) (below : List working.Activation) (before : Option (List ℕ)) (now : Outside) (o : World) (m : Frames) →
      Stands l p r stack below before now o m → LeadsFrom p o m address → PutsBack placing l p2 r stack below before now o m address text
  pub follows : Follows placing f depth old new

abbrev pub Settles : Performed → Flow → (address : Slot) → (p p2 : Storage) → (old new : Registers) → Type 0
Settles (performed.Depth depth) f address p p2 old new = (f ≡ flow.On) × (p2 ≡ p) × (new ≡ record old { pc = old.pc + 1; depth = depth })
Settles (performed.Moved depth text) f address p p2 old new = MovesBack f depth text address p p2 old new
Settles performed.NoRule f address p p2 old new = (f ≡ flow.NoRule) × (p2 ≡ p)
Settles (performed.Fault e) f address p p2 old new = (f ≡ flow.Fault e) × (p2 ≡ p)
Settles (performed.Full wanted) f address p p2 old new = (f ≡ flow.Exhausted) × (p2 ≡ record p { wanted = wanted })
Settles performed.Memory f address p p2 old new = f ≡ flow.Memory
Settles performed.WriteFault f address p p2 old new = f ≡ flow.WriteFault
Settles performed.InputFault f address p p2 old new = f ≡ flow.InputFault
