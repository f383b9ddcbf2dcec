-- The rows of the names of processes and of simulation blocks, as rows of the table.
use Rattle.std.proofs.Common.{◌≡◌, ℕ, List, ◌∷◌, sym, refl, ◌∙◌}
use Rattle.std.specs.Prelude.{ℤ, true, false, Some}
use Rattle.sim_base.specs.declared.limits.Limits.{Limits}
use Rattle.sim_values.specs.declared.standard.Standard.{Standard}
use Rattle.sim_values.specs.declared.standard.Standard.TheVariants as standard
use Rattle.sim_code.specs.declared.instr.Instr.TheVariants as i
use Rattle.sim_code.specs.Code.{CodeOf}
use Rattle.sim_code.specs.Instances.{encloser_of}
use Rattle.sim_code.specs.Machine.{Activation, Frames, Of, on, plain}
use Rattle.sim_code.specs.Outcome.{World}
use Rattle.sim_code.specs.Rows.{row, standard_of, standard_row as row_of_name}
use Rattle.sim_code.specs.Scheduling.{performing_process}
use Rattle.sim_code.specs.Sets.{is_set_name}
use Rattle.sim_code.specs.Simulations.{is_process_name, is_simulation_name}
use Rattle.frame_arena.specs.declared.slot.Slot.{Slot}
use Rattle.object_machine.specs.declared.machine.Activation as working
use Rattle.object_machine.specs.declared.machine.Flow.{Flow}
use Rattle.object_machine.specs.declared.machine.Registers.{Registers}
use Rattle.object_machine.specs.declared.machine.Storage.{Storage}
use Rattle.object_machine.specs.Rescheduling.{simulation_row}
use Rattle.object_machine.specs.Standing.{Obeys, Outside, activation_at, below_of}
use Rattle.object_machine.proofs.Going.{along, chosen, other_chosen}
use Rattle.object_machine.proofs.Having.{having_some}
use Rattle.object_machine.proofs.Scalars.{off}

-- ---- processes

process_apart : (name : Standard) → is_process_name name ≡ true → is_set_name name ≡ false
process_apart standard.Idle e = refl
process_apart standard.Terminated e = refl
process_apart standard.Evtime e = refl
process_apart standard.Nextev e = refl
process_apart _ e = absurd (off e)

pub process_chosen : (code : CodeOf) (l : Limits) (line : ℕ) (name : Standard) (o : World) (m : Frames) (a : Activation) (below : List Activation) → is_process_name name ≡ true →
    row_of_name code l o m a below line name ≡ performing_process plain (encloser_of m) name line a.stack o (λ value stack. on o m a (Of value ∷ stack) below)
process_chosen code l line name o m a below e = other_chosen (is_set_name name) _ _ (process_apart name e) ∙ chosen (is_process_name name) _ _ e

-- ---- simulation blocks

block_apart : (name : Standard) → is_simulation_name name ≡ true → (is_set_name name ≡ false) × (is_process_name name ≡ false)
block_apart standard.Time e = (refl, refl)
block_apart standard.Current e = (refl, refl)
block_apart standard.Main e = (refl, refl)
block_apart standard.Hold e = (refl, refl)
block_apart standard.Passivate e = (refl, refl)
block_apart standard.Wait e = (refl, refl)
block_apart standard.Cancel e = (refl, refl)
block_apart _ e = absurd (off e)

block_chosen : (code : CodeOf) (l : Limits) (line : ℕ) (name : Standard) (o : World) (m : Frames) (a : Activation) (below : List Activation) → is_simulation_name name ≡ true → row_of_name code l o m a below line name ≡ simulation_row code line name o m a below
block_chosen code l line name o m a below e =
    let apart = block_apart name e in
    other_chosen (is_set_name name) _ _ apart.0 ∙ other_chosen (is_process_name name) _ _ apart.1 ∙ chosen (is_simulation_name name) _ _ e

pub for_block_name : (f : Flow) (code : CodeOf) (l : Limits) (line : ℕ) (z : ℤ) (name : Standard) → standard_of z ≡ Some name → is_simulation_name name ≡ true →
    (p p2 : Storage) (r r2 : Registers) (stack stack2 : List Slot) (below below2 : List working.Activation) (now now2 : Outside) →
    Obeys f l line (simulation_row code line name) p p2 r r2 stack stack2 below below2 now now2 → Obeys f l line (λ o m a b. row code l o m a b line (i.Std z)) p p2 r r2 stack stack2 below below2 now now2
unfolding Obeys
for_block_name f code l line z name e named p p2 r r2 stack stack2 below below2 now now2 h before o m s =
    along l line p2 below2 before now2 f r2 stack2 _ _ (having_some (standard_of z) name o _ (sym e) ∙ block_chosen code l line name o m (activation_at r stack) (below_of below) named) (h before o m s)
