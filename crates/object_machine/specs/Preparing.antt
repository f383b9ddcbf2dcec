-- Objects that are to be generated, and prefixed blocks that are to be entered.
use Rattle.std.specs.Prelude.{◌≡◌, ℕ, ℤ, Bool, List, ◌∷◌, length, slice_get, Option, Some, None}
use Rattle.sim_base.specs.declared.limits.Limits.{Limits}
use Rattle.sim_values.specs.Plain.{Object}
use Rattle.sim_code.specs.Arrays.{handed_over}
use Rattle.sim_code.specs.Code.{BlockOf, CodeOf}
use Rattle.sim_code.specs.Events.{entering, no_rule}
use Rattle.sim_code.specs.Levels.{block_begun, entering_prefixed, filled_by, generating, object_made, parameter_cell, supplied, words_of_object}
use Rattle.sim_code.specs.Machine.{Activation, Cells, Frames, Of, Value, arrays_among, first_cells, in_object, in_prefixed, pushing, waiting, words_of_block}
use Rattle.sim_code.specs.Outcome.{World}
use Rattle.sim_code.specs.declared.stage.Stage.TheVariants as stage
use Rattle.frame_arena.specs.declared.slot.Slot.{Slot}
use Rattle.frame_arena.specs.Stacks.{values_from, values_of}
use Rattle.object_machine.specs.declared.generating.Ready.{Ready}
use Rattle.object_machine.specs.declared.machine.Registers.{Registers}
use Rattle.object_machine.specs.declared.openings.Beginning.{Beginning}
use Rattle.object_machine.specs.Standing.{activation_at}

-- as many values as formal parameters, each of which has its cell
pub record Supplies (code : CodeOf) (b : BlockOf) (values : List Value) : Type 0 where
  pub cells : Cells
  pub filled : filled_by (parameter_cell code b.class) 0 values (Some (first_cells b)) ≡ Some cells
  pub is : supplied code b.class b values ≡ Some cells

-- how a frame with levels begins, of an object or of a prefixed block
abbrev pub with_levels : Ready → (object : Bool) → Beginning
with_levels x object = record { start = x.start; stage = stage.Declaring 0; object = object }

-- the block of the object, its cells, and what is left of the row
pub record ReadyFor (x : Ready) (code : CodeOf) (l : Limits) (o : World) (m : Frames) (r : Registers) (stack : List Slot) (below : List Activation) (line : ℕ) (class values : ℤ) : Type 0 where
  pub block : BlockOf
  pub there : slice_get code.blocks x.block ≡ Some block
  pub cells : Cells
  pub filled : filled_by (parameter_cell code block.class) 0 (values_from stack x.actuals.at x.actuals.count) (Some (first_cells block)) ≡ Some cells
  pub is : generating code l o m (activation_at r stack) below line class values ≡ pushing (length stack) (values_of x.actuals.under stack) (Of (Object (length m.instances))) o (λ rest. entering l line (words_of_object code block) o (λ p.
      in_object (object_made code block.class x.actuals.parent.stamp (length m.instances) (handed_over (length m.instances) (arrays_among (values_from stack x.actuals.at x.actuals.count)) p)) m x.block block x.start x.actuals.parent.stamp cells (waiting (activation_at r stack) rest ∷ below)))

abbrev pub IsReady : Option Ready → CodeOf → Limits → World → Frames → Registers → List Slot → List Activation → (line : ℕ) → (class values : ℤ) → Type 0
IsReady None code l o m r stack below line z n = generating code l o m (activation_at r stack) below line z n ≡ no_rule o
IsReady (Some x) code l o m r stack below line z n = ReadyFor x code l o m r stack below line z n

-- the cells of a prefixed block, and what is left of its row
pub record PrefixReady (b : BlockOf) (x : Ready) (code : CodeOf) (l : Limits) (o : World) (m : Frames) (r : Registers) (stack : List Slot) (below : List Activation) (line : ℕ) (block values : ℤ) : Type 0 where
  pub cells : Cells
  pub filled : filled_by (parameter_cell code b.class) 0 (values_from stack x.actuals.at x.actuals.count) (Some (first_cells b)) ≡ Some cells
  pub is : entering_prefixed code l o m (activation_at r stack) below line block values ≡ entering l line (words_of_block b) o (λ p.
      in_prefixed (block_begun code b.class (length m.instances) (handed_over (length m.instances) (arrays_among (values_from stack x.actuals.at x.actuals.count)) p)) m x.block b x.start r.home.stamp cells (waiting (activation_at r stack) (values_of x.actuals.under stack) ∷ below))

abbrev pub IsPrefixReady : Option Ready → CodeOf → Limits → World → Frames → Registers → List Slot → List Activation → (line : ℕ) → (block values : ℤ) → Type 0
IsPrefixReady None code l o m r stack below line z n = entering_prefixed code l o m (activation_at r stack) below line z n ≡ no_rule o
IsPrefixReady (Some x) code l o m r stack below line z n = (b : BlockOf) → slice_get code.blocks x.block ≡ Some b → PrefixReady b x code l o m r stack below line z n
