-- Objects that are to be generated.
use Rattle.std.proofs.Common.{◌≡◌, ℕ, List, ◌∷◌, length, subst, ap, arith}
use Rattle.std.specs.Prelude.{ℤ, true, false, ◌==◌, if◌then◌else◌, Some, None, slice_get}
use Rattle.sim_base.specs.declared.limits.Limits.{Limits}
use Rattle.sim_values.specs.Plain.{Object}
use Rattle.sim_code.specs.Arrays.{handed_over}
use Rattle.sim_code.specs.Code.{BlockOf, CodeOf}
use Rattle.sim_code.specs.Events.{entering, having, no_rule}
use Rattle.sim_code.specs.Levels.{filled_by, generating, object_made, objects_of, parameter_cell, supplied, words_of_object}
use Rattle.sim_code.specs.Machine.{Activation, Cells, Frames, Machine, Of, Value, arrays_among, first_cells, in_object, pushing, waiting}
use Rattle.sim_code.specs.Outcome.{Run, World}
use Rattle.frame_arena.specs.declared.slot.Slot.{Slot}
use Rattle.object_machine.specs.declared.machine.Registers.{Registers}
use Rattle.frame_arena.specs.Stacks.{values_from, values_of}
use Rattle.object_machine.specs.declared.generating.Ready.{Ready}
use Rattle.object_machine.specs.Preparing.{ReadyFor}
use Rattle.object_machine.specs.Standing.{activation_at}
use Rattle.object_machine.proofs.BlockFacts.{same_found}

pub wrong_count : (code : CodeOf) (c : ℕ) (b : BlockOf) (vs : List Value) → (length vs ≡ length b.formals → ⊥) → supplied code c b vs ≡ None
wrong_count code c b vs h =
    let e : (length vs == length b.formals) ≡ false = grind (arith, h) in
    ap (λ t. if t then filled_by (parameter_cell code c) 0 vs (Some (first_cells b)) else None) e

pub right_count : (code : CodeOf) (c : ℕ) (b : BlockOf) (vs : List Value) → length vs ≡ length b.formals → supplied code c b vs ≡ filled_by (parameter_cell code c) 0 vs (Some (first_cells b))
right_count code c b vs h =
    let e : (length vs == length b.formals) ≡ true = grind (arith, h) in
    ap (λ t. if t then filled_by (parameter_cell code c) 0 vs (Some (first_cells b)) else None) e

module _ (code : CodeOf) (l : Limits) (o : World) (m : Frames) (r : Registers) (stack : List Slot) (below : List Activation) (line : ℕ) (z : ℤ) where
  abbrev pub Entering : List Value → List Value → ℕ → ℕ → BlockOf → ℕ → Cells → Run Machine
  Entering vs rest j k b start cells =
      pushing (length stack) rest (Of (Object (length m.instances))) o (λ rest. entering l line (words_of_object code b) o (λ p.
      in_object (object_made code b.class j (length m.instances) (handed_over (length m.instances) (arrays_among vs) p)) m k b start j cells (waiting (activation_at r stack) rest ∷ below)))

  abbrev pub InBlock : List Value → List Value → ℕ → ℕ → BlockOf → ℕ → Run Machine
  InBlock vs rest j k b start = having (supplied code b.class b vs) o (λ cells. Entering vs rest j k b start cells)

  abbrev pub AfterValues : List Value → List Value → ℕ → Run Machine
  AfterValues vs rest j = objects_of code z o (λ k b start. InBlock vs rest j k b start)

  pub not_supplied : (vs rest : List Value) (j k : ℕ) (b : BlockOf) (start : ℕ) → supplied code b.class b vs ≡ None → InBlock vs rest j k b start ≡ no_rule o
  unfolding having
  not_supplied vs rest j k b start e = ap (λ q. having q o (λ cells. Entering vs rest j k b start cells)) e

  pub all_supplied : (vs rest : List Value) (j k : ℕ) (b : BlockOf) (start : ℕ) (cells : Cells) → supplied code b.class b vs ≡ Some cells → InBlock vs rest j k b start ≡ Entering vs rest j k b start cells
  unfolding having
  all_supplied vs rest j k b start cells e = ap (λ q. having q o (λ cells. Entering vs rest j k b start cells)) e

-- the same where the block is told
pub record ReadyAs (block : BlockOf) (x : Ready) (code : CodeOf) (l : Limits) (o : World) (m : Frames) (r : Registers) (stack : List Slot) (below : List Activation) (line : ℕ) (class values : ℤ) : Type 0 where
  pub cells : Cells
  pub filled : filled_by (parameter_cell code block.class) 0 (values_from stack x.actuals.at x.actuals.count) (Some (first_cells block)) ≡ Some cells
  pub is : generating code l o m (activation_at r stack) below line class values ≡ pushing (length stack) (values_of x.actuals.under stack) (Of (Object (length m.instances))) o (λ rest. entering l line (words_of_object code block) o (λ p.
      in_object (object_made code block.class x.actuals.parent.stamp (length m.instances) (handed_over (length m.instances) (arrays_among (values_from stack x.actuals.at x.actuals.count)) p)) m x.block block x.start x.actuals.parent.stamp cells (waiting (activation_at r stack) rest ∷ below)))

pub ready_as : (b : BlockOf) (x : Ready) (code : CodeOf) (l : Limits) (o : World) (m : Frames) (r : Registers) (stack : List Slot) (below : List Activation) (line : ℕ) (class values : ℤ) → ReadyFor x code l o m r stack below line class values → slice_get code.blocks x.block ≡ Some b →
    ReadyAs b x code l o m r stack below line class values
ready_as b x code l o m r stack below line class values y there =
    subst (λ b. ReadyAs b x code l o m r stack below line class values) (same_found (slice_get code.blocks x.block) y.block b y.there there) (record { cells = y.cells; filled = y.filled; is = y.is })
