-- The rows that call procedures.
use Rattle.std.proofs.Common.{◌≡◌, ℕ, suc, List, [], ◌∷◌, length, map, refl, ap, ◌∙◌}
use Rattle.std.specs.Prelude.{ℤ, Option, Some, None, slice_get}
use Rattle.sim_base.specs.declared.limits.Limits.{Limits}
use Rattle.sim_code.specs.Arrays.{handed_over}
use Rattle.sim_code.specs.Code.{BlockOf, CodeOf}
use Rattle.sim_code.specs.declared.code.BlockKind.TheVariants as block
use Rattle.sim_code.specs.Events.{entering, having, no_rule}
use Rattle.sim_code.specs.Machine.{Activation, Cells, Frames, Machine, Value, arrays_by_value, block_at, frames_kept, in_frame, waiting, words_of_block}
use Rattle.sim_code.specs.Outcome.{Run, World}
use Rattle.sim_code.specs.Rows.{entering_frame}
use Rattle.object_machine.specs.Entering.{IsBlock}

pub map_long : {X Y : Type 0} (f : X → Y) (xs : List X) → length (map f xs) ≡ length xs
map_long f [] = refl
map_long f (x ∷ xs) = ap suc (map_long f xs)

module _ (l : Limits) (o : World) (m : Frames) (a : Activation) (below : List Activation) (line : ℕ) where
  -- the block of a number is entered with values and what is below them
  abbrev pub Blocks : CodeOf → ℤ → List Value → List Value → ℕ → Run Machine
  Blocks code z vs stack parent = block_at code block.Procedure z o (λ k b x. entering_frame l o m a below line k b parent vs stack)

  abbrev pub Paid : List Value → List Value → ℕ → ℕ → BlockOf → Cells → World → Run Machine
  Paid vs stack parent k b cells p = in_frame (handed_over (length m.instances) (arrays_by_value b.formals vs) p) (frames_kept b (a ∷ below) m) k b (Some parent) cells (waiting a stack ∷ below)

  abbrev pub Filling : List Value → List Value → ℕ → ℕ → BlockOf → Option Cells → Run Machine
  Filling vs stack parent k b q = having q o (λ cells. entering l line (words_of_block b) o (λ p. Paid vs stack parent k b cells p))

  pub none_fit : (vs stack : List Value) (parent k : ℕ) (b : BlockOf) (q : Option Cells) → q ≡ None → Filling vs stack parent k b q ≡ no_rule o
  unfolding having
  none_fit vs stack parent k b q e = ap (λ q. Filling vs stack parent k b q) e

  pub all_fit : (vs stack : List Value) (parent k : ℕ) (b : BlockOf) (q : Option Cells) (cells : Cells) → q ≡ Some cells → Filling vs stack parent k b q ≡ entering l line (words_of_block b) o (λ p. Paid vs stack parent k b cells p)
  unfolding having
  all_fit vs stack parent k b q cells e = ap (λ q. Filling vs stack parent k b q) e

  -- the block that was found is entered
  pub enters : (code : CodeOf) (z : ℤ) (place k j : ℕ) (vs stack : List Value) (b : BlockOf) → slice_get code.blocks place ≡ Some b → IsBlock (Some place) code block.Procedure z → place ≡ k →
      Blocks code z vs stack j ≡ entering_frame l o m a below line k b j vs stack
  enters code z place k j vs stack b there is same =
      is b there o (λ k b. entering_frame l o m a below line k b j vs stack) ∙ ap (λ k. entering_frame l o m a below line k b j vs stack) same
