-- Prefixed blocks that are to be entered.
use Rattle.std.proofs.Common.{◌≡◌, ℕ, List, [], ◌∷◌, length, sym}
use Rattle.std.specs.Prelude.{ℤ, Some, None}
use Rattle.sim_base.specs.declared.limits.Limits.{Limits}
use Rattle.sim_code.specs.declared.code.BlockKind.TheVariants as block
use Rattle.sim_code.specs.Arrays.{handed_over}
use Rattle.sim_code.specs.Code.{BlockOf, CodeOf}
use Rattle.sim_code.specs.Events.{entering, having, no_rule, pop_many}
use Rattle.sim_code.specs.Levels.{block_begun, levelled, supplied}
use Rattle.sim_code.specs.Machine.{Activation, Cells, Frames, Machine, Value, arrays_among, in_prefixed, index, number, waiting, words_of_block}
use Rattle.sim_code.specs.Outcome.{Run, World}
use Rattle.frame_arena.specs.declared.slot.Slot.{Slot}
use Rattle.object_machine.specs.declared.machine.Registers.{Registers}
use Rattle.object_machine.specs.Standing.{activation_at}
use Rattle.object_machine.proofs.Having.{having_none, having_some}

-- ---- values

module _ (z : ℤ) (values : List Value) (o : World) (go : List Value → List Value → Run Machine) where
  pub no_values : None ≡ number z → index z o (λ n. pop_many n [] values o go) ≡ no_rule o
  unfolding index
  no_values e = having_none (number z) o (λ n. pop_many n [] values o go) e

  pub some_values : (n : ℕ) → Some n ≡ number z → index z o (λ n. pop_many n [] values o go) ≡ pop_many n [] values o go
  unfolding index
  some_values n e = having_some (number z) n o (λ n. pop_many n [] values o go) e

-- ---- the block

module _ (code : CodeOf) (l : Limits) (o : World) (m : Frames) (r : Registers) (stack : List Slot) (below : List Activation) (line : ℕ) (z : ℤ) (vs rest : List Value) where
  abbrev pub EnteringPrefixed : ℕ → BlockOf → ℕ → Cells → Run Machine
  EnteringPrefixed k b start cells =
      entering l line (words_of_block b) o (λ p. in_prefixed (block_begun code b.class (length m.instances) (handed_over (length m.instances) (arrays_among vs) p)) m k b start r.home.stamp cells (waiting (activation_at r stack) rest ∷ below))

  abbrev pub InPrefixed : ℕ → BlockOf → ℕ → Run Machine
  InPrefixed k b start = having (supplied code b.class b vs) o (λ cells. EnteringPrefixed k b start cells)

  abbrev pub OfNumber : ℕ → Run Machine
  OfNumber k = levelled code block.Prefixed k o (λ b start. InPrefixed k b start)

  abbrev pub AfterAll : Run Machine
  AfterAll = index z o (λ k. OfNumber k)

  pub no_number : None ≡ number z → AfterAll ≡ no_rule o
  unfolding index
  no_number e = having_none (number z) o (λ k. OfNumber k) e

  pub some_number : (k : ℕ) → Some k ≡ number z → AfterAll ≡ OfNumber k
  unfolding index
  some_number k e = having_some (number z) k o (λ k. OfNumber k) e

  pub none_supplied : (k : ℕ) (b : BlockOf) (start : ℕ) → supplied code b.class b vs ≡ None → InPrefixed k b start ≡ no_rule o
  none_supplied k b start e = having_none (supplied code b.class b vs) o (λ cells. EnteringPrefixed k b start cells) (sym e)

  pub some_supplied : (k : ℕ) (b : BlockOf) (start : ℕ) (cells : Cells) → supplied code b.class b vs ≡ Some cells → InPrefixed k b start ≡ EnteringPrefixed k b start cells
  some_supplied k b start cells e = having_some (supplied code b.class b vs) cells o (λ cells. EnteringPrefixed k b start cells) (sym e)
