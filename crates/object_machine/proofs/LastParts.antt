-- Processes that come to their end.
use Rattle.std.proofs.Common.{◌≡◌, ℕ, zero, suc, ◌≤◌, List, [], ◌∷◌, length, set, sym, refl, ap, ◌∙◌, arith}
use Rattle.std.specs.Prelude.{Bool, true, false, slice_get, Option, Some, None}
use Rattle.sim_code.specs.declared.stage.Stage.{Stage}
use Rattle.sim_code.specs.declared.stage.Stage.TheVariants as stage
use Rattle.sim_code.specs.Classes.{class_of, is_marked, levels_in, process_mark}
use Rattle.sim_code.specs.Code.{CodeOf}
use Rattle.sim_code.specs.Levels.{ending_process, ends_process, frame_if}
use Rattle.sim_code.specs.Machine.{Frames}
use Rattle.frame_arena.specs.declared.slot.Slot.{Slot}
use Rattle.object_machine.specs.declared.machine.Registers.{Registers}
use Rattle.object_machine.specs.Keeping.{owner_at}
use Rattle.object_machine.specs.Standing.{activation_at}

pub set_past : {X : Type 0} (xs : List X) (i : ℕ) (x : X) → length xs ≤ i → set xs i x ≡ xs
set_past [] i x h = refl
set_past (y ∷ ys) zero x h = absurd (omega (arith, h))
set_past (y ∷ ys) (suc i) x h = ap (λ l. y ∷ l) (set_past ys i x (omega (arith, h)))

abbrev marked_level : CodeOf → Option ℕ → Bool
marked_level code None = false
marked_level code (Some c) = is_marked code process_mark c

none_ends : (b : Bool) → frame_if b None ≡ None
none_ends true = refl
none_ends false = refl

module _ (code : CodeOf) (m : Frames) (r : Registers) (stack : List Slot) where
  abbrev By : Stage → Option (List ℕ) → Option ℕ
  By s cs = frame_if (ends_process code s cs) (owner_at r)

  ending_by : ending_process code m (activation_at r stack) ≡ By r.stage (levels_in code (class_of code m r.home.stamp))
  unfolding ending_process
  ending_by = refl

  -- a thunk is no process
  pub ends_for_thunk : owner_at r ≡ None → ending_process code m (activation_at r stack) ≡ None
  ends_for_thunk e =
      let b : Bool = ends_process code r.stage (levels_in code (class_of code m r.home.stamp)) in
      ending_by ∙ ap (λ q. frame_if b q) e ∙ none_ends b

  pub ends_unlevelled : levels_in code (class_of code m r.home.stamp) ≡ None → ending_process code m (activation_at r stack) ≡ None
  ends_unlevelled e = ending_by ∙ ap (λ cs. By r.stage cs) e

  elsewhere : (s : Stage) (cs : Option (List ℕ)) → ((n : ℕ) → s ≡ stage.Behind n → ⊥) → By s cs ≡ None
  elsewhere stage.NoStage None h = refl
  elsewhere stage.NoStage (Some cs) h = refl
  elsewhere (stage.Declaring n) None h = refl
  elsewhere (stage.Declaring n) (Some cs) h = refl
  elsewhere (stage.Stating n) None h = refl
  elsewhere (stage.Stating n) (Some cs) h = refl
  elsewhere (stage.Behind n) cs h = absurd (h n refl)

  pub ends_elsewhere : ((n : ℕ) → r.stage ≡ stage.Behind n → ⊥) → ending_process code m (activation_at r stack) ≡ None
  ends_elsewhere h = ending_by ∙ elsewhere r.stage (levels_in code (class_of code m r.home.stamp)) h

  module _ (n : ℕ) (behind : r.stage ≡ stage.Behind n) (cs : List ℕ) (found : levels_in code (class_of code m r.home.stamp) ≡ Some cs) where
    ends_behind : ending_process code m (activation_at r stack) ≡ By (stage.Behind n) (Some cs)
    ends_behind = ending_by ∙ ap (λ s. By s (levels_in code (class_of code m r.home.stamp))) behind ∙ ap (λ q. By (stage.Behind n) q) found

    level_marked : (q : Option ℕ) → slice_get cs n ≡ q → ending_process code m (activation_at r stack) ≡ frame_if (marked_level code q) (owner_at r)
    level_marked q e = ends_behind ∙ ap (λ q. frame_if (marked_level code q) (owner_at r)) e

    pub ends_past : slice_get cs n ≡ None → ending_process code m (activation_at r stack) ≡ None
    ends_past e = level_marked None e

    pub ends_marked : (c : ℕ) (b : Bool) → slice_get cs n ≡ Some c → b ≡ is_marked code process_mark c → ending_process code m (activation_at r stack) ≡ frame_if b (owner_at r)
    ends_marked c b e is = level_marked (Some c) e ∙ ap (λ k. frame_if k (owner_at r)) (sym is)
