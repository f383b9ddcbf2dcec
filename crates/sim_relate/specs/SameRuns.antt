-- That code shows what its program shows.
use Rattle.std.specs.Prelude.{◌≡◌, ◌⊎◌, ℕ, suc, Bool, List, Option, Some, None}
use Rattle.sim_base.specs.declared.limits.Limits.{Limits}
use Rattle.sim_scope.specs.Source.{Source}
use Rattle.sim_code.specs.Code.{CodeOf}
use Rattle.sim_code.specs.Outcome.{Ended, Ending, Going, Run, Shown, World, shown_world}
use Rattle.sim_code.specs.Rows.{mrun}
use Rattle.sim_meaning.specs.Meaning.{run}

-- what is seen of a run: what it shows, the bytes of the input that are left, and whether the end of the input was met
pub record Seen : Type 0 where
  pub shown : Shown
  pub left : List ℕ
  pub endfile : Bool

abbrev pub seen_world : World → Option Ending → Seen
seen_world o e = record { shown = shown_world o e; left = o.store.left; endfile = o.store.endfile }

abbrev pub seen : {S : Type 0} → Run S → Seen
seen (Going o s) = seen_world o None
seen (Ended o e) = seen_world o (Some e)

-- A step of the code's run, from a moment that is seen as one of the program's: it shows nothing, or what the program's next step shows.
pub record StepShown (s : Source) (code : CodeOf) (l : Limits) (input : List ℕ) (m : ℕ) : Type 0 where
  pub at : ℕ
  pub here : seen (mrun code l input m) ≡ seen (run s l input at)
  pub next : (seen (mrun code l input (suc m)) ≡ seen (mrun code l input m)) ⊎ (seen (mrun code l input (suc m)) ≡ seen (run s l input (suc at)))

-- Each moment of the one run is one of the other: with the same output, ticks and words, the same input left, and the same ending, if it
-- has ended. And each step of the code shows nothing, or what one step of the program shows.
pub record SameRuns (s : Source) (code : CodeOf) : Type 0 where
  pub shows : (l : Limits) (input : List ℕ) (n : ℕ) → (m : ℕ) × (seen (mrun code l input m) ≡ seen (run s l input n))
  pub only : (l : Limits) (input : List ℕ) (m : ℕ) → (n : ℕ) × (seen (mrun code l input m) ≡ seen (run s l input n))
  pub steps : (l : Limits) (input : List ℕ) (m : ℕ) → StepShown s code l input m
