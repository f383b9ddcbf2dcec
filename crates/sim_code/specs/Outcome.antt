-- What a run shows, how it ends, and what it hands from step to step. The meaning of programs and the machine have all of it in common.
use Rattle.std.specs.Prelude.{ℕ, zero, suc, Bool, ℤ, List, [], Option, Some, None}
use Rattle.sim_base.specs.declared.run_error.RunError.{RunError}
use Rattle.sim_base.specs.declared.limits.Limits.{Limits}
use Rattle.notices.specs.declared.notice.Notice.{Notice}
use Rattle.simset.specs.Instances.{Memberships}
use Rattle.sim_values.specs.Plain.{Plain}
use Rattle.sim_values.specs.Store.{Store, first_store}
use Rattle.sim_code.specs.declared.ending.Ending.{Ending as Answer}
use Rattle.sim_code.specs.declared.ending.Ending.TheVariants as answer

-- How a run ends. There is no rule where a step needs what is not there; no program that the rules of the language allow comes to that.
pub data Ending : Type 0 where
  Normal : Ending
  RunFault : RunError → (line : ℕ) → Ending
  StorageExhausted : (line used wanted : ℕ) → Ending
  TickLimit : (ticks : ℕ) → Ending
  NoRule : Ending

-- An array: the bounds of its dimensions, its elements with the last subscript fastest, the instance that it belongs to, whether it is
-- kept, and whether it was given back. Arrays are numbered in the order in which they are made.
pub record ArrayOf : Type 0 where
  pub bounds : List (ℤ × ℤ)
  pub elements : List Plain
  pub owner : ℕ
  pub kept : Bool
  pub given_back : Bool

-- A simulation block: its instance; the objects of its processes, in the order in which they were made; of each of them whether it is
-- terminated; and the event notices. The number of a process is its place among these, from 1 on; 0 is that of the main program.
pub record Simulation : Type 0 where
  pub block : ℕ
  pub processes : List ℕ
  pub ended : List Bool
  pub notices : List Notice

-- What every step gets and hands on: the ticks taken, the words in use, the texts with both images, the input left and the output so
-- far, the arrays, the linkages with their sets, and the simulation blocks that were entered.
pub record World : Type 0 where
  pub ticks : ℕ
  pub words : ℕ
  pub store : Store
  pub arrays : List ArrayOf
  pub members : Memberships
  pub simulations : List Simulation

-- a run that goes on from a state, or has ended
pub data Run (S : Type 0) : Type 0 where
  Going : World → S → Run S
  Ended : World → Ending → Run S

-- one step more; what has ended stays
abbrev pub next : {S : Type 0} → (World → S → Run S) → Run S → Run S
next step (Going o s) = step o s
next step (Ended o e) = Ended o e

-- n steps more
abbrev pub after : {S : Type 0} → (World → S → Run S) → ℕ → Run S → Run S
after step zero r = r
after step (suc n) r = after step n (next step r)

-- what is seen of a run: the output, the ticks, the words, and how it ended, if it did
pub record Shown : Type 0 where
  pub output : List ℕ
  pub ticks : ℕ
  pub words : ℕ
  pub ending : Option Ending

abbrev pub shown_world : World → Option Ending → Shown
shown_world o e = record { output = o.store.written; ticks = o.ticks; words = o.words; ending = e }

abbrev pub shown : {S : Type 0} → Run S → Shown
shown (Going o s) = shown_world o None
shown (Ended o e) = shown_world o (Some e)

-- the world before the first step, with these text constants and this input
abbrev pub first_world : (constants : List (List ℕ)) → Limits → (input : List ℕ) → World
first_world constants l input = record { ticks = 0; words = 0; store = first_store constants l.in_length l.out_length input; arrays = []; members = record { instances = []; sets = [] }; simulations = [] }

-- how the machine says that a run has ended; `at` is the place where it has no rule
abbrev pub answer_of : Ending → (at : ℕ) → Answer
answer_of Normal at = answer.Normal
answer_of (RunFault e line) at = answer.RunFault e (record { 0 = line })
answer_of (StorageExhausted line used wanted) at = answer.StorageExhausted (record { 0 = line }) used wanted
answer_of (TickLimit ticks) at = answer.TickLimit ticks
answer_of NoRule at = answer.BadCode at
