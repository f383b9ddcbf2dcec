-- How a row goes on with what was left of the words and the ticks.
use Rattle.std.specs.Prelude.{ℕ, Option, Some, None}
use Rattle.sim_code.specs.Outcome.{Run, StorageExhausted, TickLimit, World}
use Rattle.sim_code.specs.Events.{stopping}
use Rattle.sim_code.specs.Machine.{Machine}

-- goes on with the words in use, or the storage is exhausted
abbrev pub with_words : Option ℕ → (line used wanted : ℕ) → World → (World → Run Machine) → Run Machine
with_words None line used wanted o go = stopping (StorageExhausted line used wanted) o
with_words (Some words) line used wanted o go = go (record o { words = words })

-- goes on with the ticks taken, or the tick limit is met
abbrev pub with_ticks : Option ℕ → (limit : ℕ) → World → (World → Run Machine) → Run Machine
with_ticks None limit o go = stopping (TickLimit limit) o
with_ticks (Some ticks) limit o go = go (record o { ticks = ticks })
