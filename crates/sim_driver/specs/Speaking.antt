-- What is said of a status on the diagnostic output, and what the status of the call is then.
use Rattle.std.specs.Prelude.{◌≡◌, ◌≢◌, ◌⊎◌, ℕ, List, Option, Bool, true, false}
use Rattle.std.specs.Io.KnownBytes.{Appends}
use Rattle.sim_ports.specs.Bytes.{AddsPrefix}
use Rattle.sim_ports.specs.Faults.{Rose}
use Rattle.sim_driver.specs.Status.{is_of_code, line_text}
use Rattle.sim_driver.specs.AllWords.{AreNoCommand, AskForNoCode}
use Rattle.sim_driver.specs.declared.status.Status.{Status}
use Rattle.sim_driver.specs.declared.status.Status.TheVariants.{Normal, Usage, FileFault, InputFault, WriteFault, Memory}

-- the status of a call whose line could not be written whole
abbrev pub after_cut : Status → Status
after_cut Memory = Memory
after_cut _ = WriteFault

-- its line takes memory to write
abbrev pub needs_memory : Status → Bool
needs_memory Normal = false
needs_memory WriteFault = false
needs_memory _ = true

-- the whole line of a status was written, and no write failed: it is the status of the call
pub record IsWhole (told result : Status) (old new : Option (List ℕ)) (before now : ℕ) : Type 0 where
  pub same : result ≡ told
  pub line : Appends old new (line_text told)
  pub steady : now ≡ before

-- A write failed before the whole line of a status was written. A normal end has no line.
pub record IsCut (told result : Status) (old new : Option (List ℕ)) (before now : ℕ) : Type 0 where
  pub ends : result ≡ after_cut told
  pub part : AddsPrefix old new (line_text told)
  pub rose : Rose before now
  pub some : told ≢ Normal

abbrev pub Says : Status → Status → Option (List ℕ) → Option (List ℕ) → ℕ → ℕ → Type 0
Says told result old new before now = IsWhole told result old new before now ⊎ IsCut told result old new before now

-- a status comes only by its cause: the words, or a rise of a count of faults
pub record HasItsCause (words : List (List ℕ)) (told : Status) (files input output : Type 0) : Type 0 where
  pub usage : told ≡ Usage → AreNoCommand words
  pub code : AskForNoCode words → is_of_code told ≡ false
  pub file : told ≡ FileFault → files
  pub read : told ≡ InputFault → input
  pub write : told ≡ WriteFault → output
