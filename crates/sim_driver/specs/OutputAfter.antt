-- What a call leaves the output and the input at, by how it ended.
use Rattle.std.specs.Prelude.{◌≡◌, ◌≤◌, ℕ, List, Option, Result, Ok, Err, ⊤}
use Rattle.sim_ports.specs.Faults.{Rose, StopsAt}
use Rattle.sim_driver.specs.declared.failure.RunFailure.{RunFailure}
use Rattle.sim_driver.specs.declared.failure.RunFailure.TheVariants.{Input, Memory, Output}
use Rattle.sim_driver.specs.declared.status.Ending.{Ending}
use Rattle.sim_driver.specs.declared.status.Status.{Status}
use Rattle.sim_driver.specs.declared.status.Status.TheVariants.{Normal, WriteFault}

-- The call failed by the output where a write failed, after which nothing was written. Else no write failed.
abbrev pub OutputAfter : {S A : Type 0} → (S → Option (List ℕ)) → (S → ℕ) → S → S → Result A RunFailure → Type 0
OutputAfter written faults old new (Ok value) = faults new ≡ faults old
OutputAfter written faults old new (Err Memory) = faults new ≡ faults old
OutputAfter written faults old new (Err Input) = faults new ≡ faults old
OutputAfter written faults old new (Err Output) = StopsAt written faults old new

-- The call failed by the input where a read failed. Else no read failed.
abbrev pub InputAfter : {A : Type 0} → (old new : ℕ) → Result A RunFailure → Type 0
InputAfter old new (Ok value) = new ≡ old
InputAfter old new (Err Memory) = new ≡ old
InputAfter old new (Err Input) = (old ≤ new) × Rose old new
InputAfter old new (Err Output) = new ≡ old

-- Of what is written at the end, all at once: the output is as it was but behind a normal end and behind a write that failed.
abbrev pub WritesAtTheEnd : {S : Type 0} → (old new : S) → Result Ending RunFailure → Type 0
WritesAtTheEnd old new (Ok Ending.Normal) = ⊤
WritesAtTheEnd old new (Err Output) = ⊤
WritesAtTheEnd old new _ = new ≡ old

-- the same by the status
abbrev pub WrittenAtTheEnd : {S : Type 0} → (old new : S) → Status → Type 0
WrittenAtTheEnd old new Normal = ⊤
WrittenAtTheEnd old new WriteFault = ⊤
WrittenAtTheEnd old new _ = new ≡ old
