-- What it is to run code, whatever code it is: the run of the machine's table from its first state, how that ends, and what it has written then.
use Rattle.std.specs.Prelude.{◌≡◌, ◌≤◌, ℕ, suc, List, Option, Result, Ok, Err, ⊤}
use Rattle.std.specs.Io.KnownBytes.{Appends}
use Rattle.sim_base.specs.declared.limits.Limits.{Limits}
use Rattle.sim_code.specs.declared.ending.Ending.{Ending as Answer}
use Rattle.sim_code.specs.declared.ending.Ending.TheVariants as answer
use Rattle.sim_code.specs.Code.{CodeOf}
use Rattle.sim_code.specs.Machine.{Machine}
use Rattle.sim_code.specs.Outcome.{Ended, Ending, Going, Normal, NoRule, RunFault, StorageExhausted, TickLimit, World}
use Rattle.sim_code.specs.Rows.{mrun, mstep, next_place}
use Rattle.sim_ports.specs.Bytes.{AddsPrefix}
use Rattle.sim_ports.specs.Faults.{Rose, StopsAt}
use Rattle.standard_calls.specs.Taking.{HasAll}
use Rattle.object_machine.specs.Taking.{Reads}
use Rattle.code_run.specs.declared.running.CodeEnd.{CodeEnd}
use Rattle.code_run.specs.declared.running.CodeEnd.TheVariants as end
use Rattle.code_run.specs.declared.running.CodeFailure.{CodeFailure}
use Rattle.code_run.specs.declared.running.CodeFailure.TheVariants as failure

-- The end of a run, by how the table ends it. Where the table has no rule, the index is that of the instruction that was next.
abbrev pub end_of : Ending → (next : ℕ) → CodeEnd
end_of Normal next = end.Normal
end_of (RunFault error line) next = end.RunFault error (record { 0 = line })
end_of (StorageExhausted line used wanted) next = end.StorageExhausted (record { 0 = line }) used wanted
end_of (TickLimit ticks) next = end.TickLimit ticks
end_of NoRule next = end.BadCode next

-- the same by the machine's answer, or why there is no end
abbrev pub told : Answer → Result CodeEnd CodeFailure
told answer.Normal = Ok end.Normal
told (answer.RunFault error line) = Ok (end.RunFault error line)
told (answer.StorageExhausted line used wanted) = Ok (end.StorageExhausted line used wanted)
told (answer.TickLimit ticks) = Ok (end.TickLimit ticks)
told answer.InputFault = Err failure.Input
told answer.WriteFault = Err failure.Output
told answer.Memory = Err failure.Memory
told (answer.BadCode at) = Ok (end.BadCode at)

-- With this input the run of the code comes to a state from which its next step ends it so, with this output.
pub record CodeEnds (code : CodeOf) (l : Limits) (input : List ℕ) (end : CodeEnd) (output : List ℕ) : Type 0 where
  pub steps : ℕ
  pub world : World
  pub state : Machine
  pub last : World
  pub ending : Ending
  pub come : mrun code l input steps ≡ Going world state
  pub ended : mrun code l input (suc steps) ≡ Ended last ending
  pub is : end ≡ end_of ending (next_place state)
  pub writes : output ≡ last.store.written

-- The code was run to its end, and its whole output was written.
pub record Ran (code : CodeOf) (l : Limits) (input : List ℕ) (end : CodeEnd) (old new : Option (List ℕ)) : Type 0 where
  pub output : List ℕ
  pub ends : CodeEnds code l input end output
  pub writes : Appends old new output

-- At no moment has the run taken anything of its input: all of its bytes are left, its end was not met, and the run has not ended at a line
-- that is longer than the image.
abbrev pub TakesNothing : CodeOf → Limits → (input : List ℕ) → Type 0
TakesNothing code l input = (steps : ℕ) → HasAll input (mrun code l input steps)

-- the run of the code comes to an end
abbrev pub HasEnd : CodeOf → Limits → (input : List ℕ) → Type 0
HasEnd code l input = (end : CodeEnd) × (output : List ℕ) × CodeEnds code l input end output

-- the run of the code comes to an end, and what was written begins its output
abbrev pub Begins : CodeOf → Limits → (input : List ℕ) → (old new : Option (List ℕ)) → Type 0
Begins code l input old new = (end : CodeEnd) × (output : List ℕ) × CodeEnds code l input end output × AddsPrefix old new output

-- What was written is all that the run had written before a step that takes something of the input, by the counts of faults of the input
-- before and after.
pub record BeforeARead (faults faults_now : ℕ) (code : CodeOf) (l : Limits) (input : List ℕ) (old new : Option (List ℕ)) : Type 0 where
  pub steps : ℕ
  pub world : World
  pub state : Machine
  pub come : mrun code l input steps ≡ Going world state
  pub writes : Appends old new world.store.written
  pub reads : Reads faults faults_now world (mstep code l world state)

-- What is known of a run that was broken off, with the counts of faults of the input before and after: what was written begins its output; where the
-- input failed, it is all that the run had written before a step that takes something of it.
abbrev pub Broken : (faults faults_now : ℕ) → CodeOf → Limits → (input : List ℕ) → (old new : Option (List ℕ)) → Result CodeEnd CodeFailure → Type 0
Broken faults faults_now code l input old new (Ok end) = ⊤
Broken faults faults_now code l input old new (Err failure.Input) = BeforeARead faults faults_now code l input old new × Begins code l input old new
Broken faults faults_now code l input old new (Err _) = Begins code l input old new

-- It failed by the output where a write failed, after which nothing was written. Else no write failed.
abbrev pub OutputAfter : {S : Type 0} → (S → Option (List ℕ)) → (S → ℕ) → S → S → Result CodeEnd CodeFailure → Type 0
OutputAfter written faults old new (Err failure.Output) = StopsAt written faults old new
OutputAfter written faults old new _ = faults new ≡ faults old

-- It failed by the input where a read failed, and only there.
abbrev pub InputAfter : (old new : ℕ) → Result CodeEnd CodeFailure → Type 0
InputAfter old new (Err failure.Input) = (old ≤ new) × Rose old new
InputAfter old new _ = new ≡ old
