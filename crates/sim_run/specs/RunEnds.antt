-- How the run of a program ends, and what it has written then.
use Rattle.std.specs.Prelude.{◌≡◌, ◌≤◌, ℕ, List, Option, Some, None, Result, Ok, Err, ⊤}
use Rattle.std.specs.Io.KnownBytes.{Appends}
use Rattle.sim_base.specs.declared.limits.Limits.{Limits}
use Rattle.sim_code.specs.Code.{CodeOf}
use Rattle.sim_code.specs.Outcome.{Ended, Ending, Going, Normal, NoRule, RunFault, StorageExhausted, TickLimit, World}
use Rattle.sim_code.specs.Rows.{mrun, opening}
use Rattle.sim_meaning.specs.Meaning.{run, step}
use Rattle.sim_meaning.specs.Pending.{Configuration}
use Rattle.sim_meaning.specs.Sane.{NamesObjects, StaysSane}
use Rattle.sim_ports.specs.Bytes.{AddsPrefix}
use Rattle.sim_ports.specs.Faults.{Rose, StopsAt}
use Rattle.sim_scope.specs.Source.{Source}
use Rattle.codegen.specs.BuiltProgram.{ProgramBuilt}
use Rattle.standard_calls.specs.Taking.{HasAll}
use Rattle.object_machine.specs.Running.{WasBroken, WasCut}
use Rattle.object_machine.specs.Taking.{Reads}
use Rattle.sim_run.specs.declared.running.RunEnd.{RunEnd}
use Rattle.sim_run.specs.declared.running.RunEnd.TheVariants as end
use Rattle.sim_run.specs.declared.running.RunFailure.{RunFailure}
use Rattle.sim_run.specs.declared.running.RunFailure.TheVariants as failure

-- The program is built, and no run of it comes to where its meaning has no rule. At each moment of a run a reference that was taken last into
-- a hand names an object, and the instance that operates lives with its enclosers, and stands at no other place of the chains.
pub record IsRunnable (s : Source) : Type 0 where
  pub built : ProgramBuilt s
  pub ruled : (l : Limits) (input : List ℕ) (steps : ℕ) (world : World) → run s l input steps ≡ Ended world NoRule → ⊥
  pub names_objects : NamesObjects s
  pub stays_sane : StaysSane s

-- the end of a run, by how its meaning ends
abbrev pub end_of : Ending → Option RunEnd
end_of Normal = Some end.Normal
end_of (RunFault error line) = Some (end.RunFault error (record { 0 = line }))
end_of (StorageExhausted line used wanted) = Some (end.StorageExhausted (record { 0 = line }) used wanted)
end_of (TickLimit ticks) = Some (end.TickLimit ticks)
end_of NoRule = None

-- With this input the meaning's run has ended so after some steps, with this output.
pub record MeaningEnds (s : Source) (l : Limits) (input : List ℕ) (ending : Ending) (output : List ℕ) : Type 0 where
  pub steps : ℕ
  pub world : World
  pub ends : run s l input steps ≡ Ended world ending
  pub writes : output ≡ world.store.written

-- the run of a program ends so, with this output
pub record RunEnds (s : Source) (l : Limits) (input : List ℕ) (end : RunEnd) (output : List ℕ) : Type 0 where
  pub ending : Ending
  pub is : end_of ending ≡ Some end
  pub ends : MeaningEnds s l input ending output

-- the run comes to an end
abbrev pub HasEnd : Source → Limits → (input : List ℕ) → Type 0
HasEnd s l input = (end : RunEnd) × (output : List ℕ) × RunEnds s l input end output

-- The program was run to its end, and its whole output was written.
pub record Ran (s : Source) (l : Limits) (input : List ℕ) (end : RunEnd) (old new : Option (List ℕ)) : Type 0 where
  pub output : List ℕ
  pub ends : RunEnds s l input end output
  pub writes : Appends old new output

-- The same of code, by the machine's table.
pub record CodeRan (code : CodeOf) (l : Limits) (input : List ℕ) (end : RunEnd) (old new : Option (List ℕ)) : Type 0 where
  pub steps : ℕ
  pub world : World
  pub ending : Ending
  pub is : end_of ending ≡ Some end
  pub ends : mrun code l input steps ≡ Ended world ending
  pub writes : Appends old new world.store.written

-- At no moment has the run taken anything of its input: all of its bytes are left, its end was not met, and the run has not ended at a
-- line that is longer than the image.
abbrev pub TakesNothing : Source → Limits → (input : List ℕ) → Type 0
TakesNothing s l input = (steps : ℕ) → HasAll input (run s l input steps)

-- no run of the code comes to where the machine has no rule
abbrev pub IsRuled : CodeOf → Limits → Type 0
IsRuled code l = (input : List ℕ) (steps : ℕ) (world : World) → mrun code l input steps ≡ Ended world NoRule → ⊥

-- what was written begins the output of the run, if it ends
abbrev pub Begins : Source → Limits → (input : List ℕ) → (old new : Option (List ℕ)) → Type 0
Begins s l input old new = (end : RunEnd) (output : List ℕ) → RunEnds s l input end output → AddsPrefix old new output

-- What was written is all that the run had written before a step that takes something of the input, by the counts of faults of the input
-- before and after.
pub record BeforeARead (faults faults_now : ℕ) (s : Source) (l : Limits) (input : List ℕ) (old new : Option (List ℕ)) : Type 0 where
  pub steps : ℕ
  pub world : World
  pub state : Configuration
  pub come : run s l input steps ≡ Going world state
  pub writes : Appends old new world.store.written
  pub reads : Reads faults faults_now world (step s l world state)

-- What is known of a run that was broken off, with the counts of faults of the input before and after: where the input failed, all is written
-- that the run had written before a step that takes something of it; else what was written begins its output.
abbrev pub Broken : {A : Type 0} → (faults faults_now : ℕ) → Source → Limits → (input : List ℕ) → (old new : Option (List ℕ)) → Result A RunFailure → Type 0
Broken faults faults_now s l input old new (Ok ran) = ⊤
Broken faults faults_now s l input old new (Err failure.Input) = BeforeARead faults faults_now s l input old new × Begins s l input old new
Broken faults faults_now s l input old new (Err _) = Begins s l input old new

-- the same of the run of its code
abbrev pub CodeBroken : (faults faults_now : ℕ) → CodeOf → Limits → (input : List ℕ) → (old new : Option (List ℕ)) → Result RunEnd RunFailure → Type 0
CodeBroken faults faults_now code l input old new (Ok end) = ⊤
CodeBroken faults faults_now code l input old new (Err failure.Input) = WasCut faults faults_now code l (opening code l input) old new
CodeBroken faults faults_now code l input old new (Err _) = WasBroken code l (opening code l input) old new

-- It failed by the output where a write failed, after which nothing was written. Else no write failed.
abbrev pub OutputAfter : {S A : Type 0} → (S → Option (List ℕ)) → (S → ℕ) → S → S → Result A RunFailure → Type 0
OutputAfter written faults old new (Err failure.Output) = StopsAt written faults old new
OutputAfter written faults old new _ = faults new ≡ faults old

-- It failed by the input where a read failed, and only there.
abbrev pub InputAfter : {A : Type 0} → (old new : ℕ) → Result A RunFailure → Type 0
InputAfter old new (Err failure.Input) = (old ≤ new) × Rose old new
InputAfter old new _ = new ≡ old
