-- What `exec` answers, by the bytes of the code file and of the input.
use Rattle.std.specs.Prelude.{◌≡◌, ◌⊎◌, ℕ, List, [], Option, true}
use Rattle.sim_base.specs.declared.limits.Limits.{Limits}
use Rattle.sim_code.specs.Code.{CodeOf}
use Rattle.code_file.specs.declared.rule.CodeRule.{CodeRule}
use Rattle.code_file.specs.Faults.{Breaks}
use Rattle.code_file.specs.Spelling.{Spells}
use Rattle.code_run.specs.CodeEnds.{BeforeARead, CodeEnds}
use Rattle.code_run.specs.declared.running.CodeEnd.{CodeEnd}
use Rattle.code_run.specs.declared.running.CodeEnd.TheVariants as end
use Rattle.sim_driver.specs.Answer.{Answer, Gives}
use Rattle.sim_driver.specs.Output.{Begins, Exactly}
use Rattle.sim_driver.specs.Status.{is_answer}
use Rattle.sim_driver.specs.declared.status.Status.{Status}
use Rattle.sim_driver.specs.declared.status.Status.TheVariants.{Normal, RunFault, StorageExhausted, TickLimit, BadCode, CodeRefused}

-- the status of a run of code that ended so, with the storage budget that it had
abbrev pub status_of_end : Limits → CodeEnd → Status
status_of_end l end.Normal = Normal
status_of_end l (end.RunFault error line) = RunFault error line
status_of_end l (end.StorageExhausted line used wanted) = StorageExhausted line used l.storage wanted
status_of_end l (end.TickLimit ticks) = TickLimit ticks
status_of_end l (end.BadCode at) = BadCode at

-- The run of the code under these limits with this input, by the machine's table, ends so and writes this.
pub record IsRunAnswer (l : Limits) (code : CodeOf) (input : List ℕ) (answer : Answer) : Type 0 where
  pub end : CodeEnd
  pub output : List ℕ
  pub ends : CodeEnds code l input end output
  pub same : answer ≡ record { status = status_of_end l end; output = Exactly output }

-- the file is a code file, and this is the answer of the run of its code
pub record IsCodeRun (l : Limits) (file input : List ℕ) (answer : Answer) : Type 0 where
  pub code : CodeOf
  pub spells : Spells file code
  pub runs : IsRunAnswer l code input answer

-- the file is none, and this is what is wrong with it
pub record IsRefusedCode (file : List ℕ) (answer : Answer) : Type 0 where
  pub rule : CodeRule
  pub place : ℕ
  pub breaks : Breaks file rule place
  pub same : answer ≡ record { status = CodeRefused rule place; output = Exactly [] }

abbrev pub IsCodeAnswer : Limits → (file input : List ℕ) → Answer → Type 0
IsCodeAnswer l file input answer = IsRefusedCode file answer ⊎ IsCodeRun l file input answer

-- there is an answer, and no other
pub record HasOneAnswer (l : Limits) (file input : List ℕ) : Type 0 where
  pub answer : Answer
  pub means : IsCodeAnswer l file input answer
  pub only : (other : Answer) → IsCodeAnswer l file input other → other ≡ answer

-- There is an answer, and no other. A status that is no fault of the outside and not want of memory is its status, with its whole output. Whatever the
-- status is, what was written begins that output.
pub record IsAnswered (l : Limits) (file input : List ℕ) (status : Status) (old new : Option (List ℕ)) : Type 0 where
  pub one : HasOneAnswer l file input
  pub gives : is_answer status ≡ true → Gives one.answer status old new
  pub begins : Begins old new one.answer.output

-- The file is a code file, and what was written is all that the run of its code had written before a step that takes something of the input, by the
-- counts of faults of the input before and after.
pub record IsCodeCutOff (faults now : ℕ) (l : Limits) (file input : List ℕ) (old new : Option (List ℕ)) : Type 0 where
  pub code : CodeOf
  pub spells : Spells file code
  pub cut : BeforeARead faults now code l input old new
