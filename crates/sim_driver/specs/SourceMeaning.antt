-- What a source means: how it ends, and what it writes.
use Rattle.std.specs.Prelude.{◌≡◌, ℕ, List, [], Option, Result, Ok, Err}
use Rattle.sim_base.specs.declared.limits.Limits.{Limits}
use Rattle.sim_run.specs.declared.running.RunEnd.{RunEnd}
use Rattle.sim_run.specs.declared.running.RunEnd.TheVariants as end
use Rattle.sim_code.specs.Code.{CodeOf}
use Rattle.codegen.specs.Compiled.{Compiled as StandsFor}
use Rattle.sim_relate.specs.SameRuns.{SameRuns}
use Rattle.sim_run.specs.RunEnds.{BeforeARead, CodeRan, RunEnds}
use Rattle.sim_scope.specs.Source.{Source}
use Rattle.sim_driver.specs.Compiling.{BoundCompiles, Coded, Compiled, Listed, Printed, Rejected, Runnable, SourceCompiles, Sound}
use Rattle.sim_driver.specs.Output.{Begins, Exactly, Output, SomeCodeFile, SomeListing, Writes}
use Rattle.sim_driver.specs.declared.status.Ending.{Ending}
use Rattle.sim_driver.specs.declared.status.Ending.TheVariants.{Normal, Refused, RunFault, StorageExhausted, TickLimit}
use Rattle.command_line.specs.declared.words.Command.{Command}
use Rattle.command_line.specs.declared.words.Command.TheVariants.{Run}

-- how a source ends, and what it writes
pub record Meaning : Type 0 where
  pub ending : Ending
  pub output : Output

-- how a run ends, with the storage budget that it had
abbrev pub ending_of : Limits → RunEnd → Ending
ending_of l end.Normal = Normal
ending_of l (end.RunFault error line) = RunFault error line
ending_of l (end.StorageExhausted line used wanted) = StorageExhausted line used l.storage wanted
ending_of l (end.TickLimit ticks) = TickLimit ticks

-- the run of a program under these limits with this input, by its quasi-parallel meaning
pub record RunMeans (l : Limits) (s : Source) (input : List ℕ) (meaning : Meaning) : Type 0 where
  pub end : RunEnd
  pub output : List ℕ
  pub ends : RunEnds s l input end output
  pub same : meaning ≡ record { ending = ending_of l end; output = Exactly output }

-- Code that stands for the program, and shows what that shows, was run to its end by the machine's table, and its whole output was written.
pub record RanCode (l : Limits) (s : Source) (input : List ℕ) (ending : Ending) (old new : Option (List ℕ)) : Type 0 where
  pub code : CodeOf
  pub stands : StandsFor s code
  pub shows : SameRuns s code
  pub end : RunEnd
  pub ran : CodeRan code l input end old new
  pub same : ending ≡ ending_of l end

-- The meaning of what a command makes of a source. One that is checked runs nothing. Of one that is printed, or whose cross references are asked
-- for, the text is written, and of a program that is compiled or listed what is said of its code.
abbrev pub Means : Limits → (input : List ℕ) → Compiled → Meaning → Type 0
Means l input (Rejected rule line) meaning = meaning ≡ record { ending = Refused rule line; output = Exactly [] }
Means l input Sound meaning = meaning ≡ record { ending = Normal; output = Exactly [] }
Means l input (Printed text) meaning = meaning ≡ record { ending = Normal; output = Exactly text }
Means l input (Coded s) meaning = meaning ≡ record { ending = Normal; output = SomeCodeFile s }
Means l input (Listed s) meaning = meaning ≡ record { ending = Normal; output = SomeListing s }
Means l input (Runnable s) meaning = RunMeans l s input meaning

-- what a source means to a command under these limits, where the input holds these bytes
pub record SourceMeans (command : Command) (l : Limits) (source input : List ℕ) (meaning : Meaning) : Type 0 where
  pub compiled : Compiled
  pub compiles : SourceCompiles command source compiled
  pub means : Means l input compiled meaning

-- what a program that breaks no rule means to a command under these limits
pub record BoundMeans (command : Command) (l : Limits) (s : Source) (input : List ℕ) (meaning : Meaning) : Type 0 where
  pub compiled : Compiled
  pub compiles : BoundCompiles command s compiled
  pub means : Means l input compiled meaning

-- It ended as the meaning says, with the whole output. Where it failed, what was written begins the output.
abbrev pub Does : {E : Type 0} → Meaning → Option (List ℕ) → Option (List ℕ) → Result Ending E → Type 0
Does meaning old new (Ok ending) = (ending ≡ meaning.ending) × Writes old new meaning.output
Does meaning old new (Err failure) = Begins old new meaning.output

-- The command is `run`, and what was written is all that the run of the source's program under these limits had written before a step that
-- takes something of the input, by the counts of faults of the input before and after.
abbrev pub IsCutOff : (faults now : ℕ) → Command → Limits → (source input : List ℕ) → (old new : Option (List ℕ)) → Type 0
IsCutOff faults now command l source input old new = (command ≡ Run) × (s : Source) × SourceCompiles Run source (Runnable s) × BeforeARead faults now s l input old new
