-- What a command answers, by its words and the bytes of the file and of the input.
use Rattle.std.specs.Prelude.{◌≡◌, ℕ, List, [], Option, Some, None, true}
use Rattle.command_line.specs.Generated.{generated_of}
use Rattle.command_line.specs.Options.{default_limits}
use Rattle.command_line.specs.Words.{Request, request_of}
use Rattle.generated_program.specs.GeneratedProgram.{generated_program}
use Rattle.sim_base.specs.declared.limits.Limits.{Limits}
use Rattle.sim_driver.specs.Output.{Begins, Exactly, Output, Writes}
use Rattle.sim_driver.specs.SourceMeaning.{Meaning, SourceMeans}
use Rattle.sim_driver.specs.Status.{is_answer, status_of}
use Rattle.command_line.specs.declared.words.Command.{Command}
use Rattle.command_line.specs.declared.words.Command.TheVariants.{Run}
use Rattle.sim_driver.specs.declared.status.Status.{Status}
use Rattle.sim_driver.specs.declared.status.Status.TheVariants.{Usage}

-- how a command ends, and what it writes to the output
pub record Answer : Type 0 where
  pub status : Status
  pub output : Output

-- the answer of a source
abbrev pub meant : Meaning → Answer
meant meaning = record { status = status_of meaning.ending; output = meaning.output }

-- the answer of a command under these limits, by what the source of the named file means to it
pub record IsSourceAnswer (command : Command) (l : Limits) (source input : List ℕ) (answer : Answer) : Type 0 where
  pub meaning : Meaning
  pub means : SourceMeans command l source input meaning
  pub same : answer ≡ meant meaning

-- The answer of `gen` is that of a run of the generated program with no options and no input. Words that are no command are answered so.
abbrev pub IsAnswerToGenerate : Option ℕ → Answer → Type 0
IsAnswerToGenerate None answer = answer ≡ record { status = Usage; output = Exactly [] }
IsAnswerToGenerate (Some processes) answer = IsSourceAnswer Run default_limits (generated_program processes) [] answer

-- the answer to a request about a file, and where there is none to what else the words are
abbrev pub IsAnswerFor : Option Request → (generated : Option ℕ) → (source input : List ℕ) → Answer → Type 0
IsAnswerFor None generated source input answer = IsAnswerToGenerate generated answer
IsAnswerFor (Some request) generated source input answer = IsSourceAnswer request.command request.limits source input answer

-- the answer to the words, where the file that they name, if they name one, holds this source, and the input these bytes
abbrev pub IsAnswer : List (List ℕ) → (source input : List ℕ) → Answer → Type 0
IsAnswer words source input answer = IsAnswerFor (request_of words) (generated_of words) source input answer

-- the command ended as the answer says, with the whole output
pub record Gives (answer : Answer) (status : Status) (old new : Option (List ℕ)) : Type 0 where
  pub ends : status ≡ answer.status
  pub writes : Writes old new answer.output

-- `gen` asks nothing of files and of the input: whatever they are, its status is an answer only as the run of the generated program ends, with
-- its whole output, and what it wrote begins that output.
pub record RunsGenerated (processes : ℕ) (status : Status) (old new : Option (List ℕ)) : Type 0 where
  pub known : is_answer status ≡ true → (answer : Answer) × IsAnswerToGenerate (Some processes) answer
  pub gives : (answer : Answer) → IsAnswerToGenerate (Some processes) answer → is_answer status ≡ true → Gives answer status old new
  pub begins : (answer : Answer) → IsAnswerToGenerate (Some processes) answer → Begins old new answer.output
