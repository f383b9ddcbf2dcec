-- What the words of the command line ask for, and what is answered: `exec` with the code in a file, and every other command.
use Rattle.std.specs.Prelude.{◌≡◌, ℕ, List, Option, Some, None, MatchOption}
use Rattle.command_line.specs.Executed.{CodeRequest, code_request_of}
use Rattle.command_line.specs.Words.{request_of}
use Rattle.command_line.specs.declared.words.Command.{Command}
use Rattle.sim_base.specs.declared.limits.Limits.{Limits}
use Rattle.sim_driver.specs.Answer.{Answer, IsAnswer}
use Rattle.sim_driver.specs.CodeAnswer.{IsCodeAnswer, IsCodeCutOff}
use Rattle.sim_driver.specs.Words.{AsksRun, AsksRunWith, IsNoCommand, RunsNothing, TellsFile, WasCutOff, file_of}

abbrev pub named_by : Option CodeRequest → Option (List ℕ) → Option (List ℕ)
named_by None file = file
named_by (Some request) file = Some request.file

-- FILE, and none where the words are no command or name no file
abbrev pub named_file : List (List ℕ) → Option (List ℕ)
named_file words = named_by (code_request_of words) (file_of words)

-- how many bytes a source and a code file have at most
abbrev pub limit_by : Option CodeRequest → ℕ
limit_by None = 1048576
limit_by (Some request) = 1073741824

-- how many bytes the file has at most
abbrev pub limit_of_file : List (List ℕ) → ℕ
limit_of_file words = limit_by (code_request_of words)

-- the words are no command
abbrev pub AreNoCommand : List (List ℕ) → Type 0
AreNoCommand words = (code_request_of words ≡ None) × IsNoCommand words

-- they ask for no run of code
abbrev pub AskForNoCode : List (List ℕ) → Type 0
AskForNoCode words = code_request_of words ≡ None

-- the words ask for a run under these limits of the source in a file
abbrev pub AskSourceRunWith : List (List ℕ) → Limits → Type 0
AskSourceRunWith words l = MatchOption (code_request_of words) (AsksRunWith words l) (λ request. ⊥)

-- the words ask for a run under these limits of the code in a file
abbrev pub AskCodeRunWith : List (List ℕ) → Limits → Type 0
AskCodeRunWith words l = MatchOption (code_request_of words) ⊥ (λ request. request.limits ≡ l)

-- the words ask for a run of the source or of the code in a file
abbrev pub AskRun : List (List ℕ) → Type 0
AskRun words = MatchOption (code_request_of words) (AsksRun words) (λ request. Unit {0})

-- the words ask for what this command makes of the source in a file
abbrev pub AskTo : Command → List (List ℕ) → Type 0
AskTo command words = MatchOption (code_request_of words) (MatchOption (request_of words) ⊥ (λ request. request.command ≡ command)) (λ request. ⊥)

-- the words ask for nothing that is run
abbrev pub RunNothing : List (List ℕ) → Type 0
RunNothing words = (code_request_of words ≡ None) × RunsNothing words

-- the file that the words name, if they name one, holds these bytes
abbrev pub TellsNamed : (List ℕ → Option (List ℕ)) → List (List ℕ) → List ℕ → Type 0
TellsNamed content words file = MatchOption (code_request_of words) (TellsFile content words file) (λ request. content request.file ≡ Some file)

-- the answer to the words, where the file that they name, if they name one, holds these bytes, and the input these
abbrev pub IsAnswerTo : List (List ℕ) → (file input : List ℕ) → Answer → Type 0
IsAnswerTo words file input answer = MatchOption (code_request_of words) (IsAnswer words file input answer) (λ request. IsCodeAnswer request.limits file input answer)

-- The words ask for a run, and what was written is all that it had written before a step that takes something of the input, under the limits
-- that they ask for.
abbrev pub RunWasCutOff : (faults now : ℕ) → List (List ℕ) → (file input : List ℕ) → (old new : Option (List ℕ)) → Type 0
RunWasCutOff faults now words file input old new =
    MatchOption (code_request_of words) (WasCutOff faults now words file input old new) (λ request. IsCodeCutOff faults now request.limits file input old new)
