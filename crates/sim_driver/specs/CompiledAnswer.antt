-- That the code of a program is answered as the program.
use Rattle.std.specs.Prelude.{◌≡◌, ◌≤◌, ℕ, List, Option, length}
use Rattle.std.specs.Io.KnownBytes.{Appends}
use Rattle.command_line.specs.declared.words.Command.TheVariants.{Run}
use Rattle.code_file.specs.Listing.{listing_of}
use Rattle.code_file.specs.Spelling.{largest, spelling}
use Rattle.sim_base.specs.declared.limits.Limits.{Limits}
use Rattle.sim_code.specs.Code.{CodeOf}
use Rattle.sim_scope.specs.Source.{Source}
use Rattle.sim_driver.specs.Answer.{Answer, IsSourceAnswer, meant}
use Rattle.sim_driver.specs.CodeAnswer.{IsCodeAnswer, IsRunAnswer}
use Rattle.sim_driver.specs.Compiling.{Same}
use Rattle.sim_driver.specs.SourceMeaning.{Meaning, RunMeans}

-- how the run of the program under these limits with this input ends, and what it writes
pub record IsProgramAnswer (l : Limits) (s : Source) (input : List ℕ) (answer : Answer) : Type 0 where
  pub meaning : Meaning
  pub means : RunMeans l s input meaning
  pub same : answer ≡ meant meaning

-- whatever the limits and the input are, the run of the code has the answer of the program's run, and no other
abbrev pub AnswersAs : CodeOf → Source → Type 0
AnswersAs code s = (l : Limits) (input : List ℕ) (answer : Answer) → Same (IsRunAnswer l code input answer) (IsProgramAnswer l s input answer)

-- two codes have the same answers
abbrev pub AnswerAlike : CodeOf → CodeOf → Type 0
AnswerAlike code other = (l : Limits) (input : List ℕ) (answer : Answer) → Same (IsRunAnswer l code input answer) (IsRunAnswer l other input answer)

-- it has the answer of `run` of the source, and no other
abbrev pub RunsAs : CodeOf → (source : List ℕ) → Type 0
RunsAs code source = (l : Limits) (input : List ℕ) (answer : Answer) → Same (IsRunAnswer l code input answer) (IsSourceAnswer Run l source input answer)

-- whatever the limits and the input are, `exec` of the file has the answer of `run` of the source, and no other
abbrev pub ExecutesAs : (file source : List ℕ) → Type 0
ExecutesAs file source = (l : Limits) (input : List ℕ) (answer : Answer) → Same (IsCodeAnswer l file input answer) (IsSourceAnswer Run l source input answer)

-- The spelling of code was written that runs as the source. It is executed so, where it is no longer than a code file may be.
pub record WroteExecutable (source : List ℕ) (old new : Option (List ℕ)) : Type 0 where
  pub code : CodeOf
  pub writes : Appends old new (spelling code)
  pub runs : RunsAs code source
  pub executes : length (spelling code) ≤ largest → ExecutesAs (spelling code) source

-- the listing of such code was written
pub record WroteListing (source : List ℕ) (old new : Option (List ℕ)) : Type 0 where
  pub code : CodeOf
  pub writes : Appends old new (listing_of code)
  pub runs : RunsAs code source
