-- What the words of a request say.
use Rattle.std.proofs.Common.{◌≡◌, ℕ, List, Option, Some, sym, subst}
use Rattle.std.specs.Prelude.{MatchOption, ⊤}
use Rattle.std.specs.Option.{option_map}
use Rattle.command_line.specs.Generated.{generated_of}
use Rattle.command_line.specs.Words.{Request, request_of}
use Rattle.command_line.specs.declared.words.Command.TheVariants.{Run}
use Rattle.sim_base.specs.declared.limits.Limits.{Limits}
use Rattle.sim_driver.specs.Answer.{Answer, IsAnswer, IsAnswerFor, IsSourceAnswer}
use Rattle.sim_driver.specs.SourceMeaning.{IsCutOff}
use Rattle.sim_driver.specs.Words.{AsksRunWith, TellsFile, WasCutOff}

-- the file that a request names tells what the words name
pub tells_file : (content : List ℕ → Option (List ℕ)) (words : List (List ℕ)) (source : List ℕ) (request : Request) → Some request ≡ request_of words → TellsFile content words source → content request.file ≡ Some source
tells_file content words source request is tells = subst (λ (o : Option Request). MatchOption (option_map (λ r. r.file) o) ⊤ (λ file. content file ≡ Some source)) (sym is) tells

-- an answer to a request is one to the words
pub answer_of : (words : List (List ℕ)) (source given : List ℕ) (request : Request) → Some request ≡ request_of words
    → (answer : Answer) × IsSourceAnswer request.command request.limits source given answer → (answer : Answer) × IsAnswer words source given answer
answer_of words source given request is (answer, means) = (answer, subst (λ (o : Option Request). IsAnswerFor o (generated_of words) source given answer) is means)

-- a request was cut off as the words say
pub cut_of : (faults now : ℕ) (words : List (List ℕ)) (source given : List ℕ) (request : Request) (old new : Option (List ℕ)) → Some request ≡ request_of words → IsCutOff faults now request.command request.limits source given old new → WasCutOff faults now words source given old new
cut_of faults now words source given request old new is cut = subst (λ (o : Option Request). MatchOption o ⊥ (λ r. IsCutOff faults now r.command r.limits source given old new)) is cut

-- the limits that the words ask for are those of the request
pub limits_of_request : (words : List (List ℕ)) (l : Limits) (request : Request) → Some request ≡ request_of words → AsksRunWith words l → request.limits ≡ l
limits_of_request words l request is asks = (subst (λ (o : Option Request). MatchOption o ⊥ (λ r. (r.command ≡ Run) × (r.limits ≡ l))) (sym is) asks).1
