-- The answer to a request about a source, by what the source means.
use Rattle.std.proofs.Common.{inr, ◌≡◌, ℕ, List, Option, refl, sym, ◌∙◌, ap, subst}
use Rattle.sim_base.specs.declared.limits.Limits.{Limits}
use Rattle.sim_driver.specs.Answer.{Answer, Gives, IsSourceAnswer, meant}
use Rattle.sim_driver.specs.Output.{Begins, Writes}
use Rattle.sim_driver.specs.SourceMeaning.{Meaning, SourceMeans}
use Rattle.sim_driver.specs.Status.{status_of}
use Rattle.sim_driver.specs.declared.status.Ending.{Ending}
use Rattle.sim_driver.specs.declared.status.Status.{Status}
use Rattle.command_line.specs.declared.words.Command.{Command}
use Rattle.sim_driver.proofs.Prefixes.{AddsPrefix-whole}

-- what means something has an answer
pub answered : (command : Command) (l : Limits) (source input : List ℕ) → (meaning : Meaning) × SourceMeans command l source input meaning → (answer : Answer) × IsSourceAnswer command l source input answer
answered command l source input (meaning, means) = (meant meaning, record { meaning = meaning; means = means; same = refl })

-- what ended and wrote as each meaning says gave the answer
pub given : (command : Command) (l : Limits) (source input : List ℕ) (ending : Ending) (status : Status) (old new : Option (List ℕ)) (answer : Answer) → status ≡ status_of ending
    → ((meaning : Meaning) → SourceMeans command l source input meaning → (ending ≡ meaning.ending) × Writes old new meaning.output)
    → IsSourceAnswer command l source input answer → Gives answer status old new
given command l source input ending status old new answer is does means =
    let done = does means.meaning means.means in
    record {
      ends = is ∙ ap status_of done.0 ∙ sym (ap (λ (a : Answer). a.status) means.same);
      writes = subst (λ (a : Answer). Writes old new a.output) (sym means.same) done.1;
    }

-- what begins the output of each meaning begins that of the answer
pub begun : (command : Command) (l : Limits) (source input : List ℕ) (old new : Option (List ℕ)) (answer : Answer)
    → ((meaning : Meaning) → SourceMeans command l source input meaning → Begins old new meaning.output)
    → IsSourceAnswer command l source input answer → Begins old new answer.output
begun command l source input old new answer part means =
    subst (λ (a : Answer). Begins old new a.output) (sym means.same) (part means.meaning means.means)

-- what was written whole begins itself
pub begun_whole : (command : Command) (l : Limits) (source input : List ℕ) (ending : Ending) (old new : Option (List ℕ)) (answer : Answer)
    → ((meaning : Meaning) → SourceMeans command l source input meaning → (ending ≡ meaning.ending) × Writes old new meaning.output)
    → IsSourceAnswer command l source input answer → Begins old new answer.output
begun_whole command l source input ending old new answer does means =
    begun command l source input old new answer (λ meaning is. let whole = (does meaning is).1 in inr (whole.0, whole.1, AddsPrefix-whole old new whole.0 whole.2)) means
