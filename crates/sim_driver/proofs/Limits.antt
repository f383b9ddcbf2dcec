-- A source that was read up to the limit is compiled to what the whole one is.
use Rattle.std.proofs.Common.{◌≡◌, ◌<◌, ℕ, List, Option, length, take, refl, sym, ◌∙◌, ap, inl, inr, subst, arith, lit≤, length-take}
use Rattle.std.proofs.lemmas.Bool.{cases_lt}
use Rattle.std.proofs.lemmas.List.{take_all, take-take}
use Rattle.sim_base.specs.Place.{line_at}
use Rattle.sim_base.specs.declared.limits.Limits.{Limits}
use Rattle.sim_base.specs.declared.numbering.Line.{Line}
use Rattle.sim_base.specs.declared.rule.Rule.{Rule}
use Rattle.sim_base.specs.declared.rule.Rule.TheVariants.{SourceTooLong}
use Rattle.sim_lexer.specs.Spelling.{Lexed, Broken, Reads, too_long, reads}
use Rattle.sim_scope.specs.Source.{Source}
use Rattle.sim_driver.specs.Answer.{Answer, IsSourceAnswer}
use Rattle.sim_driver.specs.Compiling.{Compiled, LexedCompiles, Rejected, Runnable, SourceCompiles}
use Rattle.sim_driver.specs.SourceMeaning.{IsCutOff, Meaning, SourceMeans}
use Rattle.command_line.specs.declared.words.Command.{Command}
use Rattle.command_line.specs.declared.words.Command.TheVariants.{Run}

-- what is too long reads as that alone
only_too_long : (source : List ℕ) (lexed : Lexed) → 1048576 < length source → Reads source lexed → lexed ≡ Broken SourceTooLong 1048576
only_too_long source _ long (too_long also) = refl
only_too_long source _ long (reads short spells) = absurd (omega arith)

-- what is too long is rejected
abbrev too_long_compiled : List ℕ → Compiled
too_long_compiled source = Rejected SourceTooLong (record { 0 = line_at source 1048576 })

is_too_long : (command : Command) (source : List ℕ) (compiled : Compiled) → 1048576 < length source → SourceCompiles command source compiled → compiled ≡ too_long_compiled source
is_too_long command source compiled long is =
    let reads_so = only_too_long source is.lexed long is.reads in
    let Goal : Lexed → Type 0 = λ lexed. LexedCompiles command source lexed compiled in
    subst Goal reads_so is.compiles

compiles_too_long : (command : Command) (source : List ℕ) (compiled : Compiled) → 1048576 < length source → compiled ≡ too_long_compiled source → SourceCompiles command source compiled
compiles_too_long command source compiled long is = record { lexed = Broken SourceTooLong 1048576; reads = too_long long; compiles = is }

same_line : (source : List ℕ) → line_at (take 1048577 source) 1048576 ≡ line_at source 1048576
unfolding line_at
same_line source = rw (take-take 1048576 1048577 source (lit≤ tt)) refl

same_compiled : (source : List ℕ) → too_long_compiled (take 1048577 source) ≡ too_long_compiled source
same_compiled source = ap (λ line. Rejected SourceTooLong (record { 0 = line })) (same_line source)

long_too : (source : List ℕ) → 1048576 < length source → 1048576 < length (take 1048577 source)
long_too source long = omega (arith, length-take 1048577 source)

pub from_limited : (command : Command) (source : List ℕ) (compiled : Compiled) → SourceCompiles command (take 1048577 source) compiled → SourceCompiles command source compiled
from_limited command source compiled is =
    elim (cases_lt 1048576 (length source)) [
      | inl long ↦ compiles_too_long command source compiled long (is_too_long command (take 1048577 source) compiled (long_too source long) is ∙ same_compiled source)
      | inr short ↦ subst (λ bytes. SourceCompiles command bytes compiled) (take_all 1048577 source (omega arith)) is
    ]

pub to_limited : (command : Command) (source : List ℕ) (compiled : Compiled) → SourceCompiles command source compiled → SourceCompiles command (take 1048577 source) compiled
to_limited command source compiled is =
    elim (cases_lt 1048576 (length source)) [
      | inl long ↦ compiles_too_long command (take 1048577 source) compiled (long_too source long) (is_too_long command source compiled long is ∙ sym (same_compiled source))
      | inr short ↦ subst (λ bytes. SourceCompiles command bytes compiled) (sym (take_all 1048577 source (omega arith))) is
    ]

means_from : (command : Command) (l : Limits) (source bytes input : List ℕ) (meaning : Meaning) → bytes ≡ take 1048577 source → SourceMeans command l bytes input meaning → SourceMeans command l source input meaning
means_from command l source bytes input meaning same is =
    record { compiled = is.compiled; compiles = from_limited command source is.compiled (subst (λ b. SourceCompiles command b is.compiled) same is.compiles); means = is.means }

means_to : (command : Command) (l : Limits) (source bytes input : List ℕ) (meaning : Meaning) → bytes ≡ take 1048577 source → SourceMeans command l source input meaning → SourceMeans command l bytes input meaning
means_to command l source bytes input meaning same is =
    record { compiled = is.compiled; compiles = subst (λ b. SourceCompiles command b is.compiled) (sym same) (to_limited command source is.compiled is.compiles); means = is.means }

-- an answer of the bytes that were read is one of the source
pub answer_from : (command : Command) (l : Limits) (source bytes input : List ℕ) → bytes ≡ take 1048577 source → (answer : Answer) × IsSourceAnswer command l bytes input answer
    → (answer : Answer) × IsSourceAnswer command l source input answer
answer_from command l source bytes input same (answer, is) = (answer, record { meaning = is.meaning; means = means_from command l source bytes input is.meaning same is.means; same = is.same })

-- an answer of the source is one of the bytes that were read
pub answer_to : (command : Command) (l : Limits) (source bytes input : List ℕ) (answer : Answer) → bytes ≡ take 1048577 source → IsSourceAnswer command l source input answer → IsSourceAnswer command l bytes input answer
answer_to command l source bytes input answer same is = record { meaning = is.meaning; means = means_to command l source bytes input is.meaning same is.means; same = is.same }

-- the same of a run that was cut off
pub cut_from : (faults now : ℕ) (command : Command) (l : Limits) (source bytes input : List ℕ) (old new : Option (List ℕ)) → bytes ≡ take 1048577 source → IsCutOff faults now command l bytes input old new → IsCutOff faults now command l source input old new
cut_from faults now command l source bytes input old new same (asked, s, compiles, at) = (asked, s, from_limited Run source (Runnable s) (subst (λ b. SourceCompiles Run b (Runnable s)) same compiles), at)

-- and of one that is rejected
pub rejected_to : (source bytes : List ℕ) (rule : Rule) (line : Line) → bytes ≡ take 1048577 source → SourceCompiles Run source (Rejected rule line) → SourceCompiles Run bytes (Rejected rule line)
rejected_to source bytes rule line same is = subst (λ b. SourceCompiles Run b (Rejected rule line)) (sym same) (to_limited Run source (Rejected rule line) is)

-- and of one whose program can be run
pub runnable_to : (source bytes : List ℕ) (s : Source) → bytes ≡ take 1048577 source → SourceCompiles Run source (Runnable s) → SourceCompiles Run bytes (Runnable s)
runnable_to source bytes s same is = subst (λ b. SourceCompiles Run b (Runnable s)) (sym same) (to_limited Run source (Runnable s) is)
