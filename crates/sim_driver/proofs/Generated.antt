-- The run of a generated program, and its answer.
use Rattle.std.proofs.Common.{◌≡◌, ◌⊎◌, ℕ, true, false, List, [], Option, Some, None, sym, ◌∙◌, ap, subst, inl, inr, arith}
use Rattle.std.proofs.KnownBytes.{Appends-nil}
use Rattle.command_line.specs.Generated.{generated_of}
use Rattle.command_line.specs.Options.{default_limits}
use Rattle.command_line.specs.Words.{Request, request_of}
use Rattle.command_line.specs.declared.words.Command.TheVariants.{Run}
use Rattle.command_line.proofs.Disjoint.{no_request}
use Rattle.generated_program.specs.GeneratedProgram.{generated_program}
use Rattle.sim_base.specs.declared.limits.Limits.{Limits}
use Rattle.sim_ports.specs.Faults.{Rose}
use Rattle.sim_driver.specs.Answer.{Answer, Gives, IsAnswer, IsAnswerFor, IsAnswerToGenerate, IsSourceAnswer, RunsGenerated}
use Rattle.sim_driver.specs.Output.{Begins}
use Rattle.sim_driver.specs.Status.{is_answer}
use Rattle.sim_driver.specs.declared.status.Status.{Status}
use Rattle.sim_driver.specs.declared.status.Status.TheVariants.{Memory, WriteFault}

abbrev limits_so : (storage ticks in_length out_length : ℕ) → Limits
limits_so storage ticks in_length out_length = record { storage = storage; ticks = ticks; in_length = in_length; out_length = out_length }

-- limits that are these are those of a run without options
pub are_default : (l : Limits) → l.storage ≡ 4000000 → l.ticks ≡ 1000000000 → l.in_length ≡ 80 → l.out_length ≡ 132 → l ≡ default_limits
are_default l storage ticks in_length out_length =
    ap (λ (n : ℕ). limits_so n l.ticks l.in_length l.out_length) storage
    ∙ ap (λ (n : ℕ). limits_so 4000000 n l.in_length l.out_length) ticks
    ∙ ap (λ (n : ℕ). limits_so 4000000 1000000000 n l.out_length) in_length
    ∙ ap (λ (n : ℕ). limits_so 4000000 1000000000 80 n) out_length

-- what was run with such limits on the text of a generated program ran it
pub ran_text : (processes : ℕ) (l : Limits) (source : List ℕ) (status : Status) (old new : Option (List ℕ)) → l ≡ default_limits → source ≡ generated_program processes
    → (is_answer status ≡ true → (answer : Answer) × IsSourceAnswer Run l source [] answer)
    → ((answer : Answer) → IsSourceAnswer Run l source [] answer → is_answer status ≡ true → Gives answer status old new)
    → ((answer : Answer) → IsSourceAnswer Run l source [] answer → Begins old new answer.output)
    → RunsGenerated processes status old new
ran_text processes l source status old new limits text known gives begins = record {
  known = λ is. let found = known is in (found.0, there found.0 found.1);
  gives = λ answer means is. gives answer (back answer means) is;
  begins = λ answer means. begins answer (back answer means);
}
  where
    there : (answer : Answer) → IsSourceAnswer Run l source [] answer → IsAnswerToGenerate (Some processes) answer
    there answer means = subst (λ (xs : List ℕ). IsSourceAnswer Run default_limits xs [] answer) text (subst (λ (k : Limits). IsSourceAnswer Run k source [] answer) limits means)

    back : (answer : Answer) → IsAnswerToGenerate (Some processes) answer → IsSourceAnswer Run l source [] answer
    back answer means = subst (λ (k : Limits). IsSourceAnswer Run k source [] answer) (sym limits) (subst (λ (xs : List ℕ). IsSourceAnswer Run default_limits xs [] answer) (sym text) means)

-- an input that is no input never failed
pub never_rose : Rose 0 0 → ⊥
never_rose rose = omega (arith, rose)

-- where memory was refused for its text nothing was written
pub no_text : (processes : ℕ) (old : Option (List ℕ)) → RunsGenerated processes Memory old old
no_text processes old = record {
  known = λ is. cc is;
  gives = λ answer means is. cc is;
  begins = λ answer means. inl (Appends-nil old);
}

-- the status that a run of it has at last, by what writing the line made of it
pub ran_so : (processes : ℕ) (status told : Status) (old new : Option (List ℕ)) → (is_answer status ≡ true → status ≡ told) → RunsGenerated processes told old new → RunsGenerated processes status old new
ran_so processes status told old new same ran = record {
  known = λ is. ran.known (sym (ap is_answer (same is)) ∙ is);
  gives = λ answer means is.
      let gave = ran.gives answer means (sym (ap is_answer (same is)) ∙ is) in
      record { ends = same is ∙ gave.ends; writes = gave.writes };
  begins = ran.begins;
}

-- what is an answer after its line was written was one before
pub same_answer : (status told : Status) {rose : Type 0} → is_answer status ≡ true → (status ≡ told) ⊎ ((status ≡ Memory) ⊎ (status ≡ WriteFault) × rose) → status ≡ told
same_answer status told is (inl same) = same
same_answer status told is (inr (inl memory)) = let no : false ≡ true = sym (ap is_answer memory) ∙ is in absurd (cc no)
same_answer status told is (inr (inr fault)) = let no : false ≡ true = sym (ap is_answer fault.0) ∙ is in absurd (cc no)

-- the program that the words ask for is one
pub ran_that : (words : List (List ℕ)) (n processes : ℕ) (status : Status) (old new : Option (List ℕ)) → Some n ≡ generated_of words → generated_of words ≡ Some processes → RunsGenerated n status old new → RunsGenerated processes status old new
ran_that words n processes status old new has asks ran = subst (λ (m : ℕ). RunsGenerated m status old new) (same (has ∙ asks)) ran
  where
    same : Some n ≡ Some processes → n ≡ processes
    same is = cc is

-- who asks for a file asks for no generated program
pub not_both : (words : List (List ℕ)) (request : Request) (processes : ℕ) → Some request ≡ request_of words → generated_of words ≡ Some processes → ⊥
not_both words request processes has asks = different (has ∙ no_request words processes asks)
  where
    different : Some request ≡ None → ⊥
    different is = cc is

-- its answer is that of the words
pub answer_generated : (words : List (List ℕ)) (source given : List ℕ) (generated : Option ℕ) → None ≡ request_of words → generated ≡ generated_of words
    → (answer : Answer) × IsAnswerToGenerate generated answer → (answer : Answer) × IsAnswer words source given answer
answer_generated words source given generated none is (answer, means) =
    (answer, subst (λ (o : Option Request). IsAnswerFor o (generated_of words) source given answer) none (subst (λ (g : Option ℕ). IsAnswerToGenerate g answer) is means))

-- and the reverse
pub to_generated : (words : List (List ℕ)) (source given : List ℕ) (generated : Option ℕ) (answer : Answer) → None ≡ request_of words → generated ≡ generated_of words
    → IsAnswer words source given answer → IsAnswerToGenerate generated answer
to_generated words source given generated answer none is means =
    subst (λ (g : Option ℕ). IsAnswerToGenerate g answer) (sym is) (subst (λ (o : Option Request). IsAnswerFor o (generated_of words) source given answer) (sym none) means)
