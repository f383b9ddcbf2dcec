-- The answer of a run of code, and of a code file.
use Rattle.std.proofs.Common.{◌≡◌, ◌∙◌, ◌⊎◌, inl, inr, ℕ, ◌<◌, ◌≤◌, List, [], Option, Result, Err, true, false, length, take, refl, sym, ap, subst, arith, lit≤, length-append, length-take}
use Rattle.std.proofs.KnownBytes.{Appends-nil}
use Rattle.std.specs.Prelude.{◌≢◌}
use Rattle.std.proofs.lemmas.Bool.{cases_lt}
use Rattle.std.proofs.lemmas.List.{take_all, take-take}
use Rattle.std.specs.Io.KnownBytes.{Appends}
use Rattle.sim_base.specs.declared.limits.Limits.{Limits}
use Rattle.sim_code.specs.Code.{CodeOf}
use Rattle.sim_ports.specs.Bytes.{AddsPrefix}
use Rattle.code_file.specs.declared.fault.CodeRefusal.{CodeRefusal}
use Rattle.code_file.specs.declared.fault.CodeRefusal.TheVariants as refusal
use Rattle.code_file.specs.declared.rule.CodeRule.{CodeRule}
use Rattle.code_file.specs.declared.rule.CodeRule.TheVariants.{NoHeader, EndsEarly, OutOfRange, NotZero, AfterEnd}
use Rattle.code_file.specs.Faults.{Breaks, EndsAt, EndsInside}
use Rattle.code_file.specs.Laws.{Answers, IsBroken, IsSpelt, Refuses}
use Rattle.code_file.specs.Spelling.{Spells, header, largest, spelling}
use Rattle.code_run.specs.declared.running.CodeEnd.{CodeEnd}
use Rattle.code_run.specs.declared.running.CodeFailure.{CodeFailure}
use Rattle.code_run.specs.CodeEnds.{Begins as BeginsRun, Broken, HasEnd, Ran}
use Rattle.code_run.proofs.Ended.{one_end}
use Rattle.sim_driver.specs.Answer.{Answer, Gives}
use Rattle.sim_driver.specs.CodeAnswer.{HasOneAnswer, IsAnswered, IsCodeAnswer, IsCodeCutOff, IsRunAnswer, status_of_end}
use Rattle.sim_driver.specs.Output.{Begins, Exactly, Writes}
use Rattle.sim_driver.specs.Status.{is_answer}
use Rattle.sim_driver.specs.declared.status.Status.{Status}
use Rattle.sim_driver.specs.declared.status.Status.TheVariants as status
use Rattle.sim_driver.proofs.Prefixes.{AddsPrefix-whole}

-- ---- a run of code

abbrev pub answer_so : Status → List ℕ → Answer
answer_so ended output = record { status = ended; output = Exactly output }

-- each run of code has an answer
pub end_answer : (l : Limits) (code : CodeOf) (input : List ℕ) → HasEnd code l input → (answer : Answer) × IsRunAnswer l code input answer
end_answer l code input (end, output, ends) =
    (record { status = status_of_end l end; output = Exactly output }, record { end = end; output = output; ends = ends; same = refl })

module _ (l : Limits) (code : CodeOf) (input : List ℕ) (old new : Option (List ℕ)) where
  -- what was run to its end gave each answer that there is
  pub ran_gives : (end : CodeEnd) (ended : Status) (answer : Answer) → Ran code l input end old new → ended ≡ status_of_end l end → IsRunAnswer l code input answer → Gives answer ended old new
  ran_gives end ended answer ran is means =
      let same = one_end code l input end means.end ran.output means.output ran.ends means.ends in
      record {
        ends = is ∙ ap (status_of_end l) same.0 ∙ sym (ap (λ (a : Answer). a.status) means.same);
        writes = subst (λ (a : Answer). Writes old new a.output) (sym means.same) (means.output, refl, subst (λ xs. Appends old new xs) same.1 ran.writes);
      }

  pub ran_begins : (end : CodeEnd) (answer : Answer) → Ran code l input end old new → IsRunAnswer l code input answer → Begins old new answer.output
  ran_begins end answer ran means =
      let whole = (ran_gives end (status_of_end l end) answer ran refl means).writes in
      inr (whole.0, whole.1, AddsPrefix-whole old new whole.0 whole.2)

  -- what failed wrote a part of it
  pub broken_begins : (answer : Answer) → BeginsRun code l input old new → IsRunAnswer l code input answer → Begins old new answer.output
  broken_begins answer (end, output, ends, adds) means =
      let same = one_end code l input end means.end output means.output ends means.ends in
      subst (λ (a : Answer). Begins old new a.output) (sym means.same) (inr (means.output, refl, subst (λ xs. AddsPrefix old new xs) same.1 adds))

  -- what is known of a run that failed, by its cause
  pub broken_by : (faults now : ℕ) (e f : CodeFailure) → e ≡ f → Broken faults now code l input old new (Err e) → Broken faults now code l input old new (Err f)
  broken_by faults now e f is broken = subst (λ x. Broken faults now code l input old new (Err x)) is broken

-- ---- a code file

-- what reading says of the code that the bytes spell
abbrev pub IsOnlyCode : List ℕ → CodeOf → Type 0
IsOnlyCode bytes code = (other : CodeOf) → Spells bytes other → code ≡ other

abbrev pub IsUnbroken : List ℕ → Type 0
IsUnbroken bytes = (rule : CodeRule) (place : ℕ) → Breaks bytes rule place → ⊥

module _ (l : Limits) (bytes input : List ℕ) where
  -- the answer of the run of its code is one of the file
  pub file_answer : (code : CodeOf) → Spells bytes code → (answer : Answer) × IsRunAnswer l code input answer → (answer : Answer) × IsCodeAnswer l bytes input answer
  file_answer code spells (answer, runs) = (answer, inr (record { code = code; spells = spells; runs = runs }))

  -- and each answer of the file is one of the run of its code
  pub run_answer : (code : CodeOf) (answer : Answer) → IsOnlyCode bytes code → IsUnbroken bytes → IsCodeAnswer l bytes input answer → IsRunAnswer l code input answer
  run_answer code answer only sound (inl refused) = absurd (sound refused.rule refused.place refused.breaks)
  run_answer code answer only sound (inr ran) = subst (λ (c : CodeOf). IsRunAnswer l c input answer) (sym (only ran.code ran.spells)) ran.runs

  -- what is wrong with a file is its answer
  pub refused_answer : (rule : CodeRule) (place : ℕ) → Breaks bytes rule place → (answer : Answer) × IsCodeAnswer l bytes input answer
  refused_answer rule place breaks = (record { status = status.CodeRefused rule place; output = Exactly [] }, inl (record { rule = rule; place = place; breaks = breaks; same = refl }))

  same_refusal : (rule other : CodeRule) (place at : ℕ) → Refuses other at (Err (refusal.Broken rule place)) → status.CodeRefused rule place ≡ status.CodeRefused other at
  same_refusal rule other place at is = ap (λ (r : CodeRule). status.CodeRefused r place) is.0 ∙ ap (λ (n : ℕ). status.CodeRefused other n) is.1

  -- and the only one
  pub refused_gives : (rule : CodeRule) (place : ℕ) (answer : Answer) (old : Option (List ℕ)) (r : Result CodeOf CodeRefusal) → r ≡ Err (refusal.Broken rule place)
      → ((other : CodeOf) → Spells bytes other → Answers other r) → ((other : CodeRule) (at : ℕ) → Breaks bytes other at → Refuses other at r)
      → IsCodeAnswer l bytes input answer → Gives answer (status.CodeRefused rule place) old old
  refused_gives rule place answer old r is only refused (inl x) = record {
    ends = same_refusal rule x.rule place x.place (subst (Refuses x.rule x.place) is (refused x.rule x.place x.breaks)) ∙ sym (ap (λ (a : Answer). a.status) x.same);
    writes = subst (λ (a : Answer). Writes old old a.output) (sym x.same) ([], refl, Appends-nil old);
  }
  refused_gives rule place answer old r is only refused (inr x) = absurd (no_memory (subst (Answers x.code) is (only x.code x.spells)))
    where
      no_memory : refusal.Broken rule place ≡ refusal.Memory → ⊥
      no_memory h = cc h

  -- ---- a file has one answer

  one_run : (answer other : Answer) (code : CodeOf) → IsRunAnswer l code input answer → IsRunAnswer l code input other → other ≡ answer
  one_run answer other code is means =
      let same = one_end code l input is.end means.end is.output means.output is.ends means.ends in
      means.same
      ∙ sym (ap (λ (e : CodeEnd). answer_so (status_of_end l e) means.output) same.0)
      ∙ sym (ap (λ (xs : List ℕ). answer_so (status_of_end l is.end) xs) same.1)
      ∙ sym is.same

  spelt_answer : IsSpelt bytes → ((code : CodeOf) → HasEnd code l input) → HasOneAnswer l bytes input
  spelt_answer x ends =
      let found = end_answer l x.code input (ends x.code) in
      record {
        answer = found.0;
        means = inr (record { code = x.code; spells = x.spells; runs = found.1 });
        only = λ other means. one_run found.0 other x.code found.1 (run_answer x.code other (λ code spells. sym (x.only code spells)) x.unbroken means);
      }

  only_refusal : (x : IsBroken bytes) (other : Answer) → IsCodeAnswer l bytes input other → other ≡ answer_so (status.CodeRefused x.rule x.place) []
  only_refusal x other (inl refused) =
      refused.same
      ∙ ap (λ (r : CodeRule). answer_so (status.CodeRefused r refused.place) []) (x.only_rule refused.rule refused.place refused.breaks)
      ∙ ap (λ (n : ℕ). answer_so (status.CodeRefused x.rule n) []) (x.only_place refused.rule refused.place refused.breaks)
  only_refusal x other (inr ran) = absurd (x.no_code ran.code ran.spells)

  pub one_answer : IsSpelt bytes ⊎ IsBroken bytes → ((code : CodeOf) → HasEnd code l input) → HasOneAnswer l bytes input
  one_answer (inl x) ends = spelt_answer x ends
  one_answer (inr x) ends = record {
    answer = answer_so (status.CodeRefused x.rule x.place) [];
    means = inl (record { rule = x.rule; place = x.place; breaks = x.breaks; same = refl });
    only = only_refusal x;
  }

  -- what gives each answer and begins it, has answered
  pub has_answered : (ended : Status) (old new : Option (List ℕ)) → HasOneAnswer l bytes input
      → ((answer : Answer) → IsCodeAnswer l bytes input answer → is_answer ended ≡ true → Gives answer ended old new)
      → ((answer : Answer) → IsCodeAnswer l bytes input answer → Begins old new answer.output)
      → IsAnswered l bytes input ended old new
  has_answered ended old new one gives begins = record {
    one = one;
    gives = gives one.answer one.means;
    begins = begins one.answer one.means;
  }

  -- so has what wrote nothing and is no answer
  pub wrote_nothing : (ended : Status) (old : Option (List ℕ)) → is_answer ended ≡ false → HasOneAnswer l bytes input → IsAnswered l bytes input ended old old
  wrote_nothing ended old none one = record {
    one = one;
    gives = λ is. absurd (differ (sym none ∙ is));
    begins = inl (Appends-nil old);
  }
    where
      differ : false ≡ true → ⊥
      differ h = cc h

-- the status that a run of code has at last, by what writing the line made of it
pub answered_so : (l : Limits) (file input : List ℕ) (ended said : Status) (old new : Option (List ℕ)) → (is_answer ended ≡ true → ended ≡ said) → IsAnswered l file input said old new → IsAnswered l file input ended old new
answered_so l file input ended said old new same found = record {
  one = found.one;
  gives = λ is. let given = found.gives (sym (ap is_answer (same is)) ∙ is) in record { ends = same is ∙ given.ends; writes = given.writes };
  begins = found.begins;
}

-- ---- a file that was read up to the limit

past_limit : (content : List ℕ) → largest < length content → length (take 1073741825 content) ≡ 1073741825
past_limit content long = omega (arith, length-take 1073741825 content, long)

whole_limit : (content : List ℕ) → length content ≤ largest → take 1073741825 content ≡ content
whole_limit content short = take_all 1073741825 content (omega (arith, short))

front : (content : List ℕ) → take largest (take 1073741825 content) ≡ take largest content
front content = take-take largest 1073741825 content (lit≤ tt)

header_front : (content : List ℕ) → take 8 (take 1073741825 content) ≡ take 8 content
header_front content = take-take 8 1073741825 content (lit≤ tt)

within_front : (content : List ℕ) (place : ℕ) → EndsAt (take largest content) place ⊎ EndsInside (take largest content) place → place ≤ largest
within_front content place (inl (code, left, is_code, parts, at)) =
    omega (arith, at, ap length parts, length-append (spelling code) left, length-take largest content)
within_front content place (inr (next, left, comes, early, at)) = omega (arith, at, length-take largest content)

module _ (content : List ℕ) (long : largest < length content) where
  breaks_long_to : (rule : CodeRule) (place : ℕ) → Breaks content rule place → Breaks (take 1073741825 content) rule place
  breaks_long_to NoHeader place (at, other) = (at, subst (λ (xs : List ℕ). xs ≢ header) (sym (header_front content)) other)
  breaks_long_to EndsEarly place (within, inside) = absurd (omega (arith, within, long))
  breaks_long_to OutOfRange place h = rw (front content) h
  breaks_long_to NotZero place h = rw (front content) h
  breaks_long_to AfterEnd place (within, ends) =
      (omega (arith, within_front content place ends, past_limit content long), rw (front content) ends)

  breaks_long_from : (rule : CodeRule) (place : ℕ) → Breaks (take 1073741825 content) rule place → Breaks content rule place
  breaks_long_from NoHeader place (at, other) = (at, subst (λ (xs : List ℕ). xs ≢ header) (header_front content) other)
  breaks_long_from EndsEarly place (within, inside) = absurd (omega (arith, within, past_limit content long))
  breaks_long_from OutOfRange place h = rw (front content) at h
  breaks_long_from NotZero place h = rw (front content) at h
  breaks_long_from AfterEnd place (within, ends) =
      (omega (arith, within, past_limit content long, long), rw (front content) at ends)

pub breaks_to : (content : List ℕ) (rule : CodeRule) (place : ℕ) → Breaks content rule place → Breaks (take 1073741825 content) rule place
breaks_to content rule place h =
    elim (cases_lt largest (length content)) [
      | inl long ↦ breaks_long_to content long rule place h
      | inr short ↦ subst (λ xs. Breaks xs rule place) (sym (whole_limit content short)) h
    ]

pub breaks_from : (content : List ℕ) (rule : CodeRule) (place : ℕ) → Breaks (take 1073741825 content) rule place → Breaks content rule place
breaks_from content rule place h =
    elim (cases_lt largest (length content)) [
      | inl long ↦ breaks_long_from content long rule place h
      | inr short ↦ subst (λ xs. Breaks xs rule place) (whole_limit content short) h
    ]

pub spells_to : (content : List ℕ) (code : CodeOf) → Spells content code → Spells (take 1073741825 content) code
spells_to content code h = subst (λ xs. Spells xs code) (sym (whole_limit content h.within)) h

pub spells_from : (content : List ℕ) (code : CodeOf) → Spells (take 1073741825 content) code → Spells content code
spells_from content code h =
    elim (cases_lt largest (length content)) [
      | inl long ↦ absurd (omega (arith, h.within, past_limit content long))
      | inr short ↦ subst (λ xs. Spells xs code) (whole_limit content short) h
    ]

module _ (l : Limits) (content bytes input : List ℕ) (same : bytes ≡ take 1073741825 content) where
  -- an answer of the bytes that were read is one of the file
  pub answer_from : (answer : Answer) × IsCodeAnswer l bytes input answer → (answer : Answer) × IsCodeAnswer l content input answer
  answer_from (answer, inl x) = (answer, inl (record { rule = x.rule; place = x.place; breaks = breaks_from content x.rule x.place (subst (λ xs. Breaks xs x.rule x.place) same x.breaks); same = x.same }))
  answer_from (answer, inr x) = (answer, inr (record { code = x.code; spells = spells_from content x.code (subst (λ xs. Spells xs x.code) same x.spells); runs = x.runs }))

  pub answer_to : (answer : Answer) → IsCodeAnswer l content input answer → IsCodeAnswer l bytes input answer
  answer_to answer (inl x) = inl (record { rule = x.rule; place = x.place; breaks = subst (λ xs. Breaks xs x.rule x.place) (sym same) (breaks_to content x.rule x.place x.breaks); same = x.same })
  answer_to answer (inr x) = inr (record { code = x.code; spells = subst (λ xs. Spells xs x.code) (sym same) (spells_to content x.code x.spells); runs = x.runs })

  pub cut_from : (faults now : ℕ) (old new : Option (List ℕ)) → IsCodeCutOff faults now l bytes input old new → IsCodeCutOff faults now l content input old new
  cut_from faults now old new x = record { code = x.code; spells = spells_from content x.code (subst (λ xs. Spells xs x.code) same x.spells); cut = x.cut }

  pub breaks_in : (rule : CodeRule) (place : ℕ) → Breaks content rule place → Breaks bytes rule place
  breaks_in rule place h = subst (λ xs. Breaks xs rule place) (sym same) (breaks_to content rule place h)

  pub spells_in : (code : CodeOf) → Spells content code → Spells bytes code
  spells_in code h = subst (λ xs. Spells xs code) (sym same) (spells_to content code h)
