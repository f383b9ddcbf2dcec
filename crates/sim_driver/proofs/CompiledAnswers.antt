-- The code of a program is answered as the program, and its code file as its source.
use Rattle.std.proofs.Common.{◌≡◌, ◌∙◌, ◌⊎◌, inl, inr, ℕ, suc, List, [], Option, Some, None, refl, sym, ap, subst}
use Rattle.std.specs.Prelude.{MatchOption}
use Rattle.std.specs.Io.KnownBytes.{Appends}
use Rattle.command_line.specs.Executed.{CodeRequest}
use Rattle.command_line.specs.Words.{Request}
use Rattle.command_line.specs.declared.words.Command.{Command}
use Rattle.command_line.specs.declared.words.Command.TheVariants.{Compile, Listing, Run}
use Rattle.code_file.specs.Spelling.{Spells, spelling}
use Rattle.code_file.proofs.FileLaws.{not_both, read_again, read_refused, same_code}
use Rattle.code_file.specs.Reading.{read_of}
use Rattle.sim_base.specs.declared.limits.Limits.{Limits}
use Rattle.sim_base.specs.declared.numbering.Line.{Line}
use Rattle.sim_base.specs.declared.rule.Rule.{Rule}
use Rattle.sim_base.specs.declared.token.Token.{Token}
use Rattle.sim_built.specs.Allowed.{IsAllowed}
use Rattle.sim_code.specs.Code.{CodeOf}
use Rattle.sim_code.specs.Outcome.{Ended, Ending, Normal, NoRule, RunFault, StorageExhausted, TickLimit, World}
use Rattle.sim_code.specs.Rows.{mrun, next_place}
use Rattle.sim_lexer.specs.Spelling.{Broken, Lexed, Reads, Spelled}
use Rattle.sim_relate.specs.SameRuns.{SameRuns}
use Rattle.sim_scope.specs.Source.{Source}
use Rattle.sim_static.specs.Check.{Allowed, Checked, Refused, check_of}
use Rattle.sim_tree.specs.Tree.{IsTree}
use Rattle.sim_tree.specs.declared.program.Program.{Program as Tree}
use Rattle.code_run.specs.CodeEnds.{HasEnd, end_of}
use Rattle.code_run.proofs.Ended.{ended_as}
use Rattle.sim_run.specs.declared.running.RunEnd.{RunEnd}
use Rattle.sim_run.specs.declared.running.RunEnd.TheVariants as end
use Rattle.sim_run.specs.RunEnds.{IsRunnable, MeaningEnds, end_of as program_end_of}
use Rattle.sim_run.proofs.Showing.{EndsIn, code_ends, program_ends}
use Rattle.sim_driver.specs.Answer.{Answer, IsAnswerFor, IsSourceAnswer, meant}
use Rattle.sim_driver.specs.CodeAnswer.{IsCodeAnswer, IsRunAnswer, status_of_end}
use Rattle.sim_driver.specs.CompiledAnswer.{AnswerAlike, AnswersAs, ExecutesAs, IsProgramAnswer, RunsAs, WroteExecutable, WroteListing}
use Rattle.sim_driver.specs.Compiling.{Bad, BoundCompiles, CheckedCompiles, Compiled, Deep, IsParsed, IsProgram, LexedCompiles, Parsed, ParsedCompiles, Rejected, Runnable, SourceCompiles, TreeBinds, Whole, source_with}
use Rattle.sim_driver.specs.Output.{Exactly, IsCodeFor, SomeCodeFile, SomeListing, Writes}
use Rattle.sim_driver.specs.SourceMeaning.{Meaning, Means, ending_of}
use Rattle.sim_driver.specs.Status.{status_of}
use Rattle.sim_driver.specs.declared.status.Ending.TheVariants as ending
use Rattle.sim_driver.specs.declared.status.Status.{Status}
use Rattle.sim_driver.specs.declared.status.Status.TheVariants as status
use Rattle.sim_driver.proofs.CodeAnswers.{answer_so, run_answer}
use Rattle.sim_driver.proofs.Known.{OneSyntax, bound_source, by_equation, whole_tree}

-- ---- the code of a program

same_end : (e d : RunEnd) → Some e ≡ Some d → e ≡ d
same_end e d is = cc

-- an end of the program has one status, by the code and by the program
status_alike : (l : Limits) (e : Ending) (end : RunEnd) (next : ℕ) → program_end_of e ≡ Some end → status_of_end l (end_of e next) ≡ status_of (ending_of l end)
status_alike l Normal d next is = ap (λ (x : RunEnd). status_of (ending_of l x)) (same_end end.Normal d is)
status_alike l (RunFault error line) d next is = ap (λ (x : RunEnd). status_of (ending_of l x)) (same_end (end.RunFault error (record { 0 = line })) d is)
status_alike l (StorageExhausted line used wanted) d next is = ap (λ (x : RunEnd). status_of (ending_of l x)) (same_end (end.StorageExhausted (record { 0 = line }) used wanted) d is)
status_alike l (TickLimit ticks) d next is = ap (λ (x : RunEnd). status_of (ending_of l x)) (same_end (end.TickLimit ticks) d is)
status_alike l NoRule d next is = cc is

-- each way to end but for the want of a rule
end_there : (e : Ending) → (e ≡ NoRule → ⊥) → (end : RunEnd) × (program_end_of e ≡ Some end)
end_there Normal ruled = (end.Normal, refl)
end_there (RunFault error line) ruled = (end.RunFault error (record { 0 = line }), refl)
end_there (StorageExhausted line used wanted) ruled = (end.StorageExhausted (record { 0 = line }) used wanted, refl)
end_there (TickLimit ticks) ruled = (end.TickLimit ticks, refl)
end_there NoRule ruled = absurd (ruled refl)

module _ (s : Source) (code : CodeOf) (runs : IsRunnable s) (same : SameRuns s code) (l : Limits) (input : List ℕ) where
  to_program : (answer : Answer) → IsRunAnswer l code input answer → IsProgramAnswer l s input answer
  to_program answer x =
      let here : EndsIn (mrun code l input (suc x.ends.steps)) x.ends.ending x.output = record { world = x.ends.last; is = x.ends.ended; writes = x.ends.writes } in
      let ends : MeaningEnds s l input x.ends.ending x.output = program_ends s code same l input (suc x.ends.steps) x.ends.ending x.output here in
      let there = end_there x.ends.ending (λ is. runs.ruled l input ends.steps ends.world (ends.ends ∙ ap (λ d. Ended ends.world d) is)) in
      record {
        meaning = record { ending = ending_of l there.0; output = Exactly x.output };
        means = record { end = there.0; output = x.output; ends = record { ending = x.ends.ending; is = there.1; ends = ends }; same = refl };
        same = x.same ∙ ap (λ (e : Status). answer_so e x.output) (ap (status_of_end l) x.ends.is ∙ status_alike l x.ends.ending there.0 (next_place x.ends.state) there.1);
      }

  to_code : HasEnd code l input → (answer : Answer) → IsProgramAnswer l s input answer → IsRunAnswer l code input answer
  to_code (e, output, ends) answer x =
      let m = x.means in
      let there = code_ends s code same l input m.ends.ending m.output m.ends.ends in
      let alike = ended_as code l input e output ends there.0 there.1.world m.ends.ending there.1.is in
      let status : status_of_end l e ≡ status_of (ending_of l m.end) =
      ap (status_of_end l) ends.is ∙ status_alike l ends.ending m.end (next_place ends.state) (ap program_end_of alike.1 ∙ m.ends.is) in
      let wrote : output ≡ m.output = ends.writes ∙ ap (λ (o : World). o.store.written) alike.0 ∙ sym there.1.writes in
      record {
        end = e;
        output = output;
        ends = ends;
        same = x.same ∙ ap meant m.same ∙ sym (ap (λ (d : Status). answer_so d m.output) status) ∙ sym (ap (λ (xs : List ℕ). answer_so (status_of_end l e) xs) wrote);
      }

-- code that shows what its program means is answered so
pub answers_as : (s : Source) (code : CodeOf) → IsRunnable s → SameRuns s code → ((l : Limits) (input : List ℕ) → HasEnd code l input) → AnswersAs code s
answers_as s code runs same ends l input answer = record { there = to_program s code runs same l input answer; back = to_code s code runs same l input (ends l input) answer }

-- so two such codes are answered alike
pub answer_alike : (s : Source) (code other : CodeOf) → AnswersAs code s → AnswersAs other s → AnswerAlike code other
answer_alike s code other one two l input answer = record { there = λ x. (two l input answer).back ((one l input answer).there x); back = λ x. (one l input answer).back ((two l input answer).there x) }

-- ---- the code file of a source

module _ (source : List ℕ) (s : Source) (program : IsProgram Run source s) (l : Limits) (input : List ℕ) where
  to_source : (answer : Answer) → IsProgramAnswer l s input answer → IsSourceAnswer Run l source input answer
  to_source answer x = record {
    meaning = x.meaning;
    means = record { compiled = Runnable s; compiles = (program.0 (Runnable s)).back refl; means = x.means };
    same = x.same;
  }

  from_source : (answer : Answer) → IsSourceAnswer Run l source input answer → IsProgramAnswer l s input answer
  from_source answer x = record {
    meaning = x.meaning;
    means = subst (λ (c : Compiled). Means l input c x.meaning) ((program.0 x.means.compiled).there x.means.compiles) x.means.means;
    same = x.same;
  }

-- code of the program runs as the source
pub runs_as : (source : List ℕ) (s : Source) → IsProgram Run source s → (code : CodeOf) → AnswersAs code s → RunsAs code source
runs_as source s program code alike l input answer = record {
  there = λ x. to_source source s program l input answer ((alike l input answer).there x);
  back = λ x. (alike l input answer).back (from_source source s program l input answer x);
}

-- and its code file is executed so
pub executes_as : (file source : List ℕ) (code : CodeOf) → Spells file code → RunsAs code source → ExecutesAs file source
executes_as file source code spells runs l input answer = record {
  there = λ x. (runs l input answer).there
      (run_answer l file input code answer
      (λ other also. same_code (read_of file) code other (read_again file code spells) (read_again file other also))
      (λ rule place breaks. not_both (read_of file) code (rule, place) (read_again file code spells) (read_refused file rule place breaks))
      x);
  back = λ x. inr (record { code = code; spells = spells; runs = (runs l input answer).back x });
}

-- ---- what a command makes of a source

abbrev pub Runs : Type 0
Runs = (tokens : List Token) (tree : Tree) (s : Source) → IsAllowed tokens tree s → IsRunnable s

-- what it makes of a program that can be run, or the rule that refuses it
abbrev Made : Command → List ℕ → Compiled → Type 0
Made command source c = ((s : Source) × BoundCompiles command s c × IsProgram Run source s) ⊎ ((r : Rule) × (line : Line) × (c ≡ Rejected r line))

made_program : OneSyntax → Runs → (source : List ℕ) (tokens : List Token) (tree : Tree) (s : Source) → Reads source (Spelled tokens) → IsTree tokens tree → IsAllowed tokens tree s → TreeBinds Run tokens tree s → IsProgram Run source s
made_program one runs source tokens tree s reads is allowed binds = (bound_source one Run source tokens tree s no_print reads is binds, runs tokens tree s allowed)
  where
    no_print : Run ≡ Command.Print → ⊥
    no_print h = cc h

made_checked : OneSyntax → Runs → (command : Command) (source : List ℕ) (tokens : List Token) (tree : Tree) → Reads source (Spelled tokens) → IsTree tokens tree → (k : Checked) (c : Compiled) → check_of tree ≡ k → CheckedCompiles command tokens tree k c → Made command source c
made_checked one runs command source tokens tree reads is (Refused fault) c checks gives = inr (fault.rule, _, gives)
made_checked one runs command source tokens tree reads is (Allowed tables uses found_in types) c checks gives =
    let s : Source = source_with tree tables uses found_in types in
    let allowed : IsAllowed tokens tree s = record { reads = is; checked = record { allowed = checks; program = refl; lines = refl } } in
    let binds : TreeBinds Run tokens tree s = λ d. by_equation (λ (x : Checked). CheckedCompiles Run tokens tree x d) (check_of tree) (Allowed tables uses found_in types) checks in
    inl (s, gives, made_program one runs source tokens tree s reads is allowed binds)

made_parsed : OneSyntax → Runs → (command : Command) (source : List ℕ) (tokens : List Token) → (command ≡ Command.Print → ⊥) → Reads source (Spelled tokens) → (m : Parsed) (c : Compiled) → IsParsed tokens m → ParsedCompiles command tokens m c → Made command source c
made_parsed one runs command source tokens asks reads (Whole tree) c is gives = made_checked one runs command source tokens tree reads is (check_of tree) c refl ((whole_tree command tokens tree c asks).there gives)
made_parsed one runs command source tokens asks reads (Bad bad) c is gives = inr (_, _, gives)
made_parsed one runs command source tokens asks reads (Deep deep) c is gives = inr (_, _, gives)

made_lexed : OneSyntax → Runs → (command : Command) (source : List ℕ) → (command ≡ Command.Print → ⊥) → (lexed : Lexed) (c : Compiled) → Reads source lexed → LexedCompiles command source lexed c → Made command source c
made_lexed one runs command source asks (Spelled tokens) c reads is = made_parsed one runs command source tokens asks reads is.parsed c is.parses is.gives
made_lexed one runs command source asks (Broken rule place) c reads is = inr (_, _, is)

made : OneSyntax → Runs → (command : Command) (source : List ℕ) → (command ≡ Command.Print → ⊥) → (c : Compiled) → SourceCompiles command source c → Made command source c
made one runs command source asks c x = made_lexed one runs command source asks x.lexed c x.reads x.compiles

no_print_compile : Compile ≡ Command.Print → ⊥
no_print_compile h = cc h

no_print_listing : Listing ≡ Command.Print → ⊥
no_print_listing h = cc h

-- ---- what is written at a normal end

-- all code of a program is answered as the program
abbrev pub Answered : Type 0
Answered = (s : Source) (code : CodeOf) → IsRunnable s → IsCodeFor s code → AnswersAs code s

wrote_file : Answered → (source : List ℕ) (s : Source) (old new : Option (List ℕ)) → IsProgram Run source s → Writes old new (SomeCodeFile s) → WroteExecutable source old new
wrote_file answered source s old new program (file, x, adds) =
    let runs : RunsAs x.code source = runs_as source s program x.code (answered s x.code program.1 x.is_code_for) in
    record {
      code = x.code;
      writes = subst (λ (xs : List ℕ). Appends old new xs) x.spelt adds;
      runs = runs;
      executes = λ within. executes_as (spelling x.code) source x.code (record { is_code = x.is_code; spelt = refl; within = within }) runs;
    }

wrote_lines : Answered → (source : List ℕ) (s : Source) (old new : Option (List ℕ)) → IsProgram Run source s → Writes old new (SomeListing s) → WroteListing source old new
wrote_lines answered source s old new program (bytes, x, adds) = record {
  code = x.code;
  writes = subst (λ (xs : List ℕ). Appends old new xs) x.listed adds;
  runs = runs_as source s program x.code (answered s x.code program.1 x.is_code_for);
}

-- what is refused does not end normally
refused_ends : (l : Limits) (input : List ℕ) (meaning : Meaning) (c : Compiled) (r : Rule) (line : Line) → c ≡ Rejected r line → Means l input c meaning → status.Normal ≡ status_of meaning.ending → ⊥
refused_ends l input meaning c r line is means ends =
    let refused : meaning ≡ record { ending = ending.Refused r line; output = Exactly [] } = subst (λ (x : Compiled). Means l input x meaning) is means in
    differ (ends ∙ ap (λ (m : Meaning). status_of m.ending) refused)
  where
    differ : status.Normal ≡ status.Refused r line → ⊥
    differ h = cc h

compiled_so : Answered → (source input : List ℕ) (l : Limits) (meaning : Meaning) (c : Compiled) (old new : Option (List ℕ)) → Made Compile source c → Means l input c meaning → status.Normal ≡ status_of meaning.ending → Writes old new meaning.output → WroteExecutable source old new
compiled_so answered source input l meaning c old new (inl (s, is, program)) means ends writes =
    let coded : meaning ≡ record { ending = ending.Normal; output = SomeCodeFile s } = subst (λ (x : Compiled). Means l input x meaning) is means in
    wrote_file answered source s old new program (subst (λ (m : Meaning). Writes old new m.output) coded writes)
compiled_so answered source input l meaning c old new (inr (r, line, is)) means ends writes = absurd (refused_ends l input meaning c r line is means ends)

listed_so : Answered → (source input : List ℕ) (l : Limits) (meaning : Meaning) (c : Compiled) (old new : Option (List ℕ)) → Made Listing source c → Means l input c meaning → status.Normal ≡ status_of meaning.ending → Writes old new meaning.output → WroteListing source old new
listed_so answered source input l meaning c old new (inl (s, is, program)) means ends writes =
    let listed : meaning ≡ record { ending = ending.Normal; output = SomeListing s } = subst (λ (x : Compiled). Means l input x meaning) is means in
    wrote_lines answered source s old new program (subst (λ (m : Meaning). Writes old new m.output) listed writes)
listed_so answered source input l meaning c old new (inr (r, line, is)) means ends writes = absurd (refused_ends l input meaning c r line is means ends)

module _ (one : OneSyntax) (runs : Runs) (answered : Answered) (source input : List ℕ) (l : Limits) (answer : Answer) (old new : Option (List ℕ)) where
  pub wrote_executable : IsSourceAnswer Compile l source input answer → status.Normal ≡ answer.status → Writes old new answer.output → WroteExecutable source old new
  wrote_executable x ends writes =
      compiled_so answered source input l x.meaning x.means.compiled old new (made one runs Compile source no_print_compile x.means.compiled x.means.compiles) x.means.means
      (ends ∙ ap (λ (a : Answer). a.status) x.same) (subst (λ (a : Answer). Writes old new a.output) x.same writes)

  pub wrote_listing : IsSourceAnswer Listing l source input answer → status.Normal ≡ answer.status → Writes old new answer.output → WroteListing source old new
  wrote_listing x ends writes =
      listed_so answered source input l x.meaning x.means.compiled old new (made one runs Listing source no_print_listing x.means.compiled x.means.compiles) x.means.means
      (ends ∙ ap (λ (a : Answer). a.status) x.same) (subst (λ (a : Answer). Writes old new a.output) x.same writes)

-- the answer where the words ask for a command
pub answer_of_command : (coded : Option CodeRequest) (asked : Option Request) (generated : Option ℕ) (command : Command) (source input : List ℕ) (answer : Answer)
    → MatchOption coded (MatchOption asked ⊥ (λ request. request.command ≡ command)) (λ request. ⊥)
    → MatchOption coded (IsAnswerFor asked generated source input answer) (λ request. IsCodeAnswer request.limits source input answer)
    → (l : Limits) × IsSourceAnswer command l source input answer
answer_of_command None (Some request) generated command source input answer asks means = (request.limits, subst (λ (c : Command). IsSourceAnswer c request.limits source input answer) asks means)
answer_of_command None None generated command source input answer asks means = absurd asks
answer_of_command (Some request) asked generated command source input answer asks means = absurd asks
