use Rattle.std.proofs.Common.{◌≡◌, ◌+◌, ◌∙◌, ℕ, List, Some, ap, sym, subst}
use Rattle.command_line.specs.Executed.{CodeRequest}
use Rattle.command_line.specs.Given.{run_asked}
use Rattle.command_line.specs.Words.{texts}
use Rattle.command_line.proofs.Disjoint.{no_generated}
use Rattle.sim_base.specs.declared.limits.Limits.{Limits}
use Rattle.code_run.specs.CodeEnds.{TakesNothing}
use Rattle.sim_driver.specs.AllWords.{limit_by}
use Rattle.sim_driver.specs.CodeAnswer.{IsAnswered}
use Rattle.sim_driver.specs.Reading.{TakesAtMost}
use Rattle.sim_driver.proofs.AllWordsOf.{answers_code, answers_other, asks_code, asks_other, asks_source, chosen_code, chosen_other, code_answer, code_cut, code_limits, named_so, names_other, no_code, no_source, not_both, other_answer, other_cut, same_file, tells_code, tells_other}
use Rattle.sim_driver.proofs.all_words.do_words.Goals as goal

-- ---- a run of code

pub returns-in-Some-clause-usage : goal.returns-in-Some-clause-usage
returns-in-Some-clause-usage g c is = absurd (c.exec_file.ensures.no_usage is)

pub returns-in-Some-clause-chosen : goal.returns-in-Some-clause-chosen
returns-in-Some-clause-chosen g c = chosen_code (texts c.args.words.now) (run_asked c.in-Some.field-0) c.in-Some.ensures (λ x. x.name) _ c.exec_file.ensures.chosen

pub returns-in-Some-clause-read_to : goal.returns-in-Some-clause-read_to
returns-in-Some-clause-read_to g c file source named told is_open =
    subst (λ (n : ℕ). TakesAtMost (n + 1) source (g.F.Files.left c.exec_file.new.files)) (ap limit_by c.in-Some.ensures)
    (c.exec_file.ensures.read_to source (subst (λ (name : List ℕ). g.F.Files.content c.args.files.now name ≡ Some source) (same_file (texts c.args.words.now) (run_asked c.in-Some.field-0) c.in-Some.ensures file named) told) is_open)

pub returns-in-Some-clause-files_left : goal.returns-in-Some-clause-files_left
returns-in-Some-clause-files_left g c named = absurd (named_so (texts c.args.words.now) (run_asked c.in-Some.field-0) c.in-Some.ensures named)

pub returns-in-Some-clause-answered : goal.returns-in-Some-clause-answered
returns-in-Some-clause-answered g c source given tells told is =
    let words = texts c.args.words.now in
    let request : CodeRequest = run_asked c.in-Some.field-0 in
    let found = c.exec_file.ensures.answered source given (tells_code words request c.in-Some.ensures (g.F.Files.content c.args.files.now) source tells) told is in
    (found.0, answers_code words request c.in-Some.ensures source given found.0 found.1)

pub returns-in-Some-clause-only_code : goal.returns-in-Some-clause-only_code
returns-in-Some-clause-only_code g c idle = absurd (not_both (texts c.args.words.now) (run_asked c.in-Some.field-0) c.in-Some.ensures idle)

pub returns-in-Some-clause-code_answered : goal.returns-in-Some-clause-code_answered
returns-in-Some-clause-code_answered g c l file given asks tells small told =
    let words = texts c.args.words.now in
    let request : CodeRequest = run_asked c.in-Some.field-0 in
    subst (λ (k : Limits). IsAnswered k file given c.exec_file.result (g.O.Sink.written c.args.out.now) (g.O.Sink.written c.exec_file.new.out)) (code_limits words request c.in-Some.ensures l asks)
    (c.exec_file.ensures.one_answer file given (tells_code words request c.in-Some.ensures (g.F.Files.content c.args.files.now) file tells) small told)

pub returns-in-Some-clause-answer : goal.returns-in-Some-clause-answer
returns-in-Some-clause-answer g c source given answer tells told means is =
    let words = texts c.args.words.now in
    let request : CodeRequest = run_asked c.in-Some.field-0 in
    c.exec_file.ensures.answer source given answer (tells_code words request c.in-Some.ensures (g.F.Files.content c.args.files.now) source tells) told (code_answer words request c.in-Some.ensures source given answer means) is

pub returns-in-Some-clause-prefix : goal.returns-in-Some-clause-prefix
returns-in-Some-clause-prefix g c source given answer tells told means =
    let words = texts c.args.words.now in
    let request : CodeRequest = run_asked c.in-Some.field-0 in
    c.exec_file.ensures.prefix source given answer (tells_code words request c.in-Some.ensures (g.F.Files.content c.args.files.now) source tells) told (code_answer words request c.in-Some.ensures source given answer means)

pub returns-in-Some-clause-cut : goal.returns-in-Some-clause-cut
returns-in-Some-clause-cut g c source given tells told is =
    let words = texts c.args.words.now in
    let request : CodeRequest = run_asked c.in-Some.field-0 in
    code_cut words request c.in-Some.ensures (g.I.Source.faults c.args.input.now) (g.I.Source.faults c.exec_file.new.input) source given _ _
    (c.exec_file.ensures.cut source given (tells_code words request c.in-Some.ensures (g.F.Files.content c.args.files.now) source tells) told is)

pub returns-in-Some-clause-only_run : goal.returns-in-Some-clause-only_run
returns-in-Some-clause-only_run g c idle = absurd (idle (asks_code (texts c.args.words.now) (run_asked c.in-Some.field-0) c.in-Some.ensures))

pub returns-in-Some-clause-unread : goal.returns-in-Some-clause-unread
returns-in-Some-clause-unread g c idle = absurd (idle (asks_code (texts c.args.words.now) (run_asked c.in-Some.field-0) c.in-Some.ensures))

pub returns-in-Some-clause-at_the_end : goal.returns-in-Some-clause-at_the_end
returns-in-Some-clause-at_the_end g c idle = absurd (not_both (texts c.args.words.now) (run_asked c.in-Some.field-0) c.in-Some.ensures idle.0)

pub returns-in-Some-clause-generated : goal.returns-in-Some-clause-generated
returns-in-Some-clause-generated g c processes asks = absurd (no_generated (texts c.args.words.now) (run_asked c.in-Some.field-0) processes (sym c.in-Some.ensures) asks)

pub returns-in-Some-clause-untouched : goal.returns-in-Some-clause-untouched
returns-in-Some-clause-untouched g c source rule line idle = absurd (not_both (texts c.args.words.now) (run_asked c.in-Some.field-0) c.in-Some.ensures idle)

pub returns-in-Some-clause-code_untouched : goal.returns-in-Some-clause-code_untouched
returns-in-Some-clause-code_untouched g c l file rule place asks tells breaks =
    c.exec_file.ensures.untouched file rule place (tells_code (texts c.args.words.now) (run_asked c.in-Some.field-0) c.in-Some.ensures (g.F.Files.content c.args.files.now) file tells) breaks

pub returns-in-Some-clause-takes : goal.returns-in-Some-clause-takes
returns-in-Some-clause-takes g c l source given s asks = absurd (no_source (texts c.args.words.now) (run_asked c.in-Some.field-0) c.in-Some.ensures l asks)

pub returns-in-Some-clause-code_takes : goal.returns-in-Some-clause-code_takes
returns-in-Some-clause-code_takes g c l file given code asks tells told spells never =
    let words = texts c.args.words.now in
    let request : CodeRequest = run_asked c.in-Some.field-0 in
    c.exec_file.ensures.takes file given code (tells_code words request c.in-Some.ensures (g.F.Files.content c.args.files.now) file tells) told spells
    (subst (λ (k : Limits). TakesNothing code k given) (sym (code_limits words request c.in-Some.ensures l asks)) never)

-- ---- every other command

pub returns-in-None-clause-usage : goal.returns-in-None-clause-usage
returns-in-None-clause-usage g c is = (sym c.in-None.ensures, c.run_command.ensures.usage is)

pub returns-in-None-clause-chosen : goal.returns-in-None-clause-chosen
returns-in-None-clause-chosen g c = chosen_other (texts c.args.words.now) c.in-None.ensures (λ x. x.name) _ c.run_command.ensures.chosen

pub returns-in-None-clause-read_to : goal.returns-in-None-clause-read_to
returns-in-None-clause-read_to g c file source named told is_open =
    subst (λ (n : ℕ). TakesAtMost (n + 1) source (g.F.Files.left c.run_command.new.files)) (ap limit_by c.in-None.ensures)
    (c.run_command.ensures.read_to file source (sym (names_other (texts c.args.words.now) c.in-None.ensures) ∙ named) told is_open)

pub returns-in-None-clause-files_left : goal.returns-in-None-clause-files_left
returns-in-None-clause-files_left g c named = c.run_command.ensures.files_left (sym (names_other (texts c.args.words.now) c.in-None.ensures) ∙ named)

pub returns-in-None-clause-answered : goal.returns-in-None-clause-answered
returns-in-None-clause-answered g c source given tells told is =
    let words = texts c.args.words.now in
    let found = c.run_command.ensures.answered source given (tells_other words c.in-None.ensures (g.F.Files.content c.args.files.now) source tells) told is in
    (found.0, answers_other words c.in-None.ensures source given found.0 found.1)

pub returns-in-None-clause-only_code : goal.returns-in-None-clause-only_code
returns-in-None-clause-only_code g c idle = c.run_command.ensures.no_code

pub returns-in-None-clause-code_answered : goal.returns-in-None-clause-code_answered
returns-in-None-clause-code_answered g c l file given asks = absurd (no_code (texts c.args.words.now) c.in-None.ensures l asks)

pub returns-in-None-clause-answer : goal.returns-in-None-clause-answer
returns-in-None-clause-answer g c source given answer tells told means is =
    let words = texts c.args.words.now in
    c.run_command.ensures.answer source given answer (tells_other words c.in-None.ensures (g.F.Files.content c.args.files.now) source tells) told (other_answer words c.in-None.ensures source given answer means) is

pub returns-in-None-clause-prefix : goal.returns-in-None-clause-prefix
returns-in-None-clause-prefix g c source given answer tells told means =
    let words = texts c.args.words.now in
    c.run_command.ensures.prefix source given answer (tells_other words c.in-None.ensures (g.F.Files.content c.args.files.now) source tells) told (other_answer words c.in-None.ensures source given answer means)

pub returns-in-None-clause-cut : goal.returns-in-None-clause-cut
returns-in-None-clause-cut g c source given tells told is =
    let words = texts c.args.words.now in
    other_cut words c.in-None.ensures (g.I.Source.faults c.args.input.now) (g.I.Source.faults c.run_command.new.input) source given _ _
    (c.run_command.ensures.cut source given (tells_other words c.in-None.ensures (g.F.Files.content c.args.files.now) source tells) told is)

pub returns-in-None-clause-only_run : goal.returns-in-None-clause-only_run
returns-in-None-clause-only_run g c idle = c.run_command.ensures.only_run (λ asks. idle (asks_other (texts c.args.words.now) c.in-None.ensures asks))

pub returns-in-None-clause-unread : goal.returns-in-None-clause-unread
returns-in-None-clause-unread g c idle = c.run_command.ensures.unread (λ asks. idle (asks_other (texts c.args.words.now) c.in-None.ensures asks))

pub returns-in-None-clause-at_the_end : goal.returns-in-None-clause-at_the_end
returns-in-None-clause-at_the_end g c idle = c.run_command.ensures.at_the_end idle.1

pub returns-in-None-clause-untouched : goal.returns-in-None-clause-untouched
returns-in-None-clause-untouched g c source rule line idle tells compiles =
    c.run_command.ensures.untouched source rule line (tells_other (texts c.args.words.now) c.in-None.ensures (g.F.Files.content c.args.files.now) source tells) compiles

pub returns-in-None-clause-code_untouched : goal.returns-in-None-clause-code_untouched
returns-in-None-clause-code_untouched g c l file rule place asks = absurd (no_code (texts c.args.words.now) c.in-None.ensures l asks)

pub returns-in-None-clause-takes : goal.returns-in-None-clause-takes
returns-in-None-clause-takes g c l source given s asks tells told compiles never =
    let words = texts c.args.words.now in
    c.run_command.ensures.takes l source given s (asks_source words c.in-None.ensures l asks) (tells_other words c.in-None.ensures (g.F.Files.content c.args.files.now) source tells) told compiles never

pub returns-in-None-clause-code_takes : goal.returns-in-None-clause-code_takes
returns-in-None-clause-code_takes g c l file given code asks = absurd (no_code (texts c.args.words.now) c.in-None.ensures l asks)
