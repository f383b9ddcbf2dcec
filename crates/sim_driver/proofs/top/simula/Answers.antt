use Rattle.std.proofs.Common.{inl, inr, ◌≡◌, true, false, ◌∙◌, refl, sym, ap}
use Rattle.command_line.specs.Executed.{code_request_of}
use Rattle.command_line.specs.Generated.{generated_of}
use Rattle.command_line.specs.Words.{request_of, texts}
use Rattle.command_line.specs.declared.words.Command.TheVariants.{Compile, Listing}
use Rattle.sim_driver.specs.Status.{is_answer, is_of_code}
use Rattle.sim_driver.specs.declared.status.Status.TheVariants.{InputFault, Memory, WriteFault}
use Rattle.sim_driver.proofs.AtTheEnd.{unwritten}
use Rattle.sim_driver.proofs.CodeAnswers.{answered_so}
use Rattle.sim_driver.proofs.CompiledAnswers.{answer_of_command}
use Rattle.sim_driver.proofs.Generated.{ran_so, same_answer}
use Rattle.sim_driver.proofs.top.simula.Goals as goal

pub returns-clause-line_part : goal.returns-clause-line_part
returns-clause-line_part g c =
    let ran = c.do_words-status.ensures in
    elim c.write_status_line.ensures.says [
      | inl own ↦ (
        c.do_words-status.result,
        (λ is source given answer tells told means. (ran.answer source given answer tells told means is).ends),
        record {
          usage = ran.usage;
          code = ran.only_code;
          file = λ is. (ran.file_fault is).0;
          read = ran.input_fault;
          write = ran.write_fault;
        },
        own,
      )
      | inr memory ↦ (
        Memory,
        (λ is source given answer tells told means. let no : false ≡ true = is in cc no),
        record {
          usage = λ is. cc;
          code = λ idle. refl;
          file = λ is. cc;
          read = λ is. cc;
          write = λ is. cc;
        },
        memory,
      )
    ]

pub returns-clause-answer : goal.returns-clause-answer
returns-clause-answer g c source given answer tells told means is =
    elim c.write_status_line.ensures.ends [
      | inl same ↦
          let gives = c.do_words-status.ensures.answer source given answer tells told means (sym (ap is_answer same) ∙ is) in
          record { ends = same ∙ gives.ends; writes = gives.writes }
      | inr other ↦ elim other [
        | inl memory ↦ let no : false ≡ true = sym (ap is_answer memory) ∙ is in cc no
        | inr fault ↦ let no : false ≡ true = sym (ap is_answer fault.0) ∙ is in cc no
      ]
    ]

pub returns-clause-only_code : goal.returns-clause-only_code
returns-clause-only_code g c idle =
    elim c.write_status_line.ensures.ends [
      | inl same ↦ ap is_of_code same ∙ c.do_words-status.ensures.only_code idle
      | inr other ↦ elim other [
        | inl memory ↦ ap is_of_code memory
        | inr fault ↦ ap is_of_code fault.0
      ]
    ]

pub returns-clause-code_answered : goal.returns-clause-code_answered
returns-clause-code_answered g c l file given asks tells small told =
    answered_so l file given c.write_status_line.result c.do_words-status.result _ _ (λ is. same_answer c.write_status_line.result c.do_words-status.result is c.write_status_line.ensures.ends)
    (c.do_words-status.ensures.code_answered l file given asks tells small told)

pub returns-clause-compiled : goal.returns-clause-compiled
returns-clause-compiled g c source given asks tells told is =
    let words = texts c.args.words.now in
    let same = same_answer c.write_status_line.result c.do_words-status.result (ap is_answer is) c.write_status_line.ensures.ends in
    let answers : is_answer c.do_words-status.result ≡ true = ap is_answer (sym same ∙ is) in
    let found = c.do_words-status.ensures.answered source given tells told answers in
    let gives = c.do_words-status.ensures.answer source given found.0 tells told found.1 answers in
    let made = answer_of_command (code_request_of words) (request_of words) (generated_of words) Compile source given found.0 asks found.1 in
    c.what_is_written_runs_as_its_source.ensures.compiled source given made.0 found.0 _ _ made.1 (sym gives.ends ∙ sym same ∙ is) gives.writes

pub returns-clause-listed : goal.returns-clause-listed
returns-clause-listed g c source given asks tells told is =
    let words = texts c.args.words.now in
    let same = same_answer c.write_status_line.result c.do_words-status.result (ap is_answer is) c.write_status_line.ensures.ends in
    let answers : is_answer c.do_words-status.result ≡ true = ap is_answer (sym same ∙ is) in
    let found = c.do_words-status.ensures.answered source given tells told answers in
    let gives = c.do_words-status.ensures.answer source given found.0 tells told found.1 answers in
    let made = answer_of_command (code_request_of words) (request_of words) (generated_of words) Listing source given found.0 asks found.1 in
    c.what_is_written_runs_as_its_source.ensures.listed source given made.0 found.0 _ _ made.1 (sym gives.ends ∙ sym same ∙ is) gives.writes

pub returns-clause-generated : goal.returns-clause-generated
returns-clause-generated g c processes asks =
    ran_so processes c.write_status_line.result c.do_words-status.result _ _ (λ is. same_answer c.write_status_line.result c.do_words-status.result is c.write_status_line.ensures.ends) (c.do_words-status.ensures.generated processes asks)

pub returns-clause-none_written : goal.returns-clause-none_written
returns-clause-none_written g c nothing is =
    unwritten c.args.out.now c.do_words-status.new.out c.do_words-status.result (c.write_status_line.ensures.wants is) (c.do_words-status.ensures.at_the_end nothing)

pub returns-clause-unread : goal.returns-clause-unread
returns-clause-unread g c idle is =
    elim c.write_status_line.ensures.ends [
      | inl same ↦ c.do_words-status.ensures.unread idle (sym same ∙ is)
      | inr other ↦ elim other [
        | inl memory ↦ let no : Memory ≡ InputFault = sym memory ∙ is in cc no
        | inr fault ↦ let no : WriteFault ≡ InputFault = sym fault.0 ∙ is in cc no
      ]
    ]
