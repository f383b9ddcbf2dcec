use Rattle.std.proofs.Common.{[], None, refl, sym, subst}
use Rattle.command_line.specs.Given.{asked}
use Rattle.command_line.specs.Words.{Request, texts}
use Rattle.sim_base.specs.declared.limits.Limits.{Limits}
use Rattle.sim_run.specs.RunEnds.{TakesNothing}
use Rattle.sim_driver.specs.Answer.{Answer}
use Rattle.sim_driver.specs.Output.{Exactly}
use Rattle.sim_driver.specs.declared.status.Status.TheVariants.{Usage}
use Rattle.sim_driver.proofs.Generated.{answer_generated, not_both, ran_that, to_generated}
use Rattle.sim_driver.proofs.Requests.{answer_of, cut_of, limits_of_request, tells_file}
use Rattle.sim_driver.proofs.command.run_command.Goals as goal

pub returns-in-None-generated_of-clause-answered : goal.returns-in-None-generated_of-clause-answered
returns-in-None-generated_of-clause-answered g c source given tells told is =
    let usage : Answer = record { status = Usage; output = Exactly [] } in
    answer_generated (texts c.args.words.now) source given None c.in-None.ensures c.in-None-generated_of.ensures.value (usage, refl)

pub returns-in-Some-generated_of-clause-answered : goal.returns-in-Some-generated_of-clause-answered
returns-in-Some-generated_of-clause-answered g c source given tells told is =
    answer_generated (texts c.args.words.now) source given _ c.in-None.ensures c.in-Some-generated_of.ensures.value (c.run_generated.ensures.runs.known is)

pub returns-in-Some-generated_of-clause-answer : goal.returns-in-Some-generated_of-clause-answer
returns-in-Some-generated_of-clause-answer g c source given answer tells told means is =
    c.run_generated.ensures.runs.gives answer (to_generated (texts c.args.words.now) source given _ answer c.in-None.ensures c.in-Some-generated_of.ensures.value means) is

pub returns-in-Some-generated_of-clause-prefix : goal.returns-in-Some-generated_of-clause-prefix
returns-in-Some-generated_of-clause-prefix g c source given answer tells told means =
    c.run_generated.ensures.runs.begins answer (to_generated (texts c.args.words.now) source given _ answer c.in-None.ensures c.in-Some-generated_of.ensures.value means)

pub returns-in-Some-generated_of-clause-generated : goal.returns-in-Some-generated_of-clause-generated
returns-in-Some-generated_of-clause-generated g c processes asks =
    ran_that (texts c.args.words.now) _ processes c.run_generated.result _ _ c.in-Some-generated_of.ensures.value asks c.run_generated.ensures.runs

pub returns-in-Some-clause-generated : goal.returns-in-Some-clause-generated
returns-in-Some-clause-generated g c processes asks = absurd (not_both (texts c.args.words.now) (asked c.in-Some.field-0) processes c.in-Some.ensures asks)

pub returns-in-Some-clause-answered : goal.returns-in-Some-clause-answered
returns-in-Some-clause-answered g c source given tells told is =
    let words = texts c.args.words.now in
    let request : Request = asked c.in-Some.field-0 in
    answer_of words source given request c.in-Some.ensures
    (c.answer_request.ensures.answered source given (tells_file (g.F.Files.content c.args.files.now) words source request c.in-Some.ensures tells) told is)

pub returns-in-Some-clause-cut : goal.returns-in-Some-clause-cut
returns-in-Some-clause-cut g c source given tells told is =
    let words = texts c.args.words.now in
    let request : Request = asked c.in-Some.field-0 in
    cut_of (g.I.Source.faults c.args.input.now) (g.I.Source.faults c.answer_request.new.input) words source given request _ _ c.in-Some.ensures
    (c.answer_request.ensures.cut source given (tells_file (g.F.Files.content c.args.files.now) words source request c.in-Some.ensures tells) told is)

pub returns-in-Some-clause-untouched : goal.returns-in-Some-clause-untouched
returns-in-Some-clause-untouched g c source rule line tells compiles =
    let words = texts c.args.words.now in
    let request : Request = asked c.in-Some.field-0 in
    c.answer_request.ensures.untouched source rule line (tells_file (g.F.Files.content c.args.files.now) words source request c.in-Some.ensures tells) compiles

pub returns-in-Some-clause-takes : goal.returns-in-Some-clause-takes
returns-in-Some-clause-takes g c l source given s asks tells told compiles never =
    let words = texts c.args.words.now in
    let request : Request = asked c.in-Some.field-0 in
    c.answer_request.ensures.takes source given s (tells_file (g.F.Files.content c.args.files.now) words source request c.in-Some.ensures tells) told compiles
    (subst (λ (k : Limits). TakesNothing s k given) (sym (limits_of_request words l request c.in-Some.ensures asks)) never)
