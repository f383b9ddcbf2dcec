use Rattle.std.proofs.Common.{Err, ap, arith, subst, sym}
use Rattle.sim_code.specs.Code.{CodeOf}
use Rattle.code_file.proofs.Lists.{small_from}
use Rattle.code_run.specs.CodeEnds.{TakesNothing}
use Rattle.sim_driver.proofs.CodeAnswers.{file_answer, refused_answer, refused_gives, run_answer}
use Rattle.sim_driver.proofs.executing.exec_bytes.Goals as goal

pub returns-in-Ok-clause-answered : goal.returns-in-Ok-clause-answered
returns-in-Ok-clause-answered g c input told = file_answer c.args.limits.now c.args.bytes.now input c.in-Ok.code c.in-Ok.ensures.found (c.exec_code.ensures.answered input told)

pub returns-in-Ok-clause-answer : goal.returns-in-Ok-clause-answer
returns-in-Ok-clause-answer g c input answer told means is =
    c.exec_code.ensures.answer input answer told
    (run_answer c.args.limits.now c.args.bytes.now input c.in-Ok.code answer c.in-Ok.ensures.only c.in-Ok.ensures.refused means) is

pub returns-in-Ok-clause-prefix : goal.returns-in-Ok-clause-prefix
returns-in-Ok-clause-prefix g c input answer told means =
    c.exec_code.ensures.prefix input answer told
    (run_answer c.args.limits.now c.args.bytes.now input c.in-Ok.code answer c.in-Ok.ensures.only c.in-Ok.ensures.refused means)

pub returns-in-Ok-clause-cut : goal.returns-in-Ok-clause-cut
returns-in-Ok-clause-cut g c input told is = record { code = c.in-Ok.code; spells = c.in-Ok.ensures.found; cut = c.exec_code.ensures.cut input told is }

pub returns-in-Ok-clause-untouched : goal.returns-in-Ok-clause-untouched
returns-in-Ok-clause-untouched g c rule place breaks = absurd (c.in-Ok.ensures.refused rule place breaks)

pub returns-in-Ok-clause-takes : goal.returns-in-Ok-clause-takes
returns-in-Ok-clause-takes g c input code told spells never =
    c.exec_code.ensures.takes input told (subst (λ (k : CodeOf). TakesNothing k c.args.limits.now input) (sym (c.in-Ok.ensures.only code spells)) never)

pub returns-in-Err-Broken-clause-answered : goal.returns-in-Err-Broken-clause-answered
returns-in-Err-Broken-clause-answered g c input told = refused_answer c.args.limits.now c.args.bytes.now input c.in-Err-Broken.rule c.in-Err-Broken.place (rw c.in-Err-Broken.field-0-is at c.in-Err-Broken.ensures.broken)

pub returns-in-Err-Broken-clause-answer : goal.returns-in-Err-Broken-clause-answer
returns-in-Err-Broken-clause-answer g c input answer told means is =
    rw c.in-Err-Broken.field-0-is
    (refused_gives c.args.limits.now c.args.bytes.now input c.in-Err-Broken.rule c.in-Err-Broken.place answer (g.O.Sink.written c.args.out.now) (Err c.in-Err-Broken.field-0) (ap Err c.in-Err-Broken.field-0-is) c.in-Err-Broken.ensures.only c.in-Err-Broken.ensures.refused means)

pub returns-in-Err-Memory-clause-answered : goal.returns-in-Err-Memory-clause-answered
returns-in-Err-Memory-clause-answered g c input told =
    let one = c.one_answer.ensures c.args.limits.now c.args.bytes.now input (small_from c.args.bytes.now (λ i. omega (arith, c.type_inv.bytes i))) in
    (one.answer, one.means)
