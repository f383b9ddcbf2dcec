use Rattle.code_run.specs.declared.running.CodeFailure.TheVariants.{Input, Memory, Output}
use Rattle.sim_driver.proofs.CodeAnswers.{broken_begins, broken_by, end_answer, ran_begins, ran_gives}
use Rattle.sim_driver.proofs.executing.exec_code.Goals as goal

pub returns-in-Ok-clause-answered : goal.returns-in-Ok-clause-answered
returns-in-Ok-clause-answered g c input told = end_answer c.args.limits.now c.args.code input (c.in-Ok.ensures.ends input)

pub returns-in-Err-Input-clause-answered : goal.returns-in-Err-Input-clause-answered
returns-in-Err-Input-clause-answered g c input told = end_answer c.args.limits.now c.args.code input (c.in-Err-Input.ensures.ends input)

pub returns-in-Err-Output-clause-answered : goal.returns-in-Err-Output-clause-answered
returns-in-Err-Output-clause-answered g c input told = end_answer c.args.limits.now c.args.code input (c.in-Err-Output.ensures.ends input)

pub returns-in-Err-Memory-clause-answered : goal.returns-in-Err-Memory-clause-answered
returns-in-Err-Memory-clause-answered g c input told = end_answer c.args.limits.now c.args.code input (c.in-Err-Memory.ensures.ends input)

pub returns-in-Ok-clause-answer : goal.returns-in-Ok-clause-answer
returns-in-Ok-clause-answer g c input answer told means is = ran_gives c.args.limits.now c.args.code input _ _ c.in-Ok.end c.status_of_end.result answer (c.in-Ok.ensures.ran input told) c.status_of_end.ensures.same means

pub returns-in-Ok-clause-prefix : goal.returns-in-Ok-clause-prefix
returns-in-Ok-clause-prefix g c input answer told means = ran_begins c.args.limits.now c.args.code input _ _ c.in-Ok.end answer (c.in-Ok.ensures.ran input told) means

pub returns-in-Err-Input-clause-prefix : goal.returns-in-Err-Input-clause-prefix
returns-in-Err-Input-clause-prefix g c input answer told means =
    broken_begins c.args.limits.now c.args.code input _ _ answer
    (broken_by c.args.limits.now c.args.code input _ _ (g.I.Source.faults c.args.input.now) (g.I.Source.faults c.exec.new.input) c.in-Err-Input.field-0 Input c.in-Err-Input.field-0-is (c.in-Err-Input.ensures.broken input told)).1 means

pub returns-in-Err-Output-clause-prefix : goal.returns-in-Err-Output-clause-prefix
returns-in-Err-Output-clause-prefix g c input answer told means =
    broken_begins c.args.limits.now c.args.code input _ _ answer
    (broken_by c.args.limits.now c.args.code input _ _ (g.I.Source.faults c.args.input.now) (g.I.Source.faults c.exec.new.input) c.in-Err-Output.field-0 Output c.in-Err-Output.field-0-is (c.in-Err-Output.ensures.broken input told)) means

pub returns-in-Err-Memory-clause-prefix : goal.returns-in-Err-Memory-clause-prefix
returns-in-Err-Memory-clause-prefix g c input answer told means =
    broken_begins c.args.limits.now c.args.code input _ _ answer
    (broken_by c.args.limits.now c.args.code input _ _ (g.I.Source.faults c.args.input.now) (g.I.Source.faults c.exec.new.input) c.in-Err-Memory.field-0 Memory c.in-Err-Memory.field-0-is (c.in-Err-Memory.ensures.broken input told)) means

pub returns-in-Err-Input-clause-cut : goal.returns-in-Err-Input-clause-cut
returns-in-Err-Input-clause-cut g c input told is =
    (broken_by c.args.limits.now c.args.code input _ _ (g.I.Source.faults c.args.input.now) (g.I.Source.faults c.exec.new.input) c.in-Err-Input.field-0 Input c.in-Err-Input.field-0-is (c.in-Err-Input.ensures.broken input told)).0
