use Rattle.sim_driver.proofs.AtTheEnd.{ended}
use Rattle.sim_driver.proofs.Answering.{answered, given, begun, begun_whole}
use Rattle.sim_driver.proofs.command.answer_source.Goals as goal

pub returns-in-Ok-clause-answered : goal.returns-in-Ok-clause-answered
returns-in-Ok-clause-answered g c input told is = answered c.args.command c.args.limits.now c.args.source.now input (c.in-Ok.ensures.known input told)

pub returns-in-Ok-clause-answer : goal.returns-in-Ok-clause-answer
returns-in-Ok-clause-answer g c input answer told means is =
    given c.args.command c.args.limits.now c.args.source.now input c.in-Ok.ending c.status.result _ _ answer c.status.ensures.same (λ meaning. c.in-Ok.ensures.does input meaning told) means

pub returns-in-Ok-clause-prefix : goal.returns-in-Ok-clause-prefix
returns-in-Ok-clause-prefix g c input answer told means = begun_whole c.args.command c.args.limits.now c.args.source.now input c.in-Ok.ending _ _ answer (λ meaning. c.in-Ok.ensures.does input meaning told) means

pub returns-in-Err-Input-clause-prefix : goal.returns-in-Err-Input-clause-prefix
returns-in-Err-Input-clause-prefix g c input answer told means = begun c.args.command c.args.limits.now c.args.source.now input _ _ answer (λ meaning. c.in-Err-Input.ensures.does input meaning told) means

pub returns-in-Err-Output-clause-prefix : goal.returns-in-Err-Output-clause-prefix
returns-in-Err-Output-clause-prefix g c input answer told means = begun c.args.command c.args.limits.now c.args.source.now input _ _ answer (λ meaning. c.in-Err-Output.ensures.does input meaning told) means

pub returns-in-Err-Memory-clause-prefix : goal.returns-in-Err-Memory-clause-prefix
returns-in-Err-Memory-clause-prefix g c input answer told means = begun c.args.command c.args.limits.now c.args.source.now input _ _ answer (λ meaning. c.in-Err-Memory.ensures.does input meaning told) means

pub returns-in-Ok-clause-at_the_end : goal.returns-in-Ok-clause-at_the_end
returns-in-Ok-clause-at_the_end g c idle = ended c.args.out.now _ c.in-Ok.ending c.status.result c.status.ensures.same (c.in-Ok.ensures.at_the_end idle)
