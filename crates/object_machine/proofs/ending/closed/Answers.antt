use Rattle.object_machine.proofs.Closings.{closed_part}
use Rattle.object_machine.proofs.Whole.{input_answers}
use Rattle.object_machine.proofs.ending.closed.Goals as goal

pub returns-clause-ran : goal.returns-clause-ran
returns-clause-ran g c code l from before source faults faults_now s = closed_part faults faults_now code l from c.args.ending c.args.storage.now before _ _ s (c.close.ensures.cut c.if-close.false)

pub returns-then-close-clause-input : goal.returns-then-close-clause-input
returns-then-close-clause-input g c before now e = input_answers before now c.args.ending c.requires.read e
