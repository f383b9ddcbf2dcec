use Rattle.object_machine.specs.Standing.{Leaves, Obeys}
use Rattle.object_machine.proofs.stepping.without_ports.Goals as goal

pub returns-in-WriteFault-clause-row : goal.returns-in-WriteFault-clause-row
unfolding Obeys Leaves
returns-in-WriteFault-clause-row c l line does p p2 r r2 stack stack2 below below2 now now2 h before o m s = tt

pub returns-in-InputFault-clause-row : goal.returns-in-InputFault-clause-row
unfolding Obeys Leaves
returns-in-InputFault-clause-row c l line does p p2 r r2 stack stack2 below below2 now now2 h before o m s = tt
