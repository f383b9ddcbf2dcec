use Rattle.object_machine.proofs.Handovers.{Handed}
use Rattle.object_machine.proofs.handing.hand_over.Given as goal

abbrev pub invariant-loop-place : goal.invariant-loop-place
invariant-loop-place l = Handed l.fn.arrays l.arrays l.formals l.stack l.at l.count l.owner l.place
