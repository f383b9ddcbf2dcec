use Rattle.object_machine.proofs.AllHanded.{HandedAll}
use Rattle.object_machine.proofs.handing.hand_over_all.Given as goal

abbrev pub invariant-loop-place : goal.invariant-loop-place
invariant-loop-place l = HandedAll l.fn.arrays l.arrays l.stack l.at l.count l.owner l.place
