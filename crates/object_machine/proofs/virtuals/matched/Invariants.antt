use Rattle.std.proofs.Common.{◌≡◌, drop}
use Rattle.sim_code.specs.Virtuals.{matched}
use Rattle.object_machine.proofs.virtuals.matched.Given as goal

abbrev pub invariant-loop-entry : goal.invariant-loop-entry
invariant-loop-entry l = matched l.number l.matches ≡ matched l.number (drop l.entry-index l.matches)
