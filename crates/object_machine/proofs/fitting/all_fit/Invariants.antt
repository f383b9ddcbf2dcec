use Rattle.std.proofs.Common.{◌≡◌, drop}
use Rattle.sim_code.specs.Code.{CodeOf}
use Rattle.sim_code.specs.Formals.{all_fit}
use Rattle.object_machine.proofs.fitting.all_fit.Given as goal

abbrev pub invariant-loop-at : goal.invariant-loop-at
invariant-loop-at l = (code : CodeOf) → code.classes ≡ l.classes → all_fit code l.formals l.actuals ≡ all_fit code (drop l.at l.formals) (drop l.at l.actuals)
