use Rattle.std.proofs.Common.{◌≡◌}
use Rattle.sim_code.specs.Classes.{levels}
use Rattle.sim_code.specs.Code.{CodeOf}
use Rattle.object_machine.specs.Levelling.{number_of}
use Rattle.object_machine.proofs.LevelRows.{Counted}
use Rattle.object_machine.proofs.levels.count_levels.Given as goal

abbrev pub invariant-loop-outward : goal.invariant-loop-outward
invariant-loop-outward l = (code : CodeOf) → code.classes ≡ l.classes → number_of (levels code l.class) ≡ Counted code l.class l.outward l.at
