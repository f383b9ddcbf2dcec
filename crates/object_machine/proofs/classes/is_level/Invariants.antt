use Rattle.std.proofs.Common.{◌≡◌}
use Rattle.sim_code.specs.Classes.{is_among, levels}
use Rattle.sim_code.specs.Code.{CodeOf}
use Rattle.object_machine.proofs.ClassRows.{Left, or_found}
use Rattle.object_machine.proofs.classes.is_level.Given as goal

abbrev pub invariant-loop : goal.invariant-loop
invariant-loop l = (code : CodeOf) → code.classes ≡ l.classes → is_among l.wanted (levels code l.class) ≡ or_found l.found (Left code l.class l.wanted l.counter l.at)
