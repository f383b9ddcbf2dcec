use Rattle.std.proofs.Common.{◌≡◌}
use Rattle.sim_code.specs.Classes.{process_class}
use Rattle.sim_code.specs.Code.{CodeOf}
use Rattle.object_machine.proofs.ProcessClasses.{Unsought}
use Rattle.object_machine.proofs.marks.process_class.Given as goal

abbrev pub invariant-loop : goal.invariant-loop
invariant-loop l = (code : CodeOf) → code.blocks ≡ l.blocks → code.classes ≡ l.classes → process_class code l.class ≡ Unsought code l.found l.class l.counter l.at
