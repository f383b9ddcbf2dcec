use Rattle.std.proofs.Common.{◌≡◌}
use Rattle.sim_code.specs.Classes.{is_marked, levels}
use Rattle.sim_code.specs.Code.{CodeOf}
use Rattle.object_machine.specs.Enrolling.{any_level}
use Rattle.object_machine.proofs.ClassRows.{or_found}
use Rattle.object_machine.proofs.LevelMarks.{Unasked}
use Rattle.object_machine.proofs.marks.has_mark.Given as goal

abbrev pub invariant-loop : goal.invariant-loop
invariant-loop l = (code : CodeOf) → code.blocks ≡ l.blocks → code.classes ≡ l.classes → any_level (is_marked code l.mark) (levels code l.class) ≡ or_found l.found (Unasked (is_marked code l.mark) code l.class l.counter l.at)
