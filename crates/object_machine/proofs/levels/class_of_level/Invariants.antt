use Rattle.std.proofs.Common.{◌≡◌, ◌-◌, ℕ, List, length}
use Rattle.std.specs.Prelude.{Some}
use Rattle.sim_code.specs.Classes.{levels}
use Rattle.sim_code.specs.Code.{CodeOf}
use Rattle.object_machine.proofs.LevelRows.{Rest}
use Rattle.object_machine.proofs.levels.class_of_level.Given as goal

abbrev pub invariant-loop : goal.invariant-loop
invariant-loop l = (code : CodeOf) (cs : List ℕ) → code.classes ≡ l.classes → levels code l.fn.own.class ≡ Some cs → length cs ≡ l.fn.own.count → Rest code cs (l.fn.own.class - l.counter) l.at (l.fn.own.count - l.counter) l.level
