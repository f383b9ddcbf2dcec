use Rattle.std.proofs.Common.{◌≡◌, ◌+◌, ◌-◌, ℤ, List, []}
use Rattle.sim_code.specs.Outcome.{World, Run}
use Rattle.sim_code.specs.Events.{pop_integers}
use Rattle.sim_code.specs.Machine.{Machine, Value, plain}
use Rattle.frame_arena.specs.Stacks.{values_of, integers_from}
use Rattle.frame_arena.proofs.stack.pop_integers.Given as goal

abbrev pub invariant-loop : goal.invariant-loop
invariant-loop l =
    (l.at + l.counter ≡ l.depth)
    × ((o : World) (go : List ℤ → List Value → Run Machine) →
    pop_integers plain l.count [] (values_of l.depth l.stack) o go
    ≡ pop_integers plain (l.count - l.counter) (integers_from l.stack l.at l.counter) (values_of l.at l.stack) o go)
