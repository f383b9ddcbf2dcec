use Rattle.std.proofs.Common.{◌≡◌, ◌<◌, ◌^◌, ℕ, Option, ◌-◌}
use Rattle.sim_scope.specs.Along.{Gives, first_along}
use Rattle.sim_scope.proofs.along.first_along.Given as goal

abbrev pub invariant-loop-step : goal.invariant-loop-step
invariant-loop-step g l =
    (l.block < 2 ^ 32) × ((n : ℕ → Option ℕ) (t : ℕ → Option _) → Gives (goal.N-post g) l.next n → Gives (goal.L-post g) l.look t
    → first_along n l.most t l.fn.block ≡ first_along n (l.most - l.step) t l.block)
