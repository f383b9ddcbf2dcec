use Rattle.std.proofs.Common.{◌≡◌, ◌<◌, ◌^◌, ℕ, Bool, Option, ◌-◌}
use Rattle.sim_scope.specs.Along.{Gives, some_along}
use Rattle.sim_scope.proofs.along.some_along.Given as goal

abbrev pub invariant-loop-step : goal.invariant-loop-step
invariant-loop-step g l =
    (l.block < 2 ^ 32) × ((n : ℕ → Option ℕ) (t : ℕ → Bool) → Gives (goal.N-post g) l.next n → Gives (goal.T-post g) l.test t
    → some_along n l.most t l.fn.block ≡ some_along n (l.most - l.step) t l.block)
