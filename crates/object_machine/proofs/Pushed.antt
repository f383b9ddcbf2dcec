-- A value that is pushed where there is room.
use Rattle.std.proofs.Common.{◌≡◌, ℕ, ◌<◌, List, ◌∷◌, length, ap, arith}
use Rattle.std.specs.Prelude.{true, nat_lt}
use Rattle.sim_code.specs.Events.{when}
use Rattle.sim_code.specs.Machine.{Machine, Value, pushing}
use Rattle.sim_code.specs.Outcome.{Run, World}

pub pushes : (room : ℕ) (values : List Value) (v : Value) (o : World) (go : List Value → Run Machine) → length values < room → pushing room values v o go ≡ go (v ∷ values)
unfolding pushing when
pushes room values v o go h =
    let lt : nat_lt (length values) room ≡ true = grind (arith, h) in
    ap (λ b. when b o (go (v ∷ values))) lt
