-- What an address leads to.
use Rattle.std.specs.Prelude.{ℕ, zero, ℤ, pos, Bool, true, false, Option, Some, None}
use Rattle.sim_code.specs.Instances.{Place}
use Rattle.sim_code.specs.Machine.{Frames, Value, value_at}
use Rattle.sim_code.specs.Outcome.{World}

-- the value at an address, if it is one
abbrev pub value_there : World → Frames → Option (Place ℕ ℕ) → Option Value
value_there o m None = None
value_there o m (Some p) = value_at o m p

-- whether an operand names no class
abbrev pub is_unqualified : ℤ → Bool
is_unqualified (pos zero) = true
is_unqualified _ = false
