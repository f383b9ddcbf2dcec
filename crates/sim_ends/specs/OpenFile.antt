-- What is left of a file of the system.
use Rattle.std.specs.Prelude.{ℕ, List, Option, Some, None}

-- what an opened file has left, where it tells it
abbrev pub left_of : {F : Type 0} → (F → Option (List ℕ)) → Option F → Option (List ℕ)
left_of remaining None = None
left_of remaining (Some file) = remaining file
