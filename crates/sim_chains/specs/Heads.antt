-- The system head of an object: the nearest instance outward along its textual enclosers that is no object.
use Rattle.std.specs.Prelude.{ℕ, zero, suc, Bool, if◌then◌else◌, Option, Some, None}

module _ (parent : ℕ → Option ℕ) (is_object : ℕ → Bool) where
  -- among so many enclosers at most
  abbrev pub head_within : ℕ → Option ℕ → Option ℕ
  head_within n None = None
  head_within zero (Some p) = None
  head_within (suc n) (Some p) = if is_object p then head_within n (parent p) else Some p

  -- an instance is made after its encloser, so that it has no more enclosers than its number
  abbrev pub head_of : ℕ → Option ℕ
  head_of x = head_within x (parent x)
