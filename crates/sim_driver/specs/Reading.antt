-- How far a file is read.
use Rattle.std.specs.Prelude.{◌≤◌, ℕ, ◌+◌, List, length, Option, Some, None}

-- of these bytes at most so many were taken, where what is left is told; where the bytes were told, it is
abbrev pub TakesAtMost : ℕ → List ℕ → Option (List ℕ) → Type 0
TakesAtMost most content None = ⊥
TakesAtMost most content (Some left) = length content ≤ most + length left
