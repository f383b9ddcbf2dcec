-- The images of the machine by their numbers.
use Rattle.std.specs.Prelude.{ℕ, zero, suc, ◌+◌, ◌≤◌, Option, Some, None}
use Rattle.sim_values.specs.declared.value.TextVal.{TextVal}
use Rattle.object_machine.specs.declared.machine.Images.{Images}

-- the image of sysin, 0, or of sysout, 1
abbrev pub image_in : Images → ℕ → Option TextVal
image_in i zero = Some i.input.image
image_in i (suc zero) = Some i.output
image_in i (suc (suc n)) = None

-- a position in an image, or behind its last character
abbrev pub IsInside : ℕ → Option TextVal → Type 0
IsInside pos None = Unit {0}
IsInside pos (Some t) = (1 ≤ pos) × (pos ≤ t.length + 1)
