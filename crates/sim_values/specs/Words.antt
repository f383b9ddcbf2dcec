-- How many words of storage instances, arrays and texts take.
use Rattle.std.specs.Prelude.{ℕ, ◌+◌, ◌*◌, ◌^◌, ◌/◌, Bool, ℤ, pos, negsuc, ◌+ℤ◌, ◌-ℤ◌, List, [], ◌∷◌, length, nat_lt, ◌==◌, Result, Ok, Err, if◌then◌else◌}
use Rattle.sim_base.specs.declared.run_error.RunError.{RunError}
use Rattle.sim_base.specs.declared.run_error.RunError.TheVariants.{ArrayTooLarge}

-- an instance: four words, one for each cell, and four more for a process
abbrev pub instance_words : ℕ → Bool → ℕ
instance_words cells process = 4 + cells + (if process then 4 else 0)

-- a new text: two words and one for every 8 characters begun; a text of length 0 costs nothing
abbrev pub text_words : ℕ → ℕ
text_words n = if n == 0 then 0 else 2 + (n + 7) / 8

-- z, or 0 where it is negative
abbrev pub count_from : ℤ → ℕ
count_from (pos n) = n
count_from (negsuc n) = 0

-- how many subscripts a dimension with these bounds has; none where the upper bound is below the lower one
abbrev pub extent_of : ℤ × ℤ → ℕ
extent_of bounds = count_from ((bounds.1 -ℤ bounds.0) +ℤ pos 1)

-- how many elements an array of these dimensions has
abbrev pub element_count : List (ℤ × ℤ) → ℕ
element_count [] = 1
element_count (bounds ∷ others) = extent_of bounds * element_count others

-- an array: three words, one for each element and two for each dimension; E13 for more than 2^31 elements
abbrev pub array_words : List (ℤ × ℤ) → Result ℕ RunError
array_words dimensions =
    if nat_lt (2 ^ 31) (element_count dimensions)
    then Err ArrayTooLarge
    else Ok (3 + element_count dimensions + 2 * length dimensions)

-- these words are not left in the budget
abbrev pub is_exhausted : (budget used wanted : ℕ) → Bool
is_exhausted budget used wanted = nat_lt budget (used + wanted)
