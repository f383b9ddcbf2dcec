-- Arrays. Their elements are plain values and their owners are instances, so that the meaning and the machine have them in common.
use Rattle.std.specs.Prelude.{ℕ, ◌+◌, ◌*◌, Bool, true, false, not, ◌&&◌, ◌==◌, if◌then◌else◌, ℤ, int_le, ◌-ℤ◌, List, [], ◌∷◌, ◌++◌, length, replicate, slice_get, slice_set, Option, Some, None, Result, Ok, Err}
use Rattle.sim_base.specs.declared.limits.Limits.{Limits}
use Rattle.sim_base.specs.declared.run_error.RunError.{RunError}
use Rattle.sim_base.specs.declared.run_error.RunError.TheVariants.{SubscriptOutOfBounds, WrongNumberOfSubscripts}
use Rattle.sim_values.specs.declared.kind.Kind.{Kind}
use Rattle.sim_values.specs.Plain.{Plain, initial}
use Rattle.sim_values.specs.Words.{array_words, count_from, element_count, extent_of}
use Rattle.sim_code.specs.Outcome.{ArrayOf, Run, World}
use Rattle.sim_code.specs.Events.{computing, having, pop_integers, popping, returning, taking}

-- ---- one array

abbrev pub words_of_array : ArrayOf → ℕ
words_of_array a = 3 + element_count a.bounds + 2 * length a.bounds

-- lower and upper bounds in turn, as pairs
abbrev pub pairs : List ℤ → List (ℤ × ℤ)
pairs [] = []
pairs (lower ∷ []) = []
pairs (lower ∷ upper ∷ rest) = (lower, upper) ∷ pairs rest

abbrev pub is_inside : ℤ × ℤ → ℤ → Bool
is_inside bounds i = int_le bounds.0 i && int_le i bounds.1

-- whether there is one subscript for each dimension
abbrev pub as_many : List (ℤ × ℤ) → List ℤ → Bool
as_many [] [] = true
as_many (b ∷ bs) (i ∷ rest) = as_many bs rest
as_many _ _ = false

abbrev pub are_inside : List (ℤ × ℤ) → List ℤ → Bool
are_inside (b ∷ bs) (i ∷ rest) = is_inside b i && are_inside bs rest
are_inside _ _ = true

-- the place of an element among those whose first subscripts are given
abbrev pub place_from : ℕ → List (ℤ × ℤ) → List ℤ → ℕ
place_from at (b ∷ bs) (i ∷ rest) = place_from (at * extent_of b + count_from (i -ℤ b.0)) bs rest
place_from at _ _ = at

-- the place of an element: E5 for a wrong number of subscripts, E4 for a subscript out of its bounds
unfoldable pub element_place : List (ℤ × ℤ) → List ℤ → Result ℕ RunError
element_place bounds subscripts =
    if not (as_many bounds subscripts) then Err WrongNumberOfSubscripts
    else if are_inside bounds subscripts then Ok (place_from 0 bounds subscripts)
    else Err SubscriptOutOfBounds

-- ---- the arrays of the world

abbrev pub unless_given : Option ArrayOf → Option ArrayOf
unless_given None = None
unless_given (Some a) = if a.given_back then None else Some a

-- the array of a number, if it was not given back
abbrev pub live_array : World → ℕ → Option ArrayOf
live_array o a = unless_given (slice_get o.arrays a)

abbrev pub element_in : Option ArrayOf → ℕ → Option Plain
element_in None i = None
element_in (Some a) i = slice_get a.elements i

-- the value of an element
abbrev pub element : World → (array index : ℕ) → Option Plain
element o a i = element_in (live_array o a) i

abbrev pub with_array : World → ℕ → ArrayOf → World
with_array o n a = record o { arrays = slice_set o.arrays n a }

abbrev pub element_set_in : World → ℕ → ℕ → Plain → Option ArrayOf → Option Plain → Option World
element_set_in o n i v (Some a) (Some old) = Some (with_array o n (record a { elements = slice_set a.elements i v }))
element_set_in o n i v _ _ = None

-- the world with another value of an element; none where there is no such element
abbrev pub element_set : World → (array index : ℕ) → Plain → Option World
element_set o n i v = element_set_in o n i v (live_array o n) (element o n i)

abbrev pub added : World → ArrayOf → World
added o a = record o { arrays = o.arrays ++ a ∷ [] }

-- ---- events

-- A new array with these bounds, of elements of a kind. E13 is judged before the words.
unfoldable pub making_array : {S : Type 0} → Limits → (line owner : ℕ) → Kind → List (ℤ × ℤ) → World → (ℕ → World → Run S) → Run S
making_array l line owner kind bounds o go =
    computing line (array_words bounds) o (λ wanted. taking l line wanted o (λ p.
    go (length p.arrays) (added p (record { bounds = bounds; elements = replicate (element_count bounds) (initial kind); owner = owner; kept = false; given_back = false }))))

-- an array with the bounds and elements of another
unfoldable pub copying_array : {S : Type 0} → Limits → (line owner array : ℕ) → World → (ℕ → World → Run S) → Run S
copying_array l line owner array o go =
    having (live_array o array) o (λ a. taking l line (words_of_array a) o (λ p.
    go (length p.arrays) (added p (record { bounds = a.bounds; elements = a.elements; owner = owner; kept = false; given_back = false }))))

-- an array is kept
unfoldable pub keeping_array : {S : Type 0} → (array : ℕ) → World → (World → Run S) → Run S
keeping_array array o go = having (live_array o array) o (λ a. go (with_array o array (record a { kept = true })))

-- an array and as many subscripts, which give the place of an element
unfoldable pub finding_element : {V S : Type 0} → (plain : V → Option Plain) → (array_in : V → Option ℕ) → ℕ → (line : ℕ) → List V → World → (ℕ → ℕ → List V → Run S) → Run S
finding_element plain array_in n line stack o go =
    pop_integers plain n [] stack o (λ subscripts rest. popping rest o (λ v rest. having (array_in v) o (λ array.
    having (live_array o array) o (λ a. computing line (element_place a.bounds subscripts) o (λ index. go array index rest)))))

-- ---- owners

-- whether an array is given back when this instance ends
abbrev pub goes_with : ℕ → ArrayOf → Bool
goes_with owner a = a.owner == owner && not a.kept && not a.given_back

abbrev pub words_with : ℕ → List ArrayOf → ℕ
words_with owner [] = 0
words_with owner (a ∷ rest) = (if goes_with owner a then words_of_array a else 0) + words_with owner rest

abbrev pub given_with : ℕ → List ArrayOf → List ArrayOf
given_with owner [] = []
given_with owner (a ∷ rest) = (if goes_with owner a then record a { given_back = true } else a) ∷ given_with owner rest

-- an instance gives back its words, and its arrays with theirs
unfoldable pub giving_back : World → (instance words : ℕ) → World
giving_back o instance words = record (returning o (words + words_with instance o.arrays)) { arrays = given_with instance o.arrays }

abbrev pub owned_by : ℕ → Option ArrayOf → World → ℕ → World
owned_by owner None o n = o
owned_by owner (Some a) o n = with_array o n (record a { owner = owner })

-- arrays go over to an instance
unfoldable pub handed_over : (owner : ℕ) → List ℕ → World → World
handed_over owner [] o = o
handed_over owner (n ∷ rest) o = handed_over owner rest (owned_by owner (slice_get o.arrays n) o n)
