-- What arrays in regions stand for. Regions are used again; arrays are numbered in the order in which they are made, and no number is
-- used again, so that an array that was given back leaves no trace but in the list of arrays of the world.
use Rattle.std.specs.Prelude.{◌≡◌, ℕ, ◌^◌, ◌<◌, ◌≤◌, ℤ, Bool, true, false, not, ◌&&◌, ◌==◌, List, [], length, map, replicate, get_or, slice_get, slice_set, Option, Some, None, ◌-ℤ◌, if◌then◌else◌}
use Rattle.sim_values.specs.declared.kind.Kind.{Kind}
use Rattle.sim_values.specs.declared.value.ArrayRef.{ArrayRef}
use Rattle.sim_values.specs.Plain.{initial}
use Rattle.sim_values.specs.Words.{count_from, element_count}
use Rattle.sim_code.specs.Outcome.{ArrayOf, World}
use Rattle.sim_code.specs.Arrays.{is_inside, live_array, owned_by, unless_given, with_array, words_of_array}
use Rattle.sim_code.specs.Machine.{Frames, Of}
use Rattle.frame_arena.specs.declared.slot.Slot.{Slot}
use Rattle.frame_arena.specs.declared.slot.SlotKind.{SlotKind}
use Rattle.frame_arena.specs.declared.slot.SlotKind.TheVariants as kind
use Rattle.frame_arena.specs.declared.frames.Frame.{Frame}
use Rattle.frame_arena.specs.Frames.{SlotLeads}
use Rattle.frame_arena.specs.Slots.{count_of, plain_of, value_of}
use Rattle.frame_arena.specs.Stacks.{slot_at}

-- ---- regions

-- A region: whether there is an array in it, or it is free; the number of that, the instance to which it belongs, and whether it is
-- kept; the next free region; its bounds; and its elements.
pub record RegionOf : Type 0 where
  pub live : Bool
  pub number : ℕ
  pub owner : ℕ
  pub kept : Bool
  pub next : ℕ
  pub bounds : List (ℤ × ℤ)
  pub elements : List Slot

-- All regions; how many arrays were made; a number above which no instance has an array that is given back with it; and the region that
-- became free last.
pub record ArraysOf : Type 0 where
  pub regions : List RegionOf
  pub made : ℕ
  pub newest : ℕ
  pub free : ℕ

abbrev pub no_region : RegionOf
no_region = record { live = false; number = 0; owner = 0; kept = false; next = 0; bounds = []; elements = [] }

abbrev pub region_at : List RegionOf → ℕ → RegionOf
region_at regions place = get_or regions place no_region

-- the array in a region
abbrev pub array_of : RegionOf → ArrayOf
array_of r = record { bounds = r.bounds; elements = map plain_of r.elements; owner = r.owner; kept = r.kept; given_back = false }

-- the array of a number lies at a place
abbrev pub Lies : List RegionOf → (place number : ℕ) → Type 0
Lies regions place number = (place < length regions) × ((region_at regions place).live ≡ true) × ((region_at regions place).number ≡ number)

-- ---- references to arrays

abbrev pub is_some : Option ArrayOf → Bool
is_some None = false
is_some (Some a) = true

abbrev pub array_at : List ArrayOf → ℕ → Option ArrayOf
array_at arrays n = unless_given (slice_get arrays n)

abbrev pub is_live_array : List ArrayOf → ℕ → Bool
is_live_array arrays n = is_some (array_at arrays n)

-- a reference to an array that was made says where it lies, as long as it is not given back
abbrev pub ArrayLeads : List RegionOf → List ArrayOf → ArrayRef → Type 0
ArrayLeads regions arrays r = (r.stamp < length arrays) × (is_live_array arrays r.stamp ≡ true → Lies regions r.array r.stamp)

abbrev pub names_array : SlotKind → Bool
names_array kind.Array = true
names_array kind.Element = true
names_array _ = false

abbrev pub array_reference : Slot → ArrayRef
array_reference s = record { array = s.name; stamp = count_of s.«data» }

abbrev pub array_number : Option ArrayRef → Option ℕ
array_number None = None
array_number (Some r) = Some r.stamp

-- the reference to an array in a slot, if it has one, leads to it
abbrev pub SlotLeadsArray : List RegionOf → List ArrayOf → Slot → Type 0
SlotLeadsArray regions arrays s = names_array s.kind ≡ true → ArrayLeads regions arrays (array_reference s)

-- each slot of a list leads
abbrev pub AllLeadArrays : List RegionOf → List ArrayOf → List Slot → Type 0
AllLeadArrays regions arrays slots = (at : ℕ) → SlotLeadsArray regions arrays (slot_at slots at)

-- the references to frames in elements lead
abbrev pub ElementsLead : List Frame → Frames → List RegionOf → Type 0
ElementsLead frames m regions = (place at : ℕ) → SlotLeads frames m (slot_at (region_at regions place).elements at)

-- ---- what the regions stand for

-- a region whose elements are plain values, as many as its bounds say, which is at most 2^31
pub record IsSound (r : RegionOf) : Type 0 where
  pub plain : (at : ℕ) → value_of (slot_at r.elements at) ≡ Of (plain_of (slot_at r.elements at))
  pub sized : length r.elements ≡ element_count r.bounds
  pub short : length r.elements ≤ 2 ^ 31

-- The arrays in the regions are the arrays that are not given back.
pub record HoldsArrays (a : ArraysOf) (arrays : List ArrayOf) : Type 0 where
  pub counted : a.made ≡ length arrays
  pub known : (place number : ℕ) → Lies a.regions place number → slice_get arrays number ≡ Some (array_of (region_at a.regions place))
  pub found : (number : ℕ) → is_live_array arrays number ≡ true → (place : ℕ) × Lies a.regions place number
  pub single : (place other number : ℕ) → Lies a.regions place number → Lies a.regions other number → place ≡ other
  pub sound : (place number : ℕ) → Lies a.regions place number → IsSound (region_at a.regions place)
  pub owners : (place number : ℕ) → Lies a.regions place number → (region_at a.regions place).kept ≡ false → (region_at a.regions place).owner ≤ a.newest

abbrev pub no_arrays : ArraysOf
no_arrays = record { regions = []; made = 0; newest = 0; free = 0 }

-- after a call: whether it was done, and then what the regions hold
abbrev pub ArraysAfter : Bool → ArraysOf → Option World → Type 0
ArraysAfter done a None = done ≡ false
ArraysAfter done a (Some o) = (done ≡ true) × HoldsArrays a o.arrays

-- every reference that led before leads after
abbrev pub KeepLeading : ArraysOf → List ArrayOf → ArraysOf → List ArrayOf → Type 0
KeepLeading old arrays new arrays2 = (r : ArrayRef) → ArrayLeads old.regions arrays r → ArrayLeads new.regions arrays2 r

abbrev pub KeepLeadingAfter : ArraysOf → List ArrayOf → ArraysOf → Option World → Type 0
KeepLeadingAfter old arrays new None = Unit {0}
KeepLeadingAfter old arrays new (Some o) = KeepLeading old arrays new o.arrays

-- ---- what calls make of the list

abbrev pub made_array : List (ℤ × ℤ) → Kind → (owner : ℕ) → ArrayOf
made_array bounds kind owner = record { bounds = bounds; elements = replicate (element_count bounds) (initial kind); owner = owner; kept = false; given_back = false }

abbrev pub copied_array : ArrayOf → (owner : ℕ) → ArrayOf
copied_array a owner = record { bounds = a.bounds; elements = a.elements; owner = owner; kept = false; given_back = false }

abbrev pub kept_in : World → ℕ → Option ArrayOf → Option World
kept_in o n None = None
kept_in o n (Some a) = Some (with_array o n (record a { kept = true }))

-- the world in which an array is kept, if it is there
abbrev pub kept_world : World → ℕ → Option World
kept_world o n = kept_in o n (live_array o n)

-- the world in which an array belongs to an instance
abbrev pub owned_world : World → (array owner : ℕ) → World
owned_world o n owner = owned_by owner (slice_get o.arrays n) o n

-- the region with a new array
abbrev pub entering : (number owner : ℕ) → List (ℤ × ℤ) → List Slot → RegionOf
entering number owner bounds elements = record { live = true; number = number; owner = owner; kept = false; next = 0; bounds = bounds; elements = elements }

abbrev pub words_if : Option ArrayOf → Option ℕ
words_if None = None
words_if (Some a) = Some (words_of_array a)

-- ---- giving back

-- whether the array in a region is given back with an instance
abbrev pub goes : RegionOf → (owner : ℕ) → Bool
goes r owner = r.live && (r.owner == owner) && not r.kept

abbrev pub given_in : List ArrayOf → ℕ → Option ArrayOf → List ArrayOf
given_in arrays n None = arrays
given_in arrays n (Some a) = slice_set arrays n (record a { given_back = true })

-- the arrays with the one of a number given back
abbrev pub given_at : List ArrayOf → ℕ → List ArrayOf
given_at arrays n = given_in arrays n (slice_get arrays n)

-- ---- subscripts

-- how far a subscript is above the lower bound, if it is inside the bounds
abbrev pub offset_of : ℤ × ℤ → ℤ → Option ℕ
offset_of bounds i = if is_inside bounds i then Some (count_from (i -ℤ bounds.0)) else None
