-- The sets of SIMSET (SIMULA Standard, SIMSET), as lists.
-- Links and heads are numbered together from 0, in the order in which they are made. A head has the list of
-- its links, in their order in the set; a link has none. So the sets are a list of linkages, read by number.
use Rattle.std.specs.Prelude.{◌≡◌, ℕ, ◌+◌, ◌≤◌, Bool, true, false, if◌then◌else◌, ◌==◌, List, [], ◌∷◌, ◌++◌, length, Option, Some, None, slice_get, reverse}

-- a link, or a head with the links of its set
pub data Linkage : Type 0 where
  Link : Linkage
  Head : List ℕ → Linkage

-- what contracts see of `Rings`: the linkages by their numbers, and how many of them fit
pub record Simset : Type 0 where
  pub sets : List Linkage
  pub room : ℕ

-- a linkage that was just made
abbrev pub fresh : Bool → Linkage
fresh true = Head []
fresh false = Link

-- ---- the linkage of a number

abbrev pub is_link : Option Linkage → Bool
is_link (Some Link) = true
is_link (Some (Head xs)) = false
is_link None = false

abbrev pub is_head : Option Linkage → Bool
is_head (Some (Head xs)) = true
is_head (Some Link) = false
is_head None = false

abbrev pub links_in : Option Linkage → List ℕ
links_in (Some (Head xs)) = xs
links_in (Some Link) = []
links_in None = []

-- the links of the set of the head h, first to last
abbrev pub links_of : List Linkage → ℕ → List ℕ
links_of sets h = links_in (slice_get sets h)

abbrev pub is_link_at : List Linkage → ℕ → Bool
is_link_at sets x = is_link (slice_get sets x)

abbrev pub is_head_at : List Linkage → ℕ → Bool
is_head_at sets x = is_head (slice_get sets x)

-- ---- where a link stands

-- how often x stands in a list
abbrev pub times_among : ℕ → List ℕ → ℕ
times_among x [] = 0
times_among x (y ∷ ys) = (if y == x then 1 else 0) + times_among x ys

-- how often x stands in a set, of whichever head
abbrev pub times_in : ℕ → List Linkage → ℕ
times_in x [] = 0
times_in x (Link ∷ rest) = times_in x rest
times_in x (Head xs ∷ rest) = times_among x xs + times_in x rest

-- whatever stands in a set is a link that was made, and stands in one set alone, and there once
abbrev pub IsProper : List Linkage → Type 0
IsProper sets = (x : ℕ) → times_in x sets ≤ (if is_link_at sets x then 1 else 0)

-- in how many places p stands: as a head, or in a set; k is the number of the first linkage
abbrev pub places_in : ℕ → ℕ → List ℕ → ℕ
places_in p h xs = if h == p then 1 else times_among p xs

abbrev pub places_from : ℕ → ℕ → List Linkage → ℕ
places_from p k [] = 0
places_from p k (Link ∷ rest) = places_from p (k + 1) rest
places_from p k (Head xs ∷ rest) = places_in p k xs + places_from p (k + 1) rest

-- the head of the set in which x stands; k is the number of the first linkage
abbrev pub head_from : ℕ → ℕ → List Linkage → Option ℕ
head_from x k [] = None
head_from x k (Link ∷ rest) = head_from x (k + 1) rest
head_from x k (Head xs ∷ rest) = if times_among x xs == 0 then head_from x (k + 1) rest else Some k

unfoldable pub head_of : List Linkage → ℕ → Option ℕ
head_of sets x = head_from x 0 sets

-- ---- neighbours

abbrev pub first : List ℕ → Option ℕ
first [] = None
first (x ∷ xs) = Some x

-- the last, or d where there is none
abbrev pub last_or : Option ℕ → List ℕ → Option ℕ
last_or d [] = d
last_or d (x ∷ xs) = last_or (Some x) xs

-- the one after x
abbrev pub after : ℕ → List ℕ → Option ℕ
after x [] = None
after x (y ∷ ys) = if y == x then first ys else after x ys

-- the one before x, or d where x is the first
abbrev pub before_or : Option ℕ → ℕ → List ℕ → Option ℕ
before_or d x [] = None
before_or d x (y ∷ ys) = if y == x then d else before_or (Some y) x ys

-- a link that is in no set has no neighbour
abbrev pub next_link : List Linkage → ℕ → Option ℕ → Option ℕ
next_link sets x None = None
next_link sets x (Some h) = after x (links_of sets h)

abbrev pub link_before : List Linkage → ℕ → Option ℕ → Option ℕ
link_before sets x None = None
link_before sets x (Some h) = before_or None x (links_of sets h)

abbrev pub linkage_before : List Linkage → ℕ → Option ℕ → Option ℕ
linkage_before sets x None = None
linkage_before sets x (Some h) = before_or (Some h) x (links_of sets h)

-- of a head its first link, of a link the next one
unfoldable pub suc_of : List Linkage → ℕ → Option ℕ
suc_of sets x = if is_head_at sets x then first (links_of sets x) else next_link sets x (head_of sets x)

-- of a head its last link, of a link the one before
unfoldable pub pred_of : List Linkage → ℕ → Option ℕ
pred_of sets x = if is_head_at sets x then last_or None (links_of sets x) else link_before sets x (head_of sets x)

-- as pred, but the head for its first link and for the head of an empty set
unfoldable pub prev_of : List Linkage → ℕ → Option ℕ
prev_of sets x =
    if is_head_at sets x then last_or (Some x) (links_of sets x) else linkage_before sets x (head_of sets x)

unfoldable pub cardinal_of : List Linkage → ℕ → ℕ
cardinal_of sets h = length (links_of sets h)

-- ---- changes

-- Each procedure says what the list of a head becomes: a change takes the number of the head and its list.

-- the sets after each list was changed; k is the number of the first linkage
abbrev pub each_from : (ℕ → List ℕ → List ℕ) → ℕ → List Linkage → List Linkage
each_from change k [] = []
each_from change k (Link ∷ rest) = Link ∷ each_from change (k + 1) rest
each_from change k (Head xs ∷ rest) = Head (change k xs) ∷ each_from change (k + 1) rest

abbrev pub becomes : (ℕ → List ℕ → List ℕ) → List Linkage → List Linkage
becomes change sets = each_from change 0 sets

abbrev pub without : ℕ → List ℕ → List ℕ
without x [] = []
without x (y ∷ ys) = if y == x then without x ys else y ∷ without x ys

-- x directly after p
abbrev pub insert_after : ℕ → ℕ → List ℕ → List ℕ
insert_after x p [] = []
insert_after x p (y ∷ ys) = if y == p then y ∷ x ∷ insert_after x p ys else y ∷ insert_after x p ys

-- x directly before p
abbrev pub insert_before : ℕ → ℕ → List ℕ → List ℕ
insert_before x p [] = []
insert_before x p (y ∷ ys) = if y == p then x ∷ y ∷ insert_before x p ys else y ∷ insert_before x p ys

-- the list of the head h after x was put directly after p; after the head is the first place
abbrev pub put_after : ℕ → ℕ → ℕ → List ℕ → List ℕ
put_after x p h xs = if h == p then x ∷ xs else insert_after x p xs

-- the list of the head h after x was put directly before p; before the head is the last place
abbrev pub put_before : ℕ → ℕ → ℕ → List ℕ → List ℕ
put_before x p h xs = if h == p then xs ++ x ∷ [] else insert_before x p xs

abbrev pub put_last : ℕ → ℕ → ℕ → List ℕ → List ℕ
put_last x p h xs = if h == p then xs ++ x ∷ [] else xs

abbrev pub emptied : ℕ → ℕ → List ℕ → List ℕ
emptied p h xs = if h == p then [] else xs

-- what the list of the head h becomes where x follows p, precedes it or goes into its set; x leaves the list in which it stands first
abbrev pub following : ℕ → Option ℕ → ℕ → List ℕ → List ℕ
following x None h xs = without x xs
following x (Some p) h xs = put_after x p h (without x xs)

abbrev pub preceding : ℕ → Option ℕ → ℕ → List ℕ → List ℕ
preceding x None h xs = without x xs
preceding x (Some p) h xs = put_before x p h (without x xs)

abbrev pub going_into : ℕ → Option ℕ → ℕ → List ℕ → List ℕ
going_into x None h xs = without x xs
going_into x (Some p) h xs = put_last x p h (without x xs)

-- the procedures, of a link x or a head h; p is the linkage that they are given, or `none`
unfoldable pub out : List Linkage → ℕ → List Linkage
out sets x = becomes (λ h xs. without x xs) sets

unfoldable pub follow : List Linkage → ℕ → Option ℕ → List Linkage
follow sets x p = becomes (following x p) sets

unfoldable pub precede : List Linkage → ℕ → Option ℕ → List Linkage
precede sets x p = becomes (preceding x p) sets

unfoldable pub into : List Linkage → ℕ → Option ℕ → List Linkage
into sets x p = becomes (going_into x p) sets

unfoldable pub clear : List Linkage → ℕ → List Linkage
clear sets h = becomes (emptied h) sets

-- each list read backwards
unfoldable pub backwards : List Linkage → List Linkage
backwards sets = becomes (λ h xs. reverse xs) sets

-- the linkages that a call may be given
abbrev pub IsLinkAt : List Linkage → ℕ → Type 0
IsLinkAt sets x = is_link_at sets x ≡ true

abbrev pub IsHeadAt : List Linkage → ℕ → Type 0
IsHeadAt sets x = is_head_at sets x ≡ true
