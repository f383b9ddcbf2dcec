-- An inner page: the sets that a vector of nodes stands for.
use Rattle.std.specs.Prelude.{◌≡◌, ◌≢◌, ℕ, zero, suc, ◌+◌, ◌<◌, Bool, true, false, if◌then◌else◌, ◌==◌, List, [], ◌∷◌, length, Option, Some, None, slice_get}
use Rattle.simset.specs.declared.rings.Node.{Node}
use Rattle.simset.specs.Sets.{Linkage, Link, Head, IsProper, is_link_at, times_in}

abbrev pub head_in : Option Node → Bool
head_in None = false
head_in (Some node) = node.head

abbrev pub next_in : Option Node → ℕ
next_in None = 0
next_in (Some node) = node.next

abbrev pub previous_in : Option Node → ℕ
previous_in None = 0
previous_in (Some node) = node.previous

-- whether the node of a number is a head, and its neighbours
abbrev pub head_at : List Node → ℕ → Bool
head_at nodes i = head_in (slice_get nodes i)

abbrev pub next_at : List Node → ℕ → ℕ
next_at nodes i = next_in (slice_get nodes i)

abbrev pub previous_at : List Node → ℕ → ℕ
previous_at nodes i = previous_in (slice_get nodes i)

-- the links from x on up to the head, in at most so many steps
unfoldable pub links_from : List Node → ℕ → ℕ → List ℕ
links_from nodes zero x = []
links_from nodes (suc steps) x =
    if head_at nodes x then [] else x ∷ links_from nodes steps (next_at nodes x)

-- the linkage of each number from k on, of so many
unfoldable pub linkages_from : List Node → ℕ → ℕ → List Linkage
linkages_from nodes k zero = []
linkages_from nodes k (suc count) =
    (if head_at nodes k then Head (links_from nodes (length nodes) (next_at nodes k)) else Link)
    ∷ linkages_from nodes (k + 1) count

unfoldable pub sets_of : List Node → List Linkage
sets_of nodes = linkages_from nodes 0 (length nodes)

-- b comes after a, and a before b
pub record IsNext (nodes : List Node) (a b : ℕ) : Type 0 where
  pub onward : next_at nodes a ≡ b
  pub back : previous_at nodes b ≡ a

-- from a through these links to b
abbrev pub Links : List Node → ℕ → List ℕ → ℕ → Type 0
Links nodes a [] b = IsNext nodes a b
Links nodes a (x ∷ xs) b = IsNext nodes a x × (head_at nodes x ≡ false) × Links nodes x xs b

-- what the node of a linkage holds
abbrev pub HoldsLinkage : List Node → ℕ → Linkage → Type 0
HoldsLinkage nodes i Link = head_at nodes i ≡ false
HoldsLinkage nodes i (Head xs) = (head_at nodes i ≡ true) × Links nodes i xs i

-- the node is whole: its neighbours are nodes, and it is their neighbour
pub record IsJoined (nodes : List Node) (i : ℕ) : Type 0 where
  pub next_made : next_at nodes i < length nodes
  pub previous_made : previous_at nodes i < length nodes
  pub onward : next_at nodes (previous_at nodes i) ≡ i
  pub back : previous_at nodes (next_at nodes i) ≡ i

-- the nodes hold these sets in rings, and a link that is in no set by itself
pub record KeepsSets (nodes : List Node) (sets : List Linkage) : Type 0 where
  pub made : length nodes ≡ length sets
  pub few : length nodes < 4294967296
  pub proper : IsProper sets
  pub joined : (i : ℕ) → i < length nodes → IsJoined nodes i
  pub held : (i : ℕ) (linkage : Linkage) → slice_get sets i ≡ Some linkage → HoldsLinkage nodes i linkage
  pub alone : (i : ℕ) → is_link_at sets i ≡ true → times_in i sets ≡ 0 → next_at nodes i ≡ i

-- the new nodes are the old ones, but for b after a
pub record IsTied (old new : List Node) (a b : ℕ) : Type 0 where
  pub count : length new ≡ length old
  pub heads : (i : ℕ) → head_at new i ≡ head_at old i
  pub onward : (i : ℕ) → next_at new i ≡ (if i == a then b else next_at old i)
  pub back : (i : ℕ) → previous_at new i ≡ (if i == b then a else previous_at old i)

-- the node x stands by itself, its old neighbours beside each other, and all else as it was
pub record IsTakenOut (old new : List Node) (x : ℕ) : Type 0 where
  pub count : length new ≡ length old
  pub heads : (i : ℕ) → head_at new i ≡ head_at old i
  pub others : (u v : ℕ) → u ≢ x → v ≢ x → IsNext old u v → IsNext new u v
  pub across : (u v : ℕ) → u ≢ x → IsNext old u x → IsNext old x v → IsNext new u v
  pub alone : IsNext new x x

-- the node x stands directly behind a, and all else as it was
pub record IsPutBehind (old new : List Node) (a x : ℕ) : Type 0 where
  pub count : length new ≡ length old
  pub heads : (i : ℕ) → head_at new i ≡ head_at old i
  pub others : (u v : ℕ) → u ≢ a → u ≢ x → IsNext old u v → IsNext new u v
  pub first : IsNext new a x
  pub second : (b : ℕ) → IsNext old a b → IsNext new x b

-- the number of a link beside x, none where that is x itself or a head
abbrev pub link_beside : List Node → ℕ → ℕ → Option ℕ
link_beside nodes x y = if y == x then None else if head_at nodes y then None else Some y

-- the node in front of x, none for a link by itself
abbrev pub linkage_beside : List Node → ℕ → Option ℕ
linkage_beside nodes x =
    if previous_at nodes x == x then if head_at nodes x then Some (previous_at nodes x) else None else Some (previous_at nodes x)

-- whether x is a head or has another node beside it
abbrev pub is_in_ring : List Node → ℕ → Bool
is_in_ring nodes x = if head_at nodes x then true else if next_at nodes x == x then false else true
