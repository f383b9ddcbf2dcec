-- Binary trees of event notices in list order, and how they stand in the nodes of the processes.
use Rattle.std.specs.Prelude.{◌≡◌, ℕ, ◌+◌, ◌≤◌, ◌<◌, max, if◌then◌else◌, List, [], ◌∷◌, ◌++◌, Option, Some, None, length}
use Rattle.notices.specs.declared.notice.Notice.{Notice}
use Rattle.notices.specs.declared.notice.ProcessNo.{ProcessNo}
use Rattle.notices.specs.Notices.{is_of}
use Rattle.notice_tree.specs.declared.node.Node.{Node}
use Rattle.notice_tree.specs.Nodes.{node_at}

pub data Tree : Type 0 where
  Empty : Tree
  Branch : Tree → Notice → Tree → Tree

-- the list of a tree
abbrev pub in_order : Tree → List Notice
in_order Empty = []
in_order (Branch l n r) = in_order l ++ n ∷ in_order r

-- the number of nodes on the longest way from the root
abbrev pub height : Tree → ℕ
height Empty = 0
height (Branch l n r) = max (height l) (height r) + 1

-- the heights of the two trees under each node differ by at most one
abbrev pub IsBalanced : Tree → Type 0
IsBalanced Empty = Unit {0}
IsBalanced (Branch l n r) = (height l ≤ height r + 1) × (height r ≤ height l + 1) × IsBalanced l × IsBalanced r

-- the process at the root
abbrev pub top : Tree → Option ProcessNo
top Empty = None
top (Branch l n r) = Some n.process

-- how much the notices of a tree weigh together
abbrev pub total : (Notice → ℕ) → Tree → ℕ
total w Empty = 0
total w (Branch l n r) = total w l + w n + total w r

-- a notice of process x counts as one, any other as none
unfoldable pub one_of : ℕ → Notice → ℕ
one_of x n = if is_of x n then 1 else 0

unfoldable pub one : Notice → ℕ
one n = 1

-- the node of a notice's process holds its time, and links to two others
pub record NodeIs (nodes : List Node) (n : Notice) (l r : Option ProcessNo) : Type 0 where
  pub within : n.process.0 < length nodes
  pub time : (node_at nodes n.process.0).time ≡ Some n.time
  pub left : (node_at nodes n.process.0).left ≡ l
  pub right : (node_at nodes n.process.0).right ≡ r

-- a tree stands in the nodes, under a parent
abbrev pub Stands : List Node → Option ProcessNo → Tree → Type 0
Stands nodes parent Empty = Unit {0}
Stands nodes parent (Branch l n r) =
    NodeIs nodes n (top l) (top r) × ((node_at nodes n.process.0).height ≡ max (height l) (height r) + 1) × ((node_at nodes n.process.0).parent ≡ parent)
    × Stands nodes (Some n.process) l × Stands nodes (Some n.process) r

-- ---- the way from a place of a tree up to its root

-- One step up: the place is on the left or on the right of a notice, beside another tree.
pub data Step : Type 0 where
  OnLeft : Notice → Tree → Step
  OnRight : Tree → Notice → Step

-- what stands in the list before the place, and after it
abbrev pub before : List Step → List Notice
before [] = []
before (OnLeft n s ∷ z) = before z
before (OnRight s n ∷ z) = before z ++ in_order s ++ n ∷ []

abbrev pub after : List Step → List Notice
after [] = []
after (OnLeft n s ∷ z) = n ∷ in_order s ++ after z
after (OnRight s n ∷ z) = after z

abbrev pub way_total : (Notice → ℕ) → List Step → ℕ
way_total w [] = 0
way_total w (OnLeft n s ∷ z) = w n + total w s + way_total w z
way_total w (OnRight s n ∷ z) = w n + total w s + way_total w z

-- with a tree of a height at the place, the whole is balanced
abbrev pub IsWayBalanced : ℕ → List Step → Type 0
IsWayBalanced h [] = Unit {0}
IsWayBalanced h (OnLeft n s ∷ z) = (h ≤ height s + 1) × (height s ≤ h + 1) × IsBalanced s × IsWayBalanced (max h (height s) + 1) z
IsWayBalanced h (OnRight s n ∷ z) = (h ≤ height s + 1) × (height s ≤ h + 1) × IsBalanced s × IsWayBalanced (max h (height s) + 1) z

-- the height of the whole
abbrev pub way_height : ℕ → List Step → ℕ
way_height h [] = h
way_height h (OnLeft n s ∷ z) = way_height (max h (height s) + 1) z
way_height h (OnRight s n ∷ z) = way_height (max h (height s) + 1) z

-- the nodes of a way tell the heights of the trees under them, where a tree of a height is at the place
abbrev pub TellHeights : List Node → ℕ → List Step → Type 0
TellHeights nodes h [] = Unit {0}
TellHeights nodes h (OnLeft n s ∷ z) = ((node_at nodes n.process.0).height ≡ max h (height s) + 1) × TellHeights nodes (max h (height s) + 1) z
TellHeights nodes h (OnRight s n ∷ z) = ((node_at nodes n.process.0).height ≡ max h (height s) + 1) × TellHeights nodes (max h (height s) + 1) z

-- A way stands in the nodes, from a place to which `link` leads, under `parent`, up to a root under `stop`.
abbrev pub WayStands : List Node → Option ProcessNo → Option ProcessNo → List Step → Option ProcessNo → Type 0
WayStands nodes stop link [] parent = parent ≡ stop
WayStands nodes stop link (OnLeft n s ∷ z) parent =
    (parent ≡ Some n.process) × NodeIs nodes n link (top s) × Stands nodes (Some n.process) s
    × WayStands nodes stop (Some n.process) z (node_at nodes n.process.0).parent
WayStands nodes stop link (OnRight s n ∷ z) parent =
    (parent ≡ Some n.process) × NodeIs nodes n (top s) link × Stands nodes (Some n.process) s
    × WayStands nodes stop (Some n.process) z (node_at nodes n.process.0).parent
