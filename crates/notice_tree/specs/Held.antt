-- The tree that hangs in the nodes, and its list.
use Rattle.std.specs.Prelude.{◌≡◌, ℕ, zero, suc, pos, Bool, true, false, List, [], ◌∷◌, ◌++◌, Option, Some, None, length, unwrap_or}
use Rattle.std.specs.List.{before_first, after_first}
use Rattle.notices.specs.declared.notice.Notice.{Notice}
use Rattle.notices.specs.declared.notice.ProcessNo.{ProcessNo}
use Rattle.notices.specs.Notices.{is_of}
use Rattle.notices.specs.Schedule.{IsSchedule}
use Rattle.notice_tree.specs.declared.node.Node.{Node}
use Rattle.notice_tree.specs.declared.spot.Spot.{Spot}
use Rattle.notice_tree.specs.Nodes.{node_at}
use Rattle.notice_tree.specs.Trees.{Tree, Empty, Branch, in_order, top, total, one_of, IsBalanced, Stands, Step, before, after, way_total, IsWayBalanced, TellHeights, WayStands}
use Rattle.notice_tree.specs.Spots.{SideIs}

-- the notice of a process, as its node tells it
abbrev pub notice_at : List Node → ProcessNo → Notice
notice_at nodes x = record { time = unwrap_or (node_at nodes x.0).time (pos 0); process = x }

-- the tree to which a link leads, down to a depth
abbrev pub tree_of : ℕ → List Node → Option ProcessNo → Tree
tree_of zero nodes link = Empty
tree_of (suc depth) nodes None = Empty
tree_of (suc depth) nodes (Some x) = Branch (tree_of depth nodes (node_at nodes x.0).left) (notice_at nodes x) (tree_of depth nodes (node_at nodes x.0).right)

-- no tree is deeper than the nodes are many
unfoldable pub tree_at : List Node → Option ProcessNo → Tree
tree_at nodes root = tree_of (length nodes) nodes root

-- A balanced tree hangs in the nodes, and the nodes of all processes that are not in it have no time.
pub record IsRooted (nodes : List Node) (root : Option ProcessNo) (t : Tree) : Type 0 where
  pub stands : Stands nodes None t
  pub top_is : top t ≡ root
  pub balanced : IsBalanced t
  pub absent : (x : ℕ) → total (one_of x) t ≡ 0 → (node_at nodes x).time ≡ None

-- what holds of every tree of notices
pub record IsNoticeTree (nodes : List Node) (root : Option ProcessNo) : Type 0 where
  pub rooted : IsRooted nodes root (tree_at nodes root)
  pub schedule : IsSchedule (in_order (tree_at nodes root)) (length nodes)

-- the nodes hold a list
pub record IsHeld (nodes : List Node) (root : Option ProcessNo) (l : List Notice) : Type 0 where
  pub tree : Tree
  pub rooted : IsRooted nodes root tree
  pub listed : in_order tree ≡ l

-- an empty place in the tree, between two parts of the list
pub record IsOpen (nodes : List Node) (spot : Spot) (front back : List Notice) : Type 0 where
  pub way : List Step
  pub stands : WayStands nodes None None way spot.parent
  pub side : SideIs spot.on_left way
  pub front_is : before way ≡ front
  pub back_is : after way ≡ back
  pub balanced : IsWayBalanced 0 way
  pub heights : TellHeights nodes 0 way
  pub absent : (x : ℕ) → way_total (one_of x) way ≡ 0 → (node_at nodes x).time ≡ None

-- beside the notice of process y, which is m: what stands in front of the place, and what behind it
abbrev pub front_beside : Bool → ℕ → Notice → List Notice → List Notice
front_beside true y m l = before_first (is_of y) l
front_beside false y m l = before_first (is_of y) l ++ m ∷ []

abbrev pub back_beside : Bool → ℕ → Notice → List Notice → List Notice
back_beside true y m l = m ∷ after_first (is_of y) l
back_beside false y m l = after_first (is_of y) l
