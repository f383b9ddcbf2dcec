-- A place in a tree where another tree has come, of a height that differs a little; and the whole that becomes of it.
use Rattle.std.specs.Prelude.{◌≡◌, ℕ, ◌+◌, ◌^◌, ◌<◌, ◌≤◌, max, Bool, true, List, ◌++◌, Option, Some, length}
use Rattle.notices.specs.declared.notice.Notice.{Notice}
use Rattle.notices.specs.declared.notice.ProcessNo.{ProcessNo}
use Rattle.notice_tree.specs.declared.node.Node.{Node}
use Rattle.notice_tree.specs.Nodes.{node_at}
use Rattle.notice_tree.specs.Trees.{Tree, in_order, height, top, total, one_of, one, IsBalanced, Stands, Step, OnLeft, OnRight, before, after, way_total, way_height, IsWayBalanced, TellHeights, WayStands}
use Rattle.notice_tree.specs.Balance.{AreJoined}

-- The way leads from a node under `parent` up to a root under `stop`. In the place of the node `from`, which is gone and whose tree
-- had the height h, comes the tree t at `below`.
pub record IsGap (nodes : List Node) (from : ProcessNo) (below parent stop : Option ProcessNo) (way : List Step) (t : Tree) (h : ℕ) : Type 0 where
  pub below_is : top t ≡ below
  pub old_parent : Option ProcessNo
  pub stands : Stands nodes old_parent t
  pub way_stands : WayStands nodes stop (Some from) way parent
  pub gone : way_total (one_of from.0) way ≡ 0
  pub root : (x : ProcessNo) → stop ≡ Some x → way_total (one_of x.0) way ≡ 0
  pub once : (x : ℕ) → total (one_of x) t + way_total (one_of x) way ≤ 1
  pub small : total one t + way_total one way ≤ length nodes
  pub short : length nodes < 2 ^ 64
  pub balanced : IsBalanced t
  pub way_balanced : IsWayBalanced h way
  pub heights : TellHeights nodes h way
  pub low : h ≤ height t + 1
  pub high : height t ≤ h + 1

-- The tree has come to where one with the same root and of the same height was, so that all above it is as it was.
pub record IsSettled (nodes : List Node) (from : ProcessNo) (parent : Option ProcessNo) (t : Tree) (h : ℕ) : Type 0 where
  pub stands : Stands nodes parent t
  pub top_is : top t ≡ Some from
  pub as_high : height t ≡ h

-- one step up is done
abbrev pub IsOneUp : List Node → List Node → Step → Tree → ProcessNo → Type 0
IsOneUp old new (OnLeft n u) t root = AreJoined old new t n u root
IsOneUp old new (OnRight u n) t root = AreJoined old new u n t root

-- the tree that comes of it, and the height of the one that was there
abbrev pub tree_up : (old new : List Node) (step : Step) (t : Tree) (root : ProcessNo) → IsOneUp old new step t root → Tree
tree_up old new (OnLeft n u) t root j = j.tree
tree_up old new (OnRight u n) t root j = j.tree

abbrev pub height_up : (h : ℕ) → Step → ℕ
height_up h (OnLeft n u) = max h (height u) + 1
height_up h (OnRight u n) = max h (height u) + 1

-- One step up is done, to the place of the node of a process.
pub record IsUp (old new : List Node) (step : Step) (t : Tree) (process root : ProcessNo) (h : ℕ) (settled : Bool) : Type 0 where
  pub up : IsOneUp old new step t root
  pub settles : settled ≡ true → IsSettled new process (node_at old process.0).parent (tree_up old new step t root up) (height_up h step)

-- the whole is a balanced tree at `link`, of nearly the old height, and no other node has changed
pub record IsWhole (old new : List Node) (link : Option ProcessNo) (way : List Step) (t : Tree) (h : ℕ) : Type 0 where
  pub tree : Tree
  pub parent : Option ProcessNo
  pub stands : Stands new parent tree
  pub top_is : top tree ≡ link
  pub listed : in_order tree ≡ before way ++ (in_order t ++ after way)
  pub totals : (w : Notice → ℕ) → total w tree ≡ total w t + way_total w way
  pub balanced : IsBalanced tree
  pub low : way_height h way ≤ height tree + 1
  pub high : height tree ≤ way_height h way + 1
  pub len : length new ≡ length old
  pub kept : (x : ℕ) → total (one_of x) t + way_total (one_of x) way ≡ 0 → node_at new x ≡ node_at old x
