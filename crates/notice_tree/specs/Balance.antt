-- A notice between two trees whose heights differ a little becomes a balanced tree.
use Rattle.std.specs.Prelude.{◌≡◌, ℕ, ◌+◌, ◌^◌, ◌<◌, ◌≤◌, max, List, ◌∷◌, ◌++◌, Option, Some, length}
use Rattle.notices.specs.declared.notice.Notice.{Notice}
use Rattle.notices.specs.declared.notice.ProcessNo.{ProcessNo}
use Rattle.notice_tree.specs.declared.node.Node.{Node}
use Rattle.notice_tree.specs.Nodes.{node_at}
use Rattle.notice_tree.specs.Trees.{Tree, Branch, in_order, height, top, total, one_of, one, IsBalanced, Stands}

-- two balanced trees stand in the nodes, and the notice of another process
pub record AreParts (nodes : List Node) (left : Option ProcessNo) (process : ProcessNo) (right : Option ProcessNo) (l : Tree) (n : Notice) (r : Tree) : Type 0 where
  pub process_is : n.process ≡ process
  pub left_is : top l ≡ left
  pub right_is : top r ≡ right
  pub left_parent : Option ProcessNo
  pub right_parent : Option ProcessNo
  pub left_stands : Stands nodes left_parent l
  pub right_stands : Stands nodes right_parent r
  pub within : n.process.0 < length nodes
  pub time : (node_at nodes n.process.0).time ≡ Some n.time
  pub once : (x : ℕ) → total (one_of x) l + one_of x n + total (one_of x) r ≤ 1
  pub small : total one l + one n + total one r < 2 ^ 64
  pub left_balanced : IsBalanced l
  pub right_balanced : IsBalanced r

-- they have become one balanced tree, and no other node has changed
pub record AreJoined (old new : List Node) (l : Tree) (n : Notice) (r : Tree) (root : ProcessNo) : Type 0 where
  pub tree : Tree
  pub parent : Option ProcessNo
  pub stands : Stands new parent tree
  pub top_is : top tree ≡ Some root
  pub listed : in_order tree ≡ in_order l ++ n ∷ in_order r
  pub totals : (w : Notice → ℕ) → total w tree ≡ total w l + w n + total w r
  pub balanced : IsBalanced tree
  pub even : height l ≤ height r + 1 → height r ≤ height l + 1 → height tree ≡ max (height l) (height r) + 1
  pub low : max (height l) (height r) ≤ height tree
  pub high : height tree ≤ max (height l) (height r) + 1
  pub len : length new ≡ length old
  pub kept : (x : ℕ) → total (one_of x) l + one_of x n + total (one_of x) r ≡ 0 → node_at new x ≡ node_at old x

-- the two trees under a node have become one, which takes its place
pub record AreMerged (old new : List Node) (l : Tree) (n : Notice) (r : Tree) (link : Option ProcessNo) : Type 0 where
  pub tree : Tree
  pub parent : Option ProcessNo
  pub stands : Stands new parent tree
  pub top_is : top tree ≡ link
  pub listed : in_order tree ≡ in_order l ++ in_order r
  pub totals : (w : Notice → ℕ) → total w tree ≡ total w l + total w r
  pub balanced : IsBalanced tree
  pub low : height (Branch l n r) ≤ height tree + 1
  pub high : height tree ≤ height (Branch l n r) + 1
  pub len : length new ≡ length old
  pub kept : (x : ℕ) → total (one_of x) l + total (one_of x) r ≡ 0 → node_at new x ≡ node_at old x
