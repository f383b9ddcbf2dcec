-- The nodes of a tree, one for each process, and what is written to them.
use Rattle.std.specs.Prelude.{ℕ, ℤ, Bool, if◌then◌else◌, ◌+◌, ◌-◌, ◌^◌, max, min, List, Option, Some, None, slice_index_or, set}
use Rattle.notices.specs.declared.notice.ProcessNo.{ProcessNo}
use Rattle.notice_tree.specs.declared.node.Node.{Node}

abbrev pub Link : Type 0
Link = Option ProcessNo

-- a node that is in no tree
abbrev pub vacant : Node
vacant = record { time = None; left = None; right = None; parent = None; height = 0 }

-- the node of process x
abbrev pub node_at : List Node → ℕ → Node
node_at nodes x = slice_index_or nodes x vacant

abbrev pub height_at : List Node → Option ProcessNo → ℕ
height_at nodes None = 0
height_at nodes (Some x) = (node_at nodes x.0).height

-- what hangs under a link hangs under a parent
abbrev pub hung : List Node → Option ProcessNo → Option ProcessNo → List Node
hung nodes None parent = nodes
hung nodes (Some x) parent = set nodes x.0 (record (node_at nodes x.0) { parent = parent })

-- two trees are joined under the node of a process
abbrev pub joined_under : List Node → Option ProcessNo → ProcessNo → Option ProcessNo → List Node
joined_under nodes left x right =
    set nodes x.0 (record (node_at nodes x.0) { left = left; right = right; height = min (max (height_at nodes left) (height_at nodes right) + 1) (2 ^ 64 - 1) })

unfoldable pub joined : List Node → Option ProcessNo → ProcessNo → Option ProcessNo → List Node
joined nodes left x right = joined_under (hung (hung nodes left (Some x)) right (Some x)) left x right

-- a node hangs on one side under another
abbrev pub linked_at : List Node → Option ProcessNo → Bool → ProcessNo → List Node
linked_at nodes None on_left x = nodes
linked_at nodes (Some up) on_left x =
    set nodes up.0 (if on_left then record (node_at nodes up.0) { left = Some x } else record (node_at nodes up.0) { right = Some x })

-- the node of a new notice, alone
abbrev pub leaf : ℤ → Node
leaf time = record { time = Some time; left = None; right = None; parent = None; height = 1 }
