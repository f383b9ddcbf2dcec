-- Empty places of a tree, and which notices stand in front of them.
use Rattle.std.specs.Prelude.{◌≡◌, ℕ, ◌+◌, Bool, true, false, not, if◌then◌else◌, List, [], ◌∷◌, ◌++◌, Option, Some, None}
use Rattle.std.specs.List.{filter}
use Rattle.notices.specs.declared.notice.Notice.{Notice}
use Rattle.notices.specs.declared.notice.ProcessNo.{ProcessNo}
use Rattle.notices.specs.Notices.{is_earlier_than, is_at_most}
use Rattle.notice_tree.specs.declared.node.Node.{Node}
use Rattle.notice_tree.specs.declared.spot.Spot.{Spot}
use Rattle.notice_tree.specs.declared.spot.Aim.{Aim}
use Rattle.notice_tree.specs.declared.spot.Aim.TheVariants.{First, Last, At}
use Rattle.notice_tree.specs.Trees.{Tree, Empty, Branch, in_order, height, total, IsBalanced, Step, OnLeft, OnRight, before, after, way_total, way_height, IsWayBalanced, TellHeights, WayStands}

-- whether a notice stands in front of a new one
abbrev pub stands_in_front : Aim → Notice → Bool
stands_in_front First n = false
stands_in_front Last n = true
stands_in_front (At t prior) n = if prior then is_earlier_than t n else is_at_most t n

-- the part of a list in front of a new notice, and the part behind it
abbrev pub front : Aim → List Notice → List Notice
front aim l = filter (stands_in_front aim) l

abbrev pub back : Aim → List Notice → List Notice
back aim l = filter (λ n. not (stands_in_front aim n)) l

-- under each node, what stands in front of it goes with it to the front, and what stands behind it goes with it to the back
abbrev pub IsParted : Aim → Tree → Type 0
IsParted aim Empty = Unit {0}
IsParted aim (Branch l n r) =
    (stands_in_front aim n ≡ true → front aim (in_order l) ≡ in_order l) × (stands_in_front aim n ≡ true → back aim (in_order l) ≡ [])
    × (stands_in_front aim n ≡ false → front aim (in_order r) ≡ []) × (stands_in_front aim n ≡ false → back aim (in_order r) ≡ in_order r)
    × IsParted aim l × IsParted aim r

-- on which side of the node above it a place is
abbrev pub SideIs : Bool → List Step → Type 0
SideIs on_left [] = Unit {0}
SideIs on_left (OnLeft n s ∷ way) = on_left ≡ true
SideIs on_left (OnRight s n ∷ way) = on_left ≡ false

-- In the place at a way stands a tree. An empty place in this tree divides its list.
pub record IsSought (nodes : List Node) (stop : Option ProcessNo) (aim : Aim) (old_way : List Step) (t : Tree) (spot : Spot) : Type 0 where
  pub way : List Step
  pub stands : WayStands nodes stop None way spot.parent
  pub side : SideIs spot.on_left way
  pub in_front : before way ≡ before old_way ++ front aim (in_order t)
  pub behind : after way ≡ back aim (in_order t) ++ after old_way
  pub totals : (w : Notice → ℕ) → way_total w way ≡ total w t + way_total w old_way
  pub balanced : IsBalanced t → IsWayBalanced (height t) old_way → IsWayBalanced 0 way
  pub height_is : way_height 0 way ≡ way_height (height t) old_way
  pub heights : TellHeights nodes (height t) old_way → TellHeights nodes 0 way

-- the process of the first notice
abbrev pub first_process : List Notice → Option ProcessNo
first_process [] = None
first_process (n ∷ _) = Some n.process
