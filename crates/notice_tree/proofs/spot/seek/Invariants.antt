use Rattle.std.proofs.Common.{◌≡◌, List, Option}
use Rattle.notices.specs.declared.notice.ProcessNo.{ProcessNo}
use Rattle.notice_tree.specs.Trees.{Tree, Step, Stands, WayStands, top}
use Rattle.notice_tree.specs.Spots.{SideIs, IsParted}
use Rattle.notice_tree.proofs.SpotLemmas.{IsSeeking}
use Rattle.notice_tree.proofs.spot.seek.Given as goal

abbrev pub invariant-loop-step : goal.invariant-loop-step
invariant-loop-step l = (stop : Option ProcessNo) (way : List Step) (t : Tree) → WayStands l.nodes stop l.initial.link way l.initial.spot.parent → SideIs l.initial.spot.on_left way → Stands l.nodes l.initial.spot.parent t → top t ≡ l.initial.link → IsParted l.aim t → IsSeeking l.nodes stop l.aim l.spot l.link way t l._step
