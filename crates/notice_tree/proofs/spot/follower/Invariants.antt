use Rattle.std.proofs.Common.{◌≤◌, ℕ, List, Option, None}
use Rattle.notices.specs.declared.notice.ProcessNo.{ProcessNo}
use Rattle.notice_tree.specs.Trees.{Step, WayStands, way_total, one_of}
use Rattle.notice_tree.specs.Spots.{SideIs}
use Rattle.notice_tree.proofs.SpotLemmas.{IsFollowing}
use Rattle.notice_tree.proofs.spot.follower.Given as goal

abbrev pub invariant-loop-step : goal.invariant-loop-step
invariant-loop-step l = (link : Option ProcessNo) (way : List Step) → WayStands l.nodes None link way l.initial.spot.parent → SideIs l.initial.spot.on_left way → ((x : ℕ) → way_total (one_of x) way ≤ 1) → IsFollowing l.nodes l.spot way l._step
