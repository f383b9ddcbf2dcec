use Rattle.std.proofs.Common.{◌≡◌, ℤ, true, None, Option, List, [], length, refl, sym, subst, arith, w64}
use Rattle.std.proofs.lemmas.Int.{to_z-of_z}
use Rattle.notices.specs.declared.notice.Notice.{Notice}
use Rattle.notices.specs.declared.notice.ProcessNo.{ProcessNo}
use Rattle.notices.specs.Notices.{removed}
use Rattle.notices.specs.Schedule.{IsOrdered, IsSchedule}
use Rattle.notices.proofs.ScheduleLemmas.{IsSchedule-removed}
use Rattle.notice_tree.specs.declared.node.Node.{Node}
use Rattle.notice_tree.specs.declared.spot.Spot.{Spot}
use Rattle.notice_tree.specs.declared.spot.Aim.TheVariants.{At}
use Rattle.notice_tree.specs.Spots.{IsParted, IsSought}
use Rattle.notice_tree.specs.Held.{IsHeld}
use Rattle.notice_tree.proofs.HeldLemmas.{total-le_room}
use Rattle.notice_tree.proofs.PlacingLemmas.{IsParted-at, Seeks, Inserts, inserted_at}
use Rattle.notice_tree.proofs.order.put_at.Goals as goal

pub returns : goal.returns
returns c = λ l h s within.
    let first : List Node = c.take_out-root.new.nodes in
    let root : Option ProcessNo = c.take_out-root.result in
    let left : List Notice = removed c.args.process.0 l in
    let spot : Spot = c.seek-spot.result in
    let time = to_z-of_z w64 c.args.time c.ranges.time in
    let h1 : IsHeld first root left = c.take_out-root.ensures l h s in
    let len : length first ≡ length c.args.nodes.now = c.take_out-root.auto.nodes in
    let s1 : IsSchedule l (length first) = subst (λ r. IsSchedule l r) (sym len) s in
    let left_s : IsSchedule left (length first) = IsSchedule-removed c.args.process.0 l (length first) s1 in
    let parted : IsParted (At c.args.time c.args.prior) h1.tree =
    IsParted-at c.args.time c.args.prior h1.tree (subst (λ (k : List Notice). IsOrdered k) (sym h1.listed) left_s.ordered) in
    let seeks : Seeks first root None true (At c.args.time c.args.prior) spot =
    subst (λ (t : ℤ). Seeks first root None true (At t c.args.prior) spot) time c.seek-spot.ensures in
    let sought : IsSought first None (At c.args.time c.args.prior) [] h1.tree spot =
    seeks None [] h1.tree refl tt h1.rooted.stands h1.rooted.top_is parted (total-le_room first root left h1 left_s) in
    let ins : Inserts first c.insert.new.nodes spot c.insert.result c.args.process c.args.time =
    subst (λ (t : ℤ). Inserts first c.insert.new.nodes spot c.insert.result c.args.process t) time c.insert.ensures in
    inserted_at first c.insert.new.nodes root spot c.insert.result c.args.process c.args.time c.args.prior l h1 sought ins s1 (omega (arith, len, within))
