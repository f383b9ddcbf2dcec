use Rattle.std.proofs.Common.{◌≡◌, ℤ, Some, None, Option, List, length, ap, sym, ◌∙◌, subst, arith, rules, w64, SFits}
use Rattle.std.proofs.lemmas.Int.{to_z-of_z}
use Rattle.notices.specs.declared.notice.Notice.{Notice}
use Rattle.notices.specs.declared.notice.ProcessNo.{ProcessNo}
use Rattle.notices.specs.Notices.{removed, event_time, notice_of}
use Rattle.notices.specs.Schedule.{IsSchedule}
use Rattle.notices.proofs.ScheduleLemmas.{IsSchedule-removed, notice_of-removed}
use Rattle.notice_tree.specs.declared.node.Node.{Node}
use Rattle.notice_tree.specs.declared.spot.Spot.{Spot}
use Rattle.notice_tree.specs.Held.{IsHeld, IsOpen, front_beside, back_beside}
use Rattle.notice_tree.proofs.HeldLemmas.{time_held}
use Rattle.notice_tree.proofs.PlacingLemmas.{Inserts, inserted_near, near_none, HasTime, HasTime-from}
use Rattle.notice_tree.proofs.order.put_beside.Goals as goal

pub returns-in-None : goal.returns-in-None
returns-in-None c = λ l h s within other.
    let first : List Node = c.take_out-root.new.nodes in
    let root : Option ProcessNo = c.take_out-root.result in
    let left : List Notice = removed c.args.process.0 l in
    let h1 : IsHeld first root left = c.take_out-root.ensures l h s in
    let left_s : IsSchedule left (length c.args.nodes.now) = IsSchedule-removed c.args.process.0 l (length c.args.nodes.now) s in
    let none : event_time c.args.other.0 left ≡ None =
    sym (time_held first root left c.args.other.0 h1 left_s.once) ∙ ap (λ (d : Node). d.time) (sym c.node_at.ensures) ∙ c.in-None.is in
    subst (λ (k : List Notice). IsHeld first root k) (near_none c.args.before c.args.process.0 c.args.other.0 l other none) h1

pub returns-in-Some : goal.returns-in-Some
returns-in-Some c = λ l h s within other.
    let first : List Node = c.take_out-root.new.nodes in
    let root : Option ProcessNo = c.take_out-root.result in
    let left : List Notice = removed c.args.process.0 l in
    let t : ℤ = c.in-Some.time in
    let spot : Spot = c.beside-spot.result in
    let h1 : IsHeld first root left = c.take_out-root.ensures l h s in
    let len : length first ≡ length c.args.nodes.now = c.take_out-root.auto.nodes in
    let s1 : IsSchedule l (length first) = subst (λ r. IsSchedule l r) (sym len) s in
    let left_s : IsSchedule left (length first) = IsSchedule-removed c.args.process.0 l (length first) s1 in
    let time : event_time c.args.other.0 left ≡ Some t =
    sym (time_held first root left c.args.other.0 h1 left_s.once) ∙ ap (λ (d : Node). d.time) (sym c.node_at.ensures) ∙ c.in-Some.is in
    let has : HasTime (notice_of c.args.other.0 left) t = HasTime-from (notice_of c.args.other.0 left) t time in
    let found : notice_of c.args.other.0 l ≡ Some has.notice = sym (notice_of-removed c.args.process.0 c.args.other.0 other l) ∙ has.is in
    let place : IsOpen first spot (front_beside c.args.before c.args.other.0 has.notice left) (back_beside c.args.before c.args.other.0 has.notice left) =
    c.beside-spot.ensures root left has.notice h1 left_s has.is in
    let fits : SFits w64 t = search rules in
    let ins : Inserts first c.insert.new.nodes spot c.insert.result c.args.process t =
    subst (λ (z : ℤ). Inserts first c.insert.new.nodes spot c.insert.result c.args.process z) (to_z-of_z w64 t fits) c.insert.ensures in
    inserted_near first c.insert.new.nodes spot c.insert.result c.args.process c.args.other c.args.before t l has.notice other found has.time place ins s1 (omega (arith, len, within))
