use Rattle.std.proofs.Common.{◌≡◌, ◌<◌, ◌≤◌, ap, ◌∙◌, sym, subst, arith, rules, ℤ, length, vec_capacity, List, SFits, w64}
use Rattle.std.specs.List.{insert}
use Rattle.std.proofs.lemmas.Int.{to_z-of_z}
use Rattle.notices.specs.declared.notice.Notice.{Notice}
use Rattle.notices.specs.Seen.{NoticeList}
use Rattle.notices.specs.Notices.{removed, placed_direct}
use Rattle.notices.specs.Schedule.{IsSchedule}
use Rattle.notices.proofs.ScheduleLemmas.{length-removed, IsSchedule-room, IsSchedule-placed_direct, insert-placed_direct}
use Rattle.notices.proofs.notice_vec.NoticeVecNoticeSet.put_direct.Goals as goal

pub insert_notice-requires-clause-capacity : goal.insert_notice-requires-clause-capacity
insert_notice-requires-clause-capacity c =
    let within : c.args.process.0 < vec_capacity c.self.inside.items = subst (λ r. c.args.process.0 < r) (sym (ap (λ (v : NoticeList). v.room) c.self.view_is)) c.requires.within in
    let short = length-removed c.args.process.0 c.self.inside.items.items (vec_capacity c.self.inside.items) c.self.invariant within in
    let same : length c.remove_notice.new.items.items ≡ length (removed c.args.process.0 c.self.inside.items.items) = ap length c.remove_notice.ensures.removed in
    omega arith

pub invariant_of-self : goal.invariant_of-self
invariant_of-self c =
    let placed : c.insert_notice.new.items.items ≡ placed_direct c.args.process.0 c.self.inside.items.items =
    let fits : SFits w64 c.index.result.now.time = search rules in
    subst (λ (t : ℤ). c.insert_notice.new.items.items ≡ insert c.remove_notice.new.items.items 0 (record { time = t; process = record { 0 = c.args.process.0 } })) (to_z-of_z w64 c.index.result.now.time fits) c.insert_notice.ensures.inserted
    ∙ ap (λ (k : List Notice). insert k 0 (record { time = c.index.result.now.time; process = record { 0 = c.args.process.0 } })) c.remove_notice.ensures.removed
    ∙ insert-placed_direct c.args.process.0 c.self.inside.items.items c.index.result.now (λ e. c.requires.begun (ap (λ (v : NoticeList). v.notices) (sym c.self.view_is) ∙ e)) c.index.ensures in
    let within : c.args.process.0 < vec_capacity c.self.inside.items = subst (λ r. c.args.process.0 < r) (sym (ap (λ (v : NoticeList). v.room) c.self.view_is)) c.requires.within in
    let more : (vec_capacity c.self.inside.items) ≤ vec_capacity c.insert_notice.new.items = omega arith in
    subst (λ (k : List Notice). IsSchedule k (vec_capacity c.insert_notice.new.items)) (sym placed)
    (IsSchedule-room (placed_direct c.args.process.0 c.self.inside.items.items) (vec_capacity c.self.inside.items) (vec_capacity c.insert_notice.new.items) (IsSchedule-placed_direct c.args.process.0 c.self.inside.items.items (vec_capacity c.self.inside.items) c.self.invariant within) more)
