use Rattle.std.proofs.Common.{◌≡◌, ◌<◌, ◌≤◌, ap, ◌∙◌, sym, subst, arith, ℤ, take, drop, length, vec_capacity, List, w64}
use Rattle.std.specs.List.{insert}
use Rattle.std.proofs.lemmas.Int.{to_z-of_z}
use Rattle.notices.specs.declared.notice.Notice.{Notice}
use Rattle.notices.specs.Seen.{NoticeList}
use Rattle.notices.specs.Notices.{removed, front_at, back_at, placed_at}
use Rattle.notices.specs.Schedule.{IsOrdered, IsSchedule}
use Rattle.notices.proofs.ScheduleLemmas.{length-removed, IsSchedule-removed, IsSchedule-room, IsSchedule-placed_at, insert-placed_at}
use Rattle.notices.proofs.notice_vec.NoticeVecNoticeSet.put_at.Goals as goal

pub place_at-place-requires : goal.place_at-place-requires
place_at-place-requires c =
    let left : c.deref.result.now ≡ removed c.args.process.0 c.self.inside.items.items = c.deref.ensures.value ∙ c.remove_notice.ensures.removed in
    subst IsOrdered (sym left) (IsSchedule-removed c.args.process.0 c.self.inside.items.items (vec_capacity c.self.inside.items) c.self.invariant).ordered

pub insert_notice-requires-clause-capacity : goal.insert_notice-requires-clause-capacity
insert_notice-requires-clause-capacity c =
    let within : c.args.process.0 < vec_capacity c.self.inside.items = subst (λ r. c.args.process.0 < r) (sym (ap (λ (v : NoticeList). v.room) c.self.view_is)) c.requires in
    let short = length-removed c.args.process.0 c.self.inside.items.items (vec_capacity c.self.inside.items) c.self.invariant within in
    let same : length c.remove_notice.new.items.items ≡ length (removed c.args.process.0 c.self.inside.items.items) = ap length c.remove_notice.ensures.removed in
    omega arith

pub invariant_of-self : goal.invariant_of-self
invariant_of-self c =
    let left : c.deref.result.now ≡ removed c.args.process.0 c.self.inside.items.items = c.deref.ensures.value ∙ c.remove_notice.ensures.removed in
    let time = to_z-of_z w64 c.args.time c.ranges.time in
    let front = subst (λ (t : ℤ). take c.place_at-place.result c.deref.result.now ≡ front_at t c.args.prior c.deref.result.now) time c.place_at-place.ensures.front in
    let back = subst (λ (t : ℤ). drop c.place_at-place.result c.deref.result.now ≡ back_at t c.args.prior c.deref.result.now) time c.place_at-place.ensures.back in
    let placed : c.insert_notice.new.items.items ≡ placed_at c.args.time c.args.prior c.args.process.0 c.self.inside.items.items =
    subst (λ (t : ℤ). c.insert_notice.new.items.items ≡ insert c.remove_notice.new.items.items c.place_at-place.result (record { time = t; process = record { 0 = c.args.process.0 } })) time c.insert_notice.ensures.inserted
    ∙ ap (λ (k : List Notice). insert k c.place_at-place.result (record { time = c.args.time; process = record { 0 = c.args.process.0 } })) c.remove_notice.ensures.removed
    ∙ insert-placed_at c.args.time c.args.prior c.args.process.0 c.self.inside.items.items c.place_at-place.result
    (subst (λ (k : List Notice). take c.place_at-place.result k ≡ front_at c.args.time c.args.prior k) left front)
    (subst (λ (k : List Notice). drop c.place_at-place.result k ≡ back_at c.args.time c.args.prior k) left back) in
    let within : c.args.process.0 < vec_capacity c.self.inside.items = subst (λ r. c.args.process.0 < r) (sym (ap (λ (v : NoticeList). v.room) c.self.view_is)) c.requires in
    let more : (vec_capacity c.self.inside.items) ≤ vec_capacity c.insert_notice.new.items = omega arith in
    subst (λ (k : List Notice). IsSchedule k (vec_capacity c.insert_notice.new.items)) (sym placed)
    (IsSchedule-room (placed_at c.args.time c.args.prior c.args.process.0 c.self.inside.items.items) (vec_capacity c.self.inside.items) (vec_capacity c.insert_notice.new.items) (IsSchedule-placed_at c.args.time c.args.prior c.args.process.0 c.self.inside.items.items (vec_capacity c.self.inside.items) c.self.invariant within) more)

pub returns-clause-placed : goal.returns-clause-placed
returns-clause-placed c =
    let left : c.deref.result.now ≡ removed c.args.process.0 c.self.inside.items.items = c.deref.ensures.value ∙ c.remove_notice.ensures.removed in
    let time = to_z-of_z w64 c.args.time c.ranges.time in
    let front = subst (λ (t : ℤ). take c.place_at-place.result c.deref.result.now ≡ front_at t c.args.prior c.deref.result.now) time c.place_at-place.ensures.front in
    let back = subst (λ (t : ℤ). drop c.place_at-place.result c.deref.result.now ≡ back_at t c.args.prior c.deref.result.now) time c.place_at-place.ensures.back in
    let placed : c.insert_notice.new.items.items ≡ placed_at c.args.time c.args.prior c.args.process.0 c.self.inside.items.items =
    subst (λ (t : ℤ). c.insert_notice.new.items.items ≡ insert c.remove_notice.new.items.items c.place_at-place.result (record { time = t; process = record { 0 = c.args.process.0 } })) time c.insert_notice.ensures.inserted
    ∙ ap (λ (k : List Notice). insert k c.place_at-place.result (record { time = c.args.time; process = record { 0 = c.args.process.0 } })) c.remove_notice.ensures.removed
    ∙ insert-placed_at c.args.time c.args.prior c.args.process.0 c.self.inside.items.items c.place_at-place.result
    (subst (λ (k : List Notice). take c.place_at-place.result k ≡ front_at c.args.time c.args.prior k) left front)
    (subst (λ (k : List Notice). drop c.place_at-place.result k ≡ back_at c.args.time c.args.prior k) left back) in
    placed ∙ ap (λ (v : NoticeList). placed_at c.args.time c.args.prior c.args.process.0 v.notices) c.self.view_is
