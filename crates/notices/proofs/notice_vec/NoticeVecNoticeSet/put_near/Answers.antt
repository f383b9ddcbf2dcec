use Rattle.std.proofs.Common.{◌≡◌, ◌≢◌, ℕ, ◌+◌, ◌<◌, ◌≤◌, ap, ◌∙◌, sym, subst, arith, rules, ℤ, length, get_or, vec_capacity, Some, None, is_some, List, SFits, w64, cond, Option}
use Rattle.std.specs.List.{position, insert}
use Rattle.std.proofs.lemmas.Int.{to_z-of_z}
use Rattle.notices.specs.declared.notice.Notice.{Notice}
use Rattle.notices.specs.Seen.{NoticeList}
use Rattle.notices.specs.Notices.{is_of, has_notice, removed, notice_of, placed_beside, placed_near}
use Rattle.notices.specs.Schedule.{IsSchedule}
use Rattle.notices.proofs.ScheduleLemmas.{has_notice-place, notice_of-none, length-removed, IsSchedule-removed, IsSchedule-room, IsSchedule-placed_near, insert-placed_near, has_notice-position, notice_of-removed, placed_near-other}
use Rattle.notices.proofs.notice_vec.NoticeVecNoticeSet.put_near.Goals.{then-before, else-before}
use Rattle.notices.proofs.notice_vec.NoticeVecNoticeSet.put_near.Goals as goal

pub returns-then-eq-clause-found : goal.returns-then-eq-clause-found
returns-then-eq-clause-found c =
    let position_is : c.place_of.result ≡ position (is_of c.args.other.0) c.self.inside.items.items = cc (c.deref.ensures.value, c.place_of.ensures) in
    c.is_some.ensures ∙ ap (is_some {T = ℕ}) position_is ∙ has_notice-position c.args.other.0 c.self.inside.items.items ∙ ap (λ (v : NoticeList). has_notice c.args.other.0 v.notices) c.self.view_is

pub invariant_of-self : goal.invariant_of-self
invariant_of-self c = rw (c.remove_notice.ensures.removed, c.remove_notice.ensures.capacity) (IsSchedule-removed c.args.process.0 c.self.inside.items.items (vec_capacity c.self.inside.items) c.self.invariant)

pub insert_notice-requires-clause-capacity : goal.insert_notice-requires-clause-capacity
insert_notice-requires-clause-capacity c =
    let within : c.args.process.0 < vec_capacity c.self.inside.items = subst (λ r. c.args.process.0 < r) (sym (ap (λ (v : NoticeList). v.room) c.self.view_is)) c.requires in
    let short = length-removed c.args.process.0 c.self.inside.items.items (vec_capacity c.self.inside.items) c.self.invariant within in
    let same : length c.remove_notice.new.items.items ≡ length (removed c.args.process.0 c.self.inside.items.items) = ap length c.remove_notice.ensures.removed in
    omega arith

pub invariant_of-self-in-Some : goal.invariant_of-self-in-Some
invariant_of-self-in-Some c =
    let e : position (is_of c.args.other.0) (removed c.args.process.0 c.self.inside.items.items) ≡ Some c.in-Some.place = cc (c.deref-2.ensures.value, c.place_of-2.ensures, c.in-Some.is, c.remove_notice.ensures.removed) in
    let other : c.args.process.0 ≢ c.args.other.0 = search (rules, c.eq.ensures) in
    let fits : SFits w64 c.index.result.now.time = search rules in
    let at : c.if-before.place ≡ cond c.args.before c.in-Some.place (c.in-Some.place + 1) =
    elim c.if-before.branch [ then-before w ↦ rw (w.place-is, w.if-before.true) | else-before w ↦ rw (w.place-is, w.if-before.false) ] in
    let read : c.index.result.now ≡ get_or (removed c.args.process.0 c.self.inside.items.items) c.in-Some.place c.index.result.now =
    subst (λ (k : List Notice). c.index.result.now ≡ get_or k c.in-Some.place c.index.result.now) c.remove_notice.ensures.removed c.index.ensures in
    let placed : c.insert_notice.new.items.items ≡ placed_near c.args.before c.args.other.0 c.args.process.0 c.self.inside.items.items =
    subst (λ (t : ℤ). c.insert_notice.new.items.items ≡ insert c.remove_notice.new.items.items c.if-before.place (record { time = t; process = record { 0 = c.args.process.0 } })) (to_z-of_z w64 c.index.result.now.time fits) c.insert_notice.ensures.inserted
    ∙ ap (λ (k : List Notice). insert k c.if-before.place (record { time = c.index.result.now.time; process = record { 0 = c.args.process.0 } })) c.remove_notice.ensures.removed
    ∙ ap (λ i. insert (removed c.args.process.0 c.self.inside.items.items) i (record { time = c.index.result.now.time; process = record { 0 = c.args.process.0 } })) at
    ∙ insert-placed_near c.args.before c.args.process.0 c.args.other.0 other c.self.inside.items.items c.in-Some.place c.index.result.now e read in
    let within : c.args.process.0 < vec_capacity c.self.inside.items = subst (λ r. c.args.process.0 < r) (sym (ap (λ (v : NoticeList). v.room) c.self.view_is)) c.requires in
    let more : (vec_capacity c.self.inside.items) ≤ vec_capacity c.insert_notice.new.items = omega arith in
    subst (λ (k : List Notice). IsSchedule k (vec_capacity c.insert_notice.new.items)) (sym placed)
    (IsSchedule-room (placed_near c.args.before c.args.other.0 c.args.process.0 c.self.inside.items.items) (vec_capacity c.self.inside.items) (vec_capacity c.insert_notice.new.items) (IsSchedule-placed_near c.args.before c.args.other.0 c.args.process.0 c.self.inside.items.items (vec_capacity c.self.inside.items) c.self.invariant within) more)

pub returns-in-None-clause-found : goal.returns-in-None-clause-found
returns-in-None-clause-found c =
    let e : position (is_of c.args.other.0) (removed c.args.process.0 c.self.inside.items.items) ≡ None = cc (c.deref-2.ensures.value, c.place_of-2.ensures, c.in-None.is, c.remove_notice.ensures.removed) in
    let other : c.args.process.0 ≢ c.args.other.0 = search (rules, c.eq.ensures) in
    sym (ap (is_some {T = Notice}) (sym (notice_of-removed c.args.process.0 c.args.other.0 other c.self.inside.items.items) ∙ notice_of-none c.args.other.0 (removed c.args.process.0 c.self.inside.items.items) e))
    ∙ ap (λ (v : NoticeList). has_notice c.args.other.0 v.notices) c.self.view_is

pub returns-in-None-clause-placed : goal.returns-in-None-clause-placed
returns-in-None-clause-placed c =
    let e : position (is_of c.args.other.0) (removed c.args.process.0 c.self.inside.items.items) ≡ None = cc (c.deref-2.ensures.value, c.place_of-2.ensures, c.in-None.is, c.remove_notice.ensures.removed) in
    let other : c.args.process.0 ≢ c.args.other.0 = search (rules, c.eq.ensures) in
    let absent : notice_of c.args.other.0 c.self.inside.items.items ≡ None = sym (notice_of-removed c.args.process.0 c.args.other.0 other c.self.inside.items.items) ∙ notice_of-none c.args.other.0 (removed c.args.process.0 c.self.inside.items.items) e in
    c.remove_notice.ensures.removed
    ∙ sym (placed_near-other c.args.before c.args.process.0 c.args.other.0 other c.self.inside.items.items ∙ ap (λ (o : Option Notice). placed_beside c.args.before o c.args.process.0 c.self.inside.items.items) absent)
    ∙ ap (λ (v : NoticeList). placed_near c.args.before c.args.other.0 c.args.process.0 v.notices) c.self.view_is

pub returns-after-before-clause-found : goal.returns-after-before-clause-found
returns-after-before-clause-found c =
    let e : position (is_of c.args.other.0) (removed c.args.process.0 c.self.inside.items.items) ≡ Some c.in-Some.place = cc (c.deref-2.ensures.value, c.place_of-2.ensures, c.in-Some.is, c.remove_notice.ensures.removed) in
    let other : c.args.process.0 ≢ c.args.other.0 = search (rules, c.eq.ensures) in
    has_notice-place c.args.other.0 (removed c.args.process.0 c.self.inside.items.items) c.in-Some.place e
    ∙ ap (is_some {T = Notice}) (notice_of-removed c.args.process.0 c.args.other.0 other c.self.inside.items.items) ∙ ap (λ (v : NoticeList). has_notice c.args.other.0 v.notices) c.self.view_is

pub returns-after-before-clause-placed : goal.returns-after-before-clause-placed
returns-after-before-clause-placed c =
    let e : position (is_of c.args.other.0) (removed c.args.process.0 c.self.inside.items.items) ≡ Some c.in-Some.place = cc (c.deref-2.ensures.value, c.place_of-2.ensures, c.in-Some.is, c.remove_notice.ensures.removed) in
    let other : c.args.process.0 ≢ c.args.other.0 = search (rules, c.eq.ensures) in
    let fits : SFits w64 c.index.result.now.time = search rules in
    let at : c.if-before.place ≡ cond c.args.before c.in-Some.place (c.in-Some.place + 1) =
    elim c.if-before.branch [ then-before w ↦ rw (w.place-is, w.if-before.true) | else-before w ↦ rw (w.place-is, w.if-before.false) ] in
    let read : c.index.result.now ≡ get_or (removed c.args.process.0 c.self.inside.items.items) c.in-Some.place c.index.result.now =
    subst (λ (k : List Notice). c.index.result.now ≡ get_or k c.in-Some.place c.index.result.now) c.remove_notice.ensures.removed c.index.ensures in
    let placed : c.insert_notice.new.items.items ≡ placed_near c.args.before c.args.other.0 c.args.process.0 c.self.inside.items.items =
    subst (λ (t : ℤ). c.insert_notice.new.items.items ≡ insert c.remove_notice.new.items.items c.if-before.place (record { time = t; process = record { 0 = c.args.process.0 } })) (to_z-of_z w64 c.index.result.now.time fits) c.insert_notice.ensures.inserted
    ∙ ap (λ (k : List Notice). insert k c.if-before.place (record { time = c.index.result.now.time; process = record { 0 = c.args.process.0 } })) c.remove_notice.ensures.removed
    ∙ ap (λ i. insert (removed c.args.process.0 c.self.inside.items.items) i (record { time = c.index.result.now.time; process = record { 0 = c.args.process.0 } })) at
    ∙ insert-placed_near c.args.before c.args.process.0 c.args.other.0 other c.self.inside.items.items c.in-Some.place c.index.result.now e read in
    placed ∙ ap (λ (v : NoticeList). placed_near c.args.before c.args.other.0 c.args.process.0 v.notices) c.self.view_is
