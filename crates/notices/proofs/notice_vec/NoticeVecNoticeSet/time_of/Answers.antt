use Rattle.std.proofs.Common.{◌≡◌, ap, ◌∙◌, sym, rules, get_or, Some, None, SFits, w64}
use Rattle.std.specs.List.{position}
use Rattle.std.proofs.lemmas.Int.{to_z-of_z}
use Rattle.std.specs.Option.{option_map}
use Rattle.notices.specs.declared.notice.Notice.{Notice}
use Rattle.notices.specs.Seen.{NoticeList}
use Rattle.notices.specs.Notices.{is_of, notice_of, event_time}
use Rattle.notices.proofs.PlaceLemmas.{position_found}
use Rattle.notices.proofs.ScheduleLemmas.{notice_of-none}
use Rattle.notices.proofs.notice_vec.NoticeVecNoticeSet.time_of.Goals as goal

pub returns-in_err-place : goal.returns-in_err-place
returns-in_err-place c =
    let e : position (is_of c.args.process.0) c.self.inside.items.items ≡ None = cc (c.deref.ensures.value, c.place_of.ensures, c.in_err-place.was) in
    c.from_residual.ensures ∙ sym (ap (option_map (λ (n : Notice). n.time)) (notice_of-none c.args.process.0 c.self.inside.items.items e)) ∙ sym (ap (λ (v : NoticeList). event_time c.args.process.0 v.notices) (sym c.self.view_is))

pub returns : goal.returns
returns c =
    let e : position (is_of c.args.process.0) c.self.inside.items.items ≡ Some c.in_ok-place.place = cc (c.deref.ensures.value, c.place_of.ensures, c.in_ok-place.was) in
    let found : notice_of c.args.process.0 c.self.inside.items.items ≡ Some (get_or c.self.inside.items.items c.in_ok-place.place c.index.result.now) = (position_found (is_of c.args.process.0) c.self.inside.items.items c.in_ok-place.place e).found c.index.result.now in
    let fits : SFits w64 c.index.result.now.time = search rules in
    ap Some (to_z-of_z w64 c.index.result.now.time fits)
    ∙ ap (λ (n : Notice). Some n.time) c.index.ensures
    ∙ sym (ap (option_map (λ (n : Notice). n.time)) found) ∙ ap (λ (v : NoticeList). event_time c.args.process.0 v.notices) c.self.view_is
