use Rattle.std.proofs.Common.{◌≡◌, ◌∙◌, sym, Some, None}
use Rattle.std.specs.List.{position}
use Rattle.notices.specs.Notices.{is_of}
use Rattle.notices.proofs.ScheduleLemmas.{has_notice-none, has_notice-place, notice_of-none, removed_none, removed_at}
use Rattle.notices.proofs.notice_vec.remove_notice.Goals as goal

pub returns-in-None-clause-found : goal.returns-in-None-clause-found
returns-in-None-clause-found c = let e : position (is_of c.args.process.0) c.args.items.now.items ≡ None = cc in has_notice-none c.args.process.0 c.args.items.now.items e

pub returns-in-None-clause-removed : goal.returns-in-None-clause-removed
returns-in-None-clause-removed c = let e : position (is_of c.args.process.0) c.args.items.now.items ≡ None = cc in sym (removed_none c.args.process.0 c.args.items.now.items (notice_of-none c.args.process.0 c.args.items.now.items e))

pub returns-in-Some-clause-found : goal.returns-in-Some-clause-found
returns-in-Some-clause-found c = let e : position (is_of c.args.process.0) c.args.items.now.items ≡ Some c.in-Some.place = cc in has_notice-place c.args.process.0 c.args.items.now.items c.in-Some.place e

pub returns-in-Some-clause-removed : goal.returns-in-Some-clause-removed
returns-in-Some-clause-removed c = let e : position (is_of c.args.process.0) c.args.items.now.items ≡ Some c.in-Some.place = cc in c.remove.ensures.by_index.2 ∙ removed_at c.args.process.0 c.args.items.now.items c.in-Some.place c.requires e
