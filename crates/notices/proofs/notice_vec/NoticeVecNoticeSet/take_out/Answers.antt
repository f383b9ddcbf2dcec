use Rattle.std.proofs.Common.{vec_capacity}
use Rattle.notices.proofs.ScheduleLemmas.{IsSchedule-removed}
use Rattle.notices.proofs.notice_vec.NoticeVecNoticeSet.take_out.Goals as goal

pub invariant_of-self : goal.invariant_of-self
invariant_of-self c = rw (c.remove_notice.ensures.removed, c.remove_notice.ensures.capacity) (IsSchedule-removed c.args.process.0 c.self.inside.items.items (vec_capacity c.self.inside.items) c.self.invariant)
