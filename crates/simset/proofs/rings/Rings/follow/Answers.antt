use Rattle.std.proofs.Common.{sym}
use Rattle.simset.proofs.Stepwise.{follow, follow-is}
use Rattle.simset.proofs.Effects.{length-out, is_link_at-out, times_in-out, put_after-nowhere}
use Rattle.simset.proofs.rings.Rings.follow.Goals as goal

pub is_placed-requires : goal.is_placed-requires
is_placed-requires c = rw (c.leave.ensures.sets, length-out) (c.requires.made _ c.in-Some.is)

pub insert_after-requires-clause-link : goal.insert_after-requires-clause-link
insert_after-requires-clause-link c = rw (c.leave.ensures.sets, is_link_at-out) c.requires.link

pub insert_after-requires-clause-outside : goal.insert_after-requires-clause-outside
insert_after-requires-clause-outside c = rw c.leave.ensures.sets (times_in-out _ _)

pub insert_after-requires-clause-made : goal.insert_after-requires-clause-made
insert_after-requires-clause-made c = rw (c.leave.ensures.sets, length-out) (c.requires.made _ c.in-Some.is)

pub returns-then-is_placed-clause-sets : goal.returns-then-is_placed-clause-sets
unfolding follow
returns-then-is_placed-clause-sets c = rw (follow-is, c.in-Some.is, ← c.leave.ensures.sets) c.insert_after.ensures.sets

pub returns-else-is_placed-clause-sets : goal.returns-else-is_placed-clause-sets
unfolding follow
returns-else-is_placed-clause-sets c = rw (follow-is, c.in-Some.is, ← c.leave.ensures.sets) (sym (put_after-nowhere _ _ 0 _ c.if-is_placed.ensures.no))

pub returns-in_default-clause-sets : goal.returns-in_default-clause-sets
unfolding follow
returns-in_default-clause-sets c = rw (follow-is, c.in_default.is) c.leave.ensures.sets
