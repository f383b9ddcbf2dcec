use Rattle.std.proofs.Common.{sym}
use Rattle.simset.proofs.Stepwise.{precede, precede-is}
use Rattle.simset.proofs.Effects.{length-out, is_link_at-out, times_in-out, put_before-nowhere}
use Rattle.simset.proofs.rings.Rings.precede.Goals as goal

pub is_placed-requires : goal.is_placed-requires
is_placed-requires c = rw (c.leave.ensures.sets, length-out) (c.requires.made _ c.in-Some.is)

pub insert_before-requires-clause-link : goal.insert_before-requires-clause-link
insert_before-requires-clause-link c = rw (c.leave.ensures.sets, is_link_at-out) c.requires.link

pub insert_before-requires-clause-outside : goal.insert_before-requires-clause-outside
insert_before-requires-clause-outside c = rw c.leave.ensures.sets (times_in-out _ _)

pub insert_before-requires-clause-made : goal.insert_before-requires-clause-made
insert_before-requires-clause-made c = rw (c.leave.ensures.sets, length-out) (c.requires.made _ c.in-Some.is)

pub returns-then-is_placed-clause-sets : goal.returns-then-is_placed-clause-sets
unfolding precede
returns-then-is_placed-clause-sets c = rw (precede-is, c.in-Some.is, ← c.leave.ensures.sets) c.insert_before.ensures.sets

pub returns-else-is_placed-clause-sets : goal.returns-else-is_placed-clause-sets
unfolding precede
returns-else-is_placed-clause-sets c = rw (precede-is, c.in-Some.is, ← c.leave.ensures.sets) (sym (put_before-nowhere _ _ 0 _ c.if-is_placed.ensures.no))

pub returns-in_default-clause-sets : goal.returns-in_default-clause-sets
unfolding precede
returns-in_default-clause-sets c = rw (precede-is, c.in_default.is) c.leave.ensures.sets
