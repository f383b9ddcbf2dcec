use Rattle.std.proofs.Common.{◌≡◌, ◌∙◌, arith}
use Rattle.simset.specs.Sets.{out, times_in}
use Rattle.simset.proofs.Stepwise.{into, into-is}
use Rattle.simset.proofs.Keeps.{head_nowhere, proper-out}
use Rattle.simset.proofs.Effects.{length-out, is_link_at-out, is_head_at-out, is_head_at-made, times_in-out, put_before-last, places_from-some}
use Rattle.simset.proofs.rings.Rings.into.Goals as goal

pub insert_before-requires-clause-link : goal.insert_before-requires-clause-link
insert_before-requires-clause-link c = rw (c.leave.ensures.sets, is_link_at-out) c.requires.link

pub insert_before-requires-clause-outside : goal.insert_before-requires-clause-outside
insert_before-requires-clause-outside c = rw c.leave.ensures.sets (times_in-out _ _)

pub insert_before-requires-clause-made : goal.insert_before-requires-clause-made
insert_before-requires-clause-made c = rw (c.leave.ensures.sets, length-out) (is_head_at-made _ _ (c.requires.head _ c.in-Some.is))

pub insert_before-requires-clause-placed : goal.insert_before-requires-clause-placed
insert_before-requires-clause-placed c =
    rw c.leave.ensures.sets (places_from-some c.in-Some.place.0 0 c.in-Some.place.0 (out c.args.self.now.sets c.args.link.0) (omega arith) (rw is_head_at-out (c.requires.head _ c.in-Some.is)))

pub returns-in-Some-clause-sets : goal.returns-in-Some-clause-sets
unfolding into
returns-in-Some-clause-sets c =
    let nowhere : times_in c.in-Some.place.0 c.leave.new.self.sets ≡ 0 =
    rw c.leave.ensures.sets (head_nowhere _ _ (proper-out _ _ c.members_stand_once.ensures) (rw is_head_at-out (c.requires.head _ c.in-Some.is)))
    in
    rw (into-is, c.in-Some.is, ← c.leave.ensures.sets) (c.insert_before.ensures.sets ∙ put_before-last _ _ 0 _ nowhere)

pub returns-in_default-clause-sets : goal.returns-in_default-clause-sets
unfolding into
returns-in_default-clause-sets c = rw (into-is, c.in_default.is) c.leave.ensures.sets
