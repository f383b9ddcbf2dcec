use Rattle.std.proofs.Common.{◌<◌, List, length, sym, subst, ◌∙◌}
use Rattle.simset.specs.Sets.{Linkage, links_of}
use Rattle.simset.proofs.Keeps.{proper-out}
use Rattle.simset.proofs.Effects.{suc_of-head, member_link, fewer, clear-out, clear-empty, is_head_at-out}
use Rattle.simset.proofs.rings.Rings.clear.Goals as goal

pub leave-requires : goal.leave-requires
leave-requires c = member_link _ _ 0 _ c.loop-link.invariant.proper c.loop-link.invariant.head (sym (suc_of-head _ _ c.loop-link.invariant.head) ∙ sym c.next_link.ensures ∙ c.in-Some.is)

pub loop-link-smaller : goal.loop-link-smaller
loop-link-smaller c =
    let P : List Linkage → Type 0 = λ sets. length (links_of sets c.args.head.0) < length (links_of c.loop-link.self.sets c.args.head.0) in
    subst P (sym c.leave.ensures.sets) (fewer _ _ _ c.loop-link.invariant.head (sym (suc_of-head _ _ c.loop-link.invariant.head) ∙ sym c.next_link.ensures ∙ c.in-Some.is))

pub loop-link-preserved : goal.loop-link-preserved
loop-link-preserved c = record {
  same = rw c.leave.ensures.sets (clear-out _ _ _ c.loop-link.invariant.proper c.loop-link.invariant.head (sym (suc_of-head _ _ c.loop-link.invariant.head) ∙ sym c.next_link.ensures ∙ c.in-Some.is)) ∙ c.loop-link.invariant.same;
  room = c.leave.ensures.room ∙ c.loop-link.invariant.room;
  head = rw (c.leave.ensures.sets, is_head_at-out) c.loop-link.invariant.head;
  proper = rw c.leave.ensures.sets (proper-out _ _ c.loop-link.invariant.proper);
}

pub returns-clause-sets : goal.returns-clause-sets
returns-clause-sets c =
    sym (clear-empty _ _ (sym (suc_of-head _ _ c.loop-link.invariant.head) ∙ sym c.next_link.ensures ∙ c.in_default.is)) ∙ c.loop-link.invariant.same
