use Rattle.std.proofs.Common.{sym, subst}
use Rattle.frame_arena.specs.Arrays.{HoldsArrays, KeepLeading}
use Rattle.frame_arena.specs.Slots.{value_of}
use Rattle.object_machine.proofs.Handovers.{one_none, one_taken}
use Rattle.object_machine.proofs.handing.hand_over_at.Goals as goal

pub returns-then-not-takes_array-clause-holds : goal.returns-then-not-takes_array-clause-holds
returns-then-not-takes_array-clause-holds c o h lead = subst (λ w. HoldsArrays c.args.arrays.now w.arrays) (sym (one_none c.args.owner c.args.formal (value_of c.args.slot) o (sym c.if-not-takes_array.ensures))) h

pub returns-then-not-takes_array-clause-leads : goal.returns-then-not-takes_array-clause-leads
returns-then-not-takes_array-clause-leads c o h lead =
    subst (λ w. KeepLeading c.args.arrays.now o.arrays c.args.arrays.now w.arrays) (sym (one_none c.args.owner c.args.formal (value_of c.args.slot) o (sym c.if-not-takes_array.ensures))) (λ r l. l)

pub returns-clause-holds : goal.returns-clause-holds
returns-clause-holds c o h lead =
    subst (λ w. HoldsArrays c.hand_over_slot.new.arrays w.arrays) (sym (one_taken c.args.owner c.args.formal (value_of c.args.slot) o (sym c.if-not-takes_array.ensures))) (c.hand_over_slot.ensures.holds o h lead)

pub returns-clause-leads : goal.returns-clause-leads
returns-clause-leads c o h lead =
    subst (λ w. KeepLeading c.args.arrays.now o.arrays c.hand_over_slot.new.arrays w.arrays) (sym (one_taken c.args.owner c.args.formal (value_of c.args.slot) o (sym c.if-not-takes_array.ensures))) (c.hand_over_slot.ensures.leads o h lead)
