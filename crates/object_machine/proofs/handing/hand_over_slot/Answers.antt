use Rattle.std.proofs.Common.{sym, subst}
use Rattle.frame_arena.specs.Arrays.{HoldsArrays, KeepLeading}
use Rattle.frame_arena.specs.Slots.{value_of}
use Rattle.object_machine.proofs.Handovers.{in_array, in_other}
use Rattle.object_machine.proofs.handing.hand_over_slot.Goals as goal

pub returns-in_default-clause-holds : goal.returns-in_default-clause-holds
returns-in_default-clause-holds c o h lead = subst (λ w. HoldsArrays c.args.arrays.now w.arrays) (sym (in_other c.args.owner (value_of c.args.slot) o c.in_default.ensures.number)) h

pub returns-in_default-clause-leads : goal.returns-in_default-clause-leads
returns-in_default-clause-leads c o h lead = subst (λ w. KeepLeading c.args.arrays.now o.arrays c.args.arrays.now w.arrays) (sym (in_other c.args.owner (value_of c.args.slot) o c.in_default.ensures.number)) (λ r l. l)

pub returns-clause-holds : goal.returns-clause-holds
returns-clause-holds c o h lead =
    subst (λ w. HoldsArrays c.hand_over.new.self w.arrays) (sym (in_array c.args.owner (value_of c.args.slot) o c.in-Some.array.stamp c.in-Some.ensures.number))
    (c.hand_over.ensures.holds o h (c.in-Some.ensures.leads c.args.arrays.now.regions o.arrays lead))

pub returns-clause-leads : goal.returns-clause-leads
returns-clause-leads c o h lead =
    subst (λ w. KeepLeading c.args.arrays.now o.arrays c.hand_over.new.self w.arrays) (sym (in_array c.args.owner (value_of c.args.slot) o c.in-Some.array.stamp c.in-Some.ensures.number)) (c.hand_over.ensures.leads o h)
