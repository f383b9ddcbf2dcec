use Rattle.std.proofs.Common.{arith}
use Rattle.object_machine.proofs.AllHanded.{all_first, all_handed, all_lead, all_next}
use Rattle.object_machine.proofs.handing.hand_over_all.Goals as goal

pub loop-place-init : goal.loop-place-init
loop-place-init c = all_first c.args.arrays.now c.args.stack.now c.args.at c.args.count c.args.owner

pub loop-place-preserved : goal.loop-place-preserved
loop-place-preserved c =
    let t = c.loop-place-test.true in
    all_next c.args.arrays.now c.loop-place.arrays c.hand_over_slot.new.arrays c.args.stack.now c.args.at c.args.count c.args.owner c.loop-place.place c.loop-place.invariant (omega (arith, t)) c.hand_over_slot.ensures.holds
    c.hand_over_slot.ensures.leads c.hand_over_slot.ensures.elements

pub returns-clause-holds : goal.returns-clause-holds
returns-clause-holds c o h lead =
    let t = c.loop-place-test.false in
    all_handed c.args.arrays.now c.loop-place.arrays c.args.stack.now c.args.at c.args.count c.args.owner c.loop-place.place c.loop-place.invariant (omega (arith, t)) o h lead

pub returns-clause-leads : goal.returns-clause-leads
returns-clause-leads c o h lead =
    let t = c.loop-place-test.false in
    all_lead c.args.arrays.now c.loop-place.arrays c.args.stack.now c.args.at c.args.count c.args.owner c.loop-place.place c.loop-place.invariant (omega (arith, t)) o h lead

pub returns-clause-elements : goal.returns-clause-elements
returns-clause-elements c frames m all = c.loop-place.invariant.1 frames m all
