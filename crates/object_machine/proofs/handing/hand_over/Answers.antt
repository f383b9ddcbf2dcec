use Rattle.std.proofs.Common.{length, arith}
use Rattle.std.proofs.lemmas.List.{get_or_default}
use Rattle.object_machine.proofs.Handovers.{handed_first, handed_holds, handed_leads, handed_next, one_of}
use Rattle.object_machine.proofs.handing.hand_over.Goals as goal

pub loop-place-init : goal.loop-place-init
loop-place-init c = handed_first c.args.arrays.now c.args.formals.now c.args.stack.now c.args.at c.args.count c.args.owner

pub loop-place-preserved : goal.loop-place-preserved
loop-place-preserved c =
    let e = c.min-taken.ensures in
    let t = c.loop-place-test.true in
    handed_next c.args.arrays.now c.loop-place.arrays c.hand_over_at.new.arrays c.args.formals.now c.args.stack.now c.args.at c.args.count c.args.owner c.loop-place.place _ c.loop-place.invariant (omega (arith, e, t)) (omega (arith, e, t))
    (λ d. get_or_default c.args.formals.now c.loop-place.place d _ (omega (arith, e, t))) c.hand_over_at.ensures.holds c.hand_over_at.ensures.leads c.hand_over_at.ensures.elements

pub returns-clause-holds : goal.returns-clause-holds
returns-clause-holds c o h lead =
    let e = c.min-taken.ensures in
    let t = c.loop-place-test.false in
    handed_holds c.args.arrays.now c.loop-place.arrays c.args.formals.now c.args.stack.now c.args.at c.args.count c.args.owner c.loop-place.place c.loop-place.invariant (one_of c.args.count (length c.args.formals.now) c.loop-place.place (omega (arith, e, t))) o h lead

pub returns-clause-leads : goal.returns-clause-leads
returns-clause-leads c o h lead =
    let e = c.min-taken.ensures in
    let t = c.loop-place-test.false in
    handed_leads c.args.arrays.now c.loop-place.arrays c.args.formals.now c.args.stack.now c.args.at c.args.count c.args.owner c.loop-place.place c.loop-place.invariant (one_of c.args.count (length c.args.formals.now) c.loop-place.place (omega (arith, e, t))) o h lead

pub returns-clause-elements : goal.returns-clause-elements
returns-clause-elements c frames m all = c.loop-place.invariant.1 frames m all
