use Rattle.std.proofs.Common.{sym, refl, arith}
use Rattle.object_machine.specs.Enrolling.{stamps}
use Rattle.object_machine.proofs.Searching.{is_there, lies_behind, lies_lower, lies_nowhere, stamp_index}
use Rattle.object_machine.proofs.members.place_of.Goals as goal

pub returns-then-there-stamp-clause-is : goal.returns-then-there-stamp-clause-is
returns-then-there-stamp-clause-is c rises =
    let low = c.loop-low-test.true in
    let within = c.loop-low.invariant.within in
    sym (is_there (stamps c.args.objects.now) c.args.stamp _ rises (stamp_index c.args.objects.now _ c.args.stamp _ (omega (arith, low, within)) c.if-there-stamp.true))

pub loop-low-preserved-then-there-stamp-2 : goal.loop-low-preserved-then-there-stamp-2
loop-low-preserved-then-there-stamp-2 c =
    let ns = stamps c.args.objects.now in
    let low = c.loop-low-test.true in
    let within = c.loop-low.invariant.within in
    record {
      ordered = omega (arith, low);
      within = within;
      lies = λ rises. lies_behind ns rises c.args.stamp _ _ (stamp_index c.args.objects.now _ _ _ (omega (arith, low, within)) refl) c.loop-low.low c.loop-low.high c.if-there-stamp-2.true (c.loop-low.invariant.lies rises);
    }

pub loop-low-preserved : goal.loop-low-preserved
loop-low-preserved c =
    let low = c.loop-low-test.true in
    let within = c.loop-low.invariant.within in
    record {
      ordered = omega (arith, low);
      within = omega (arith, low, within);
      lies = λ rises. lies_lower c.args.objects.now c.args.stamp c.loop-low.low c.loop-low.high _ _ rises c.if-there-stamp.false c.if-there-stamp-2.false (omega (arith, low, within)) (c.loop-low.invariant.lies rises);
    }

pub returns-clause-is : goal.returns-clause-is
returns-clause-is c rises = sym (lies_nowhere (stamps c.args.objects.now) c.args.stamp c.loop-low.low c.loop-low.high c.loop-low-test.false (c.loop-low.invariant.lies rises))
