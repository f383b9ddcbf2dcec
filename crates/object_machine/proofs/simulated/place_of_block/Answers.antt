use Rattle.std.proofs.Common.{sym, refl, arith}
use Rattle.object_machine.specs.Enrolling.{stamps}
use Rattle.object_machine.specs.Simulating.{blocks_of}
use Rattle.object_machine.proofs.Searching.{is_there, lies_behind, lies_nowhere}
use Rattle.object_machine.proofs.Simulations.{block_index, lies_lower_block}
use Rattle.object_machine.proofs.simulated.place_of_block.Goals as goal

pub returns-then-there-stamp-clause-is : goal.returns-then-there-stamp-clause-is
returns-then-there-stamp-clause-is c rises =
    let low = c.loop-low-test.true in
    let within = c.loop-low.invariant.within in
    sym (is_there (stamps (blocks_of c.args.simulations.now)) c.args.stamp _ rises (block_index c.args.simulations.now _ c.args.stamp _ (omega (arith, low, within)) c.if-there-stamp.true))

pub loop-low-preserved-then-there-stamp-2 : goal.loop-low-preserved-then-there-stamp-2
loop-low-preserved-then-there-stamp-2 c =
    let ns = stamps (blocks_of c.args.simulations.now) in
    let low = c.loop-low-test.true in
    let within = c.loop-low.invariant.within in
    record {
      ordered = omega (arith, low);
      within = within;
      lies = λ rises. lies_behind ns rises c.args.stamp _ _ (block_index c.args.simulations.now _ _ _ (omega (arith, low, within)) refl) c.loop-low.low c.loop-low.high c.if-there-stamp-2.true (c.loop-low.invariant.lies rises);
    }

pub loop-low-preserved : goal.loop-low-preserved
loop-low-preserved c =
    let low = c.loop-low-test.true in
    let within = c.loop-low.invariant.within in
    record {
      ordered = omega (arith, low);
      within = omega (arith, low, within);
      lies = λ rises. lies_lower_block c.args.simulations.now c.args.stamp c.loop-low.low c.loop-low.high _ _ rises c.if-there-stamp.false c.if-there-stamp-2.false (omega (arith, low, within)) (c.loop-low.invariant.lies rises);
    }

pub returns-clause-is : goal.returns-clause-is
returns-clause-is c rises = sym (lies_nowhere (stamps (blocks_of c.args.simulations.now)) c.args.stamp c.loop-low.low c.loop-low.high c.loop-low-test.false (c.loop-low.invariant.lies rises))
