use Rattle.std.proofs.Common.{◌≡◌, ◌-◌, suc, subst, ◌∙◌, arith}
use Rattle.object_machine.proofs.KeptFrames.{KeptDown, next_ends, next_kept, none_left, top_ends, top_kept}
use Rattle.object_machine.proofs.keeping.keep_frames.Goals as goal

pub returns-in-Ends-clause-row : goal.returns-in-Ends-clause-row
returns-in-Ends-clause-row c all = top_ends c.args.frames.now c.args.top c.args.below.now c.keep_one.new.frames c.in-Ends.ensures.row

pub loop-at-init : goal.loop-at-init
loop-at-init c = record {
  within = omega arith;
  stacks = c.keep_one.ensures.stacks;
  kept = top_kept c.args.frames.now c.args.top c.args.below.now c.keep_one.new.frames c.in-Further.ensures.row;
}

pub loop-at-preserved : goal.loop-at-preserved
loop-at-preserved c =
    let fs = c.args.frames.now in
    let below = c.args.below.now in
    let at = c.loop-at.at - 1 in
    let more = c.loop-at-test.true in
    let within = c.loop-at.invariant.within in
    let same : c.loop-at.at ≡ suc at = omega (arith, more) in
    record {
      within = omega (arith, within);
      stacks = c.keep_one-in-loop-at.ensures.stacks ∙ c.loop-at.invariant.stacks;
      kept = next_kept fs c.args.top below c.loop-at.frames c.keep_one-in-loop-at.new.frames at c.index-below-at.result (omega (arith, more, within)) (subst (λ n. KeptDown fs c.loop-at.frames c.args.top below n) same c.loop-at.invariant.kept) c.in-Further-keep_one.ensures.row;
    }

pub returns-in-Ends-keep_one-clause-row : goal.returns-in-Ends-keep_one-clause-row
returns-in-Ends-keep_one-clause-row c all =
    let fs = c.args.frames.now in
    let below = c.args.below.now in
    let at = c.loop-at.at - 1 in
    let more = c.loop-at-test.true in
    let within = c.loop-at.invariant.within in
    let same : c.loop-at.at ≡ suc at = omega (arith, more) in
    next_ends fs c.args.top below c.loop-at.frames c.keep_one-in-loop-at.new.frames at c.index-below-at.result (omega (arith, more, within)) (subst (λ n. KeptDown fs c.loop-at.frames c.args.top below n) same c.loop-at.invariant.kept) c.in-Ends-keep_one.ensures.row

pub returns-clause-row : goal.returns-clause-row
returns-clause-row c all =
    let done = c.loop-at-test.false in
    none_left c.args.frames.now c.args.top c.args.below.now c.loop-at.frames c.loop-at.at (omega (arith, done)) c.loop-at.invariant.kept
