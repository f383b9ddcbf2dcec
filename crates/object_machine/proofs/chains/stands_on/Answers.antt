use Rattle.std.proofs.Common.{rules, ◌≡◌, ◌-◌, sym, refl, arith}
use Rattle.std.specs.Prelude.{true, false, slice_index_or}
use Rattle.sim_chains.specs.Chains.{is_instance}
use Rattle.object_machine.specs.Transferring.{frame_of}
use Rattle.object_machine.proofs.Cutting.{got, none_from, stands_below, stands_nowhere}
use Rattle.object_machine.proofs.chains.stands_on.Goals as goal

pub returns-then-is_frame_of-2 : goal.returns-then-is_frame_of-2
returns-then-is_frame_of-2 c =
    let at = c.loop-at.at - 1 in
    let t = slice_index_or c.args.below.now at c.index-below-at.result in
    let own : is_instance c.args.instance (frame_of t) ≡ true = search rules in
    let more = c.loop-at-test.true in
    let within = c.loop-at.invariant.within in
    sym (stands_below c.args.instance c.args.top.now c.args.below.now at t (got c.args.below.now at c.index-below-at.result (omega (arith, more, within))) own)

pub loop-at-preserved : goal.loop-at-preserved
loop-at-preserved c =
    let at = c.loop-at.at - 1 in
    let other : is_instance c.args.instance (frame_of (slice_index_or c.args.below.now at c.index-below-at.result)) ≡ false = search rules in
    let more = c.loop-at-test.true in
    let within = c.loop-at.invariant.within in
    record {
      within = omega (arith, within);
      none = none_from c.args.instance c.args.below.now c.loop-at.at at c.index-below-at.result refl (omega (arith, more)) within other c.loop-at.invariant.none;
    }

pub returns : goal.returns
returns c =
    let other : is_instance c.args.instance (frame_of c.args.top.now) ≡ false = search rules in
    let done = c.loop-at-test.false in
    sym (stands_nowhere c.args.instance c.args.top.now c.args.below.now other (λ k t there. c.loop-at.invariant.none k t (omega (arith, done)) there))
