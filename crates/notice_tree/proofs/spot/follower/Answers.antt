use Rattle.std.proofs.Common.{arith}
use Rattle.notice_tree.proofs.ClimbLemmas.{end_by_length, length-le_total}
use Rattle.notice_tree.proofs.SpotLemmas.{IsFollowing-begun, IsFollowing-more, follows_on_left, follows_at_root, follows_at_end}
use Rattle.notice_tree.proofs.spot.follower.Goals as goal

pub loop-step-init : goal.loop-step-init
loop-step-init c = λ link way s side once. IsFollowing-begun c.args.nodes.now c.args.spot link way s side once

pub loop-step-preserved : goal.loop-step-preserved
loop-step-preserved c = λ link way s side once.
    IsFollowing-more c.args.nodes.now c.loop-step.spot c.spot_of-spot.result c.in-Some.process way c.loop-step._step (c.loop-step.invariant link way s side once)
    c.if-spot.false c.in-Some.is c.spot_of-spot.ensures.parent c.spot_of-spot.ensures.left c.spot_of-spot.ensures.right

pub returns-then-spot : goal.returns-then-spot
returns-then-spot c = λ link way s side once small.
    follows_on_left c.args.nodes.now c.loop-step.spot way c.loop-step._step (c.loop-step.invariant link way s side once) c.if-spot.true

pub returns-in_default : goal.returns-in_default
returns-in_default c = λ link way s side once small.
    follows_at_root c.args.nodes.now c.loop-step.spot way c.loop-step._step (c.loop-step.invariant link way s side once) c.in_default.is

pub returns : goal.returns
returns c = λ link way s side once small.
    let go = c.loop-step.invariant link way s side once in
    follows_at_end c.args.nodes.now c.loop-step.spot way c.loop-step._step go (end_by_length go.rest (omega (arith, go.steps, small, length-le_total way)))
