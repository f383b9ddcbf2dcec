use Rattle.std.proofs.Common.{◌<◌, ◌≤◌, length, subst}
use Rattle.codegen.proofs.PlanSteps as w
use Rattle.codegen.proofs.plan.not_planned.Goals as goal

pub returns-in_default : goal.returns-in_default
returns-in_default c = w.walk_ends c.args.bound.now c.args.planning.now c.args.text c.loop-step.step c.loop-step.chain.items c.loop-step.next c.loop-step.invariant c.in_default.is

pub returns-then-is_done : goal.returns-then-is_done
returns-then-is_done c =
    w.walk_meets c.args.bound.now c.args.planning.now c.args.text c.loop-step.step c.in-Some.level c.block_number-block.result c.loop-step.chain.items c.loop-step.next c.is_done.result c.loop-step.invariant c.in-Some.is c.block_number-block.ensures c.is_done.ensures c.if-is_done.true

pub loop-step-preserved : goal.loop-step-preserved
loop-step-preserved c =
    let n = length c.args.bound.now.scopes.blocks in
    let inside : c.loop-step.step < n = subst (λ z. c.loop-step.step < z) c.block_count-step-end.ensures c.loop-step-test.true in
    w.walk_next c.args.bound.now c.args.text c.loop-step.step c.in-Some.level c.loop-step.chain.items _ c.loop-step.next _ c.loop-step.invariant c.in-Some.is inside c.in_ok-push.ensures.items c.prefix_of-next.ensures

pub returns : goal.returns
returns c =
    let n = length c.args.bound.now.scopes.blocks in
    let past : n ≤ c.loop-step.step = subst (λ z. z ≤ c.loop-step.step) c.block_count-step-end.ensures c.loop-step-test.false in
    w.walk_last c.args.bound.now c.args.planning.now c.args.text c.loop-step.step c.loop-step.chain.items c.loop-step.next c.loop-step.invariant past
