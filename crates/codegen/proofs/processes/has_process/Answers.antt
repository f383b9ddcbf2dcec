use Rattle.std.proofs.Common.{◌<◌, ◌≤◌, length, sym, ◌∙◌, subst}
use Rattle.codegen.proofs.ProcessLevels as w
use Rattle.codegen.proofs.processes.has_process.Goals as goal

pub loop-step-init : goal.loop-step-init
loop-step-init c = w.has_first c.args.bound.now c.args.text

pub loop-step-preserved : goal.loop-step-preserved
loop-step-preserved c =
    let n = length c.args.bound.now.scopes.blocks in
    let inside : c.loop-step.step < n = subst (λ z. c.loop-step.step < z) c.block_count-step-end.ensures c.loop-step-test.true in
    w.has_further c.args.bound.now n c.loop-step.step c.args.text c.loop-step.level c.in-Some.front c.is_process.result inside c.is_process.ensures c.if-is_process.false (sym c.base.ensures ∙ c.in-Some.is) c.loop-step.invariant

pub returns-then-is_process : goal.returns-then-is_process
returns-then-is_process c =
    let n = length c.args.bound.now.scopes.blocks in
    let inside : c.loop-step.step < n = subst (λ z. c.loop-step.step < z) c.block_count-step-end.ensures c.loop-step-test.true in
    w.has_found c.args.bound.now n c.loop-step.step c.args.text c.loop-step.level c.is_process.result inside c.is_process.ensures c.if-is_process.true c.loop-step.invariant

pub returns-in-None : goal.returns-in-None
returns-in-None c =
    let n = length c.args.bound.now.scopes.blocks in
    let inside : c.loop-step.step < n = subst (λ z. c.loop-step.step < z) c.block_count-step-end.ensures c.loop-step-test.true in
    w.has_none c.args.bound.now n c.loop-step.step c.args.text c.loop-step.level c.is_process.result inside c.is_process.ensures c.if-is_process.false (sym c.base.ensures ∙ c.in-None.is) c.loop-step.invariant

pub returns : goal.returns
returns c =
    let n = length c.args.bound.now.scopes.blocks in
    let past : n ≤ c.loop-step.step = subst (λ z. z ≤ c.loop-step.step) c.block_count-step-end.ensures c.loop-step-test.false in
    w.has_ended c.args.bound.now n c.loop-step.step c.args.text c.loop-step.level past c.loop-step.invariant
