use Rattle.std.proofs.Common.{length, ap, sym, ◌∙◌, arith}
use Rattle.sim_scope.specs.Scopes.{class_formals}
use Rattle.sim_scope.proofs.LevelsLeft.{behind_further, behind_last, count_of, left_all, left_none}
use Rattle.sim_scope.proofs.formals.class_formals_count.Goals as goal

pub loop-step-init : goal.loop-step-init
loop-step-init c = let e = ap length (left_all c.args.scopes.now (length c.args.scopes.now.blocks) c.args.block) in (omega (arith, e), omega arith)

pub overflow_add-count : goal.overflow_add-count
overflow_add-count c = omega (arith, c.loop-step.invariant.1, c.own_count-count.ensures.least, c.loop-step-test.true, c.block_count-step-end.type_inv)

pub returns-in-None : goal.returns-in-None
unfolding class_formals
returns-in-None c =
    let s = c.args.scopes.now in
    let n = length s.blocks in
    let a = c.loop-step.invariant.0 in
    let b = count_of s n c.loop-step.step c.loop-step.block (omega arith) in
    let d = ap length (behind_last s n c.loop-step.step c.loop-step.block (sym c.base.ensures ∙ c.in-None.is)) in
    omega (arith, a, b, d, c.own_count-count.ensures.count)

pub loop-step-preserved : goal.loop-step-preserved
loop-step-preserved c =
    let s = c.args.scopes.now in
    let n = length s.blocks in
    let a = c.loop-step.invariant.0 in
    let b = count_of s n c.loop-step.step c.loop-step.block (omega arith) in
    let d = ap length (behind_further s n c.loop-step.step c.loop-step.block c.in-Some.outer (sym c.base.ensures ∙ c.in-Some.is)) in
    (omega (arith, a, b, d, c.own_count-count.ensures.count), omega (arith, c.loop-step.invariant.1, c.own_count-count.ensures.least))

pub returns : goal.returns
unfolding class_formals
returns c =
    let s = c.args.scopes.now in
    let n = length s.blocks in
    let a = c.loop-step.invariant.0 in
    let b = ap length (left_none s n c.loop-step.step c.loop-step.block (omega arith)) in
    omega (arith, a, b)
