use Rattle.std.proofs.Common.{refl, arith}
use Rattle.codegen.proofs.PlanSteps as w
use Rattle.codegen.proofs.plan.put_planned.Goals as goal

pub returns-then-place-len : goal.returns-then-place-len
returns-then-place-len c =
    let length_is = c.len.ensures in
    let past = c.if-place-len.true in
    w.put_past c.args.planning.now c.args.block c.args.class c.args.planned (omega (arith, length_is, past))

pub returns-then-place-len-2 : goal.returns-then-place-len-2
returns-then-place-len-2 c =
    let length_is = c.len-2.ensures in
    let past = c.if-place-len-2.true in
    w.put_unmarked c.args.planning.now c.args.block c.args.class c.args.planned (omega (arith, length_is, past))

pub returns : goal.returns
returns c = w.put_there c.args.planning.now _ c.args.block c.args.class c.args.planned refl refl c.max-planning.ensures
