use Rattle.std.proofs.Common.{◌+◌, drop}
use Rattle.std.proofs.lemmas.List.{drop_all}
use Rattle.codegen.proofs.Declared as w
use Rattle.codegen.proofs.Rest.{from_drop}
use Rattle.codegen.proofs.arrays.emit_bounds.Goals as goal

pub loop-item-init : goal.loop-item-init
loop-item-init c = w.bounds_all c.args.bound.now c.args.spot c.args.draft.now c.args.bounds.now

pub loop-item-preserved : goal.loop-item-preserved
loop-item-preserved c =
    let i = c.loop-item.item-index in
    let xs = c.args.bounds.now in
    w.bounds_next c.args.bound.now c.args.spot c.args.draft.now c.loop-item.draft _ _ xs (drop i xs) (drop (i + 1) xs) c.item-item.result c.loop-item.depth _ _ c.loop-item.invariant (from_drop xs i c.item-item.result c.loop-item-test.true c.item-item.is) c.in_ok-emit_expr.ensures c.in_ok-inside.ensures c.in_ok-emit_expr-2.ensures c.in_ok-depth.ensures

pub returns : goal.returns
returns c = w.bounds_none c.args.bound.now c.args.spot c.args.draft.now c.loop-item.draft c.args.bounds.now (drop c.loop-item.item-index c.args.bounds.now) c.loop-item.depth c.loop-item.invariant (drop_all c.loop-item.item-index c.args.bounds.now c.loop-item-test.false)
