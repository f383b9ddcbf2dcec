use Rattle.std.proofs.Common.{◌+◌, drop}
use Rattle.std.proofs.lemmas.List.{drop_all}
use Rattle.codegen_expr.proofs.ActualKinds as w
use Rattle.codegen_expr.proofs.Written.{from_drop}
use Rattle.codegen_expr.proofs.actuals.actuals_of.Goals as goal

pub loop-item-preserved : goal.loop-item-preserved
loop-item-preserved c =
    let xs = c.args.list.now in
    let i = c.loop-item.item-index in
    w.found_next c.args.bound.now c.args.draft.now xs (drop i xs) (drop (i + 1) xs) c.loop-item.actuals.items _ _ _ c.loop-item.invariant (from_drop xs i c.item-item.result c.loop-item-test.true c.item-item.is) c.in_ok-actual_of.ensures c.in_ok-push.ensures.items

pub returns : goal.returns
returns c =
    let xs = c.args.list.now in
    let i = c.loop-item.item-index in
    w.found_none c.args.bound.now c.args.draft.now xs (drop i xs) c.loop-item.actuals.items c.loop-item.invariant (drop_all i xs c.loop-item-test.false)
