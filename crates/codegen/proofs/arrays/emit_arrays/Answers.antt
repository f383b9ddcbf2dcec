use Rattle.std.proofs.Common.{◌+◌, drop}
use Rattle.std.proofs.lemmas.List.{drop_all}
use Rattle.codegen.proofs.Declared as w
use Rattle.codegen.proofs.Rest.{from_drop}
use Rattle.codegen.proofs.arrays.emit_arrays.Goals as goal

pub loop-item-init : goal.loop-item-init
loop-item-init c = w.arrays_all c.args.bound.now c.args.spot c.args.draft.now c.args.list.now

pub loop-item-preserved : goal.loop-item-preserved
loop-item-preserved c =
    let i = c.loop-item.item-index in
    let xs = c.args.list.now in
    w.arrays_next c.args.bound.now c.args.spot c.args.draft.now c.loop-item.draft _ xs (drop i xs) (drop (i + 1) xs) c.item-item.result c.loop-item.invariant (from_drop xs i c.item-item.result c.loop-item-test.true c.item-item.is) c.in_ok-emit_declaration.ensures

pub returns : goal.returns
returns c = w.arrays_none c.args.bound.now c.args.spot c.args.draft.now c.loop-item.draft c.args.list.now (drop c.loop-item.item-index c.args.list.now) c.loop-item.invariant (drop_all c.loop-item.item-index c.args.list.now c.loop-item-test.false)
