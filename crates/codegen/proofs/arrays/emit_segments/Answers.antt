use Rattle.std.proofs.Common.{◌+◌, drop}
use Rattle.std.proofs.lemmas.List.{drop_all}
use Rattle.codegen.proofs.Declared as w
use Rattle.codegen.proofs.Rest.{from_drop}
use Rattle.codegen.proofs.arrays.emit_segments.Goals as goal

pub loop-item-init : goal.loop-item-init
loop-item-init c = w.segments_all c.args.bound.now c.args.spot c.args.draft.now c.args.type_name.now c.args.segments.now

pub loop-item-preserved : goal.loop-item-preserved
loop-item-preserved c =
    let i = c.loop-item.item-index in
    let xs = c.args.segments.now in
    w.segments_next c.args.bound.now c.args.spot c.args.draft.now c.loop-item.draft _ c.args.type_name.now xs (drop i xs) (drop (i + 1) xs) c.item-item.result c.loop-item.invariant (from_drop xs i c.item-item.result c.loop-item-test.true c.item-item.is) c.in_ok-emit_segment.ensures

pub returns : goal.returns
returns c = w.segments_none c.args.bound.now c.args.spot c.args.draft.now c.loop-item.draft c.args.type_name.now c.args.segments.now (drop c.loop-item.item-index c.args.segments.now) c.loop-item.invariant (drop_all c.loop-item.item-index c.args.segments.now c.loop-item-test.false)
