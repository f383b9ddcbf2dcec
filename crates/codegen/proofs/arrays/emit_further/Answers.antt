use Rattle.std.proofs.Common.{◌+◌, drop}
use Rattle.std.proofs.lemmas.List.{drop_all}
use Rattle.codegen.proofs.Declared as w
use Rattle.codegen.proofs.Rest.{from_drop}
use Rattle.codegen.proofs.arrays.emit_further.Goals as goal

pub loop-index-init : goal.loop-index-init
loop-index-init c = w.further_all c.args.bound.now c.args.spot c.args.draft.now c.args.first (drop 1 c.args.names.now)

pub loop-index-preserved : goal.loop-index-preserved
loop-index-preserved c =
    let i = c.loop-index.index in
    let xs = c.args.names.now in
    w.further_next c.args.bound.now c.args.spot c.args.draft.now c.loop-index.draft _ _ _ c.args.first (drop 1 xs) (drop i xs) (drop (i + 1) xs) c.index-names-index.result _ c.loop-index.invariant (from_drop xs i c.index-names-index.result c.loop-index-test.true c.index-names-index.is) c.in_ok-emit_load.ensures c.line_at.ensures c.in_ok-put.ensures c.in_ok-emit_keep.ensures

pub returns : goal.returns
returns c = w.further_none c.args.bound.now c.args.spot c.args.draft.now c.loop-index.draft c.args.first (drop 1 c.args.names.now) (drop c.loop-index.index c.args.names.now) c.loop-index.invariant (drop_all c.loop-index.index c.args.names.now c.loop-index-test.false)
