use Rattle.std.proofs.Common.{◌+◌, drop}
use Rattle.std.proofs.lemmas.List.{drop_all, drop_more}
use Rattle.codegen.proofs.Heads as w
use Rattle.codegen.proofs.records.push_cells.Goals as goal

pub loop-item-init : goal.loop-item-init
loop-item-init c = w.cells_all c.args.bound.now c.args.types.now.items c.args.list.now

pub loop-item-preserved : goal.loop-item-preserved
loop-item-preserved c =
    let i = c.loop-item.item-index in
    let xs = c.args.list.now in
    w.cells_next c.args.bound.now c.args.types.now.items xs (drop i xs) (drop (i + 1) xs) c.loop-item.types.items _ _ _ c.loop-item.invariant (drop_more xs i _ c.loop-item-test.true) c.entry_of.ensures c.in_ok-push_cell.ensures

pub returns : goal.returns
returns c = w.cells_none c.args.bound.now c.args.types.now.items c.args.list.now (drop c.loop-item.item-index c.args.list.now) c.loop-item.types.items c.loop-item.invariant (drop_all c.loop-item.item-index c.args.list.now c.loop-item-test.false)
