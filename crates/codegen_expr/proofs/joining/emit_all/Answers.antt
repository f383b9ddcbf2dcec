use Rattle.std.proofs.Common.{◌+◌, drop}
use Rattle.std.proofs.lemmas.List.{drop_more}
use Rattle.codegen_expr.proofs.Joins as w
use Rattle.codegen_expr.proofs.joining.emit_all.Goals as goal

pub loop-item-preserved : goal.loop-item-preserved
loop-item-preserved c =
    let xs = c.args.instrs.now in
    let i = c.loop-item.item-index in
    w.all_next c.args.spot c.args.draft.now c.loop-item.draft _ xs (drop i xs) (drop (i + 1) xs) c.args.line.0 _ c.loop-item.invariant (drop_more xs i _ c.loop-item-test.true) c.in_ok-put_one.ensures
