use Rattle.std.proofs.Common.{◌+◌, ◌-◌, drop, length}
use Rattle.std.proofs.lemmas.List.{drop_all}
use Rattle.codegen.specs.EmitSeveral.{side_in, sides}
use Rattle.codegen.proofs.Sides as w
use Rattle.codegen.proofs.several.emit_gives.Goals as goal

pub loop-done-init : goal.loop-done-init
loop-done-init c =
    let rs = c.args.rest.now in
    let x = c.args.left.now in
    w.gives_none c.args.bound.now c.args.spot c.args.draft.now c.args.depth (drop (length rs - 0) (sides x rs)) (drop_all (length rs - 0) (sides x rs) (w.no_side x rs))

pub loop-done-preserved : goal.loop-done-preserved
loop-done-preserved c =
    let rs = c.args.rest.now in
    let x = c.args.left.now in
    let k = c.loop-done.done in
    w.gives_next c.args.bound.now c.args.spot c.args.draft.now c.loop-done.draft _ c.args.depth c.loop-done.values _ (drop (length rs - k) (sides x rs)) (drop (length rs - (k + 1)) (sides x rs)) (side_in c.side_at-item.result) (w.side_before x rs k (side_in c.side_at-item.result) c.loop-done-test.true c.side_at-item.ensures) c.loop-done.invariant c.in_ok-values.ensures

pub returns : goal.returns
returns c =
    let rs = c.args.rest.now in
    let x = c.args.left.now in
    let k = c.loop-done.done in
    w.gives_done c.args.bound.now c.args.spot c.args.draft.now c.loop-done.draft c.args.depth c.loop-done.values (length rs - k) (sides x rs) c.loop-done.invariant (w.none_left (length rs) k c.loop-done-test.false)
