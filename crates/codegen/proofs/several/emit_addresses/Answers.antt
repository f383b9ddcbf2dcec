use Rattle.std.proofs.Common.{◌+◌, drop}
use Rattle.std.proofs.lemmas.List.{drop_all}
use Rattle.codegen.specs.EmitSeveral.{side_in, sides}
use Rattle.codegen.proofs.Sides as w
use Rattle.codegen.proofs.several.emit_addresses.Goals as goal

pub loop-done-init : goal.loop-done-init
loop-done-init c = w.addresses_all c.args.bound.now c.args.spot c.args.draft.now (sides c.args.left.now c.args.rest.now)

pub loop-done-preserved : goal.loop-done-preserved
loop-done-preserved c =
    let rs = c.args.rest.now in
    let x = c.args.left.now in
    let k = c.loop-done.done in
    w.addresses_next c.args.bound.now c.args.spot c.args.draft.now c.loop-done.draft _ (sides x rs) (drop k (sides x rs)) (drop (k + 1) (sides x rs)) (side_in c.side_at-item.result) c.loop-done.depth _ c.loop-done.invariant (w.side_next x rs k (side_in c.side_at-item.result) c.side_at-item.ensures) c.in_ok-depth.ensures

pub returns : goal.returns
returns c =
    let rs = c.args.rest.now in
    let x = c.args.left.now in
    let k = c.loop-done.done in
    w.addresses_none c.args.bound.now c.args.spot c.args.draft.now c.loop-done.draft (sides x rs) (drop k (sides x rs)) c.loop-done.depth c.loop-done.invariant (drop_all k (sides x rs) (w.all_sides x rs k c.loop-done-test.false))
