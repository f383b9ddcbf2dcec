use Rattle.std.proofs.Common.{◌<◌, ◌≤◌, length, refl, sym, ap, subst}
use Rattle.codegen.proofs.Listed as w
use Rattle.codegen.proofs.Listed.{OwesVirtuals}
use Rattle.codegen.proofs.matches.virtuals_of.Goals as goal

pub loop-index-init : goal.loop-index-init
loop-index-init c = subst (λ z. OwesVirtuals c.args.bound.now z 0) (sym c.new-virtuals.ensures.items) refl

pub loop-index-preserved : goal.loop-index-preserved
loop-index-preserved c =
    let b = c.args.bound.now in
    let i = c.loop-index.index in
    let inside : i < length b.scopes.declarations = subst (λ z. i < z) (ap length c.declarations-index-end.ensures) c.loop-index-test.true in
    w.virtuals_next b c.loop-index.virtuals.items c.add_virtual.new.virtuals.items i c.in_ok-place.place c.entry_of-entry.result c.loop-index.invariant inside c.in_ok-place.ensures c.entry_of-entry.ensures c.in_ok-add_virtual.ensures

pub returns : goal.returns
returns c =
    let b = c.args.bound.now in
    let i = c.loop-index.index in
    let past : length b.scopes.declarations ≤ i = subst (λ z. z ≤ i) (ap length c.declarations-index-end.ensures) c.loop-index-test.false in
    w.virtuals_last b c.loop-index.virtuals.items i c.loop-index.invariant past
