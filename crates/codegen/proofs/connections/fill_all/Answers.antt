use Rattle.std.proofs.Common.{rules, of_z, to_z, w64, ◌≡◌, ◌+◌, drop, subst}
use Rattle.std.proofs.lemmas.List.{drop_all, drop_more}
use Rattle.codegen.specs.EmitConnections.{FillsAll}
use Rattle.codegen.proofs.Filled as w
use Rattle.codegen.proofs.connections.fill_all.Goals as goal

pub loop-place-init : goal.loop-place-init
loop-place-init c = w.filled_first c.args.draft.now c.args.places.now (to_z w64 (of_z w64 c.args.target))

pub loop-place-preserved : goal.loop-place-preserved
loop-place-preserved c =
    let i = c.loop-place.place-index in
    let xs = c.args.places.now in
    w.filled_next c.args.draft.now c.loop-place.draft _ xs (drop i xs) (drop (i + 1) xs) _ (to_z w64 (of_z w64 c.args.target)) c.loop-place.invariant (drop_more xs i _ c.loop-place-test.true) c.fill_in.ensures

pub returns : goal.returns
returns c =
    let i = c.loop-place.place-index in
    let xs = c.args.places.now in
    let target = to_z w64 (of_z w64 c.args.target) in
    let same : to_z w64 (of_z w64 c.args.target) ≡ c.args.target = search rules in
    subst (λ z. FillsAll c.args.draft.now c.loop-place.draft xs z) same (w.filled_last c.args.draft.now c.loop-place.draft xs (drop i xs) target c.loop-place.invariant (drop_all i xs c.loop-place-test.false))
