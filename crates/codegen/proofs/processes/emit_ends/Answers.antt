use Rattle.std.proofs.Common.{rules, of_z, to_z, w64, ◌≡◌, ◌+◌, drop, sym, subst}
use Rattle.std.proofs.lemmas.List.{drop_all, drop_more}
use Rattle.codegen.specs.EmitConnections.{FillsAll}
use Rattle.codegen.specs.EmitProcesses.{OwesEnds}
use Rattle.codegen.proofs.ProcessLevels as w
use Rattle.codegen.proofs.processes.emit_ends.Goals as goal

pub loop-class-init : goal.loop-class-init
loop-class-init c =
    let xs = c.args.classes.now in
    subst (λ z. OwesEnds c.args.bound.now c.args.spot c.args.around c.args.draft.now xs c.args.draft.now z xs) (sym c.new-overs.ensures.items) (w.ends_all c.args.bound.now c.args.spot c.args.around c.args.draft.now xs)

pub loop-class-preserved : goal.loop-class-preserved
loop-class-preserved c =
    let i = c.loop-class.class-index in
    let xs = c.args.classes.now in
    w.ends_next c.args.bound.now c.args.spot c.args.around c.args.draft.now c.loop-class.draft _ xs (drop i xs) (drop (i + 1) xs) _ c.loop-class.overs.items _ _ c.loop-class.invariant (drop_more xs i _ c.loop-class-test.true) c.in_ok-over.ensures c.in_ok-push.ensures.items

pub returns : goal.returns
returns c =
    let same : to_z w64 (of_z w64 c.in_ok-end.end) ≡ c.in_ok-end.end = search rules in
    let old = c.loop-class.draft in
    let mid = c.emit_origin_ends.new.draft in
    let new = c.fill_all.new.draft in
    let xs = c.args.classes.now in
    let all = subst (λ z. FillsAll mid new c.loop-class.overs.items z) same (subst (λ z. FillsAll mid new z (to_z w64 (of_z w64 c.in_ok-end.end))) c.deref.ensures.value c.fill_all.ensures) in
    w.ends_put c.args.bound.now c.args.spot c.args.around c.args.place c.args.draft.now old mid new xs (drop c.loop-class.class-index xs) c.args.tokens.now c.loop-class.overs.items _ c.loop-class.invariant (drop_all c.loop-class.class-index xs c.loop-class-test.false) c.in_ok-emit_origin_ends.ensures c.in_ok-end.ensures all
