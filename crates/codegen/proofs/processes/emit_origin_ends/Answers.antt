use Rattle.std.proofs.Common.{rules, of_z, to_z, w64, ◌≡◌, ◌+◌, drop, sym, subst}
use Rattle.std.proofs.lemmas.List.{drop_all, drop_more}
use Rattle.codegen.specs.EmitConnections.{FillsAll}
use Rattle.codegen.specs.EmitProcesses.{OwesOrigins}
use Rattle.codegen.proofs.OriginEnds as w
use Rattle.codegen.proofs.processes.emit_origin_ends.Goals as goal

pub loop-token-init : goal.loop-token-init
loop-token-init c =
    let xs = c.args.tokens.now in
    subst (λ z. OwesOrigins c.args.bound.now c.args.spot c.args.around c.args.place c.args.draft.now xs c.args.draft.now z xs) (sym c.new-overs.ensures.items) (w.origins_all c.args.bound.now c.args.spot c.args.around c.args.place c.args.draft.now xs)

pub loop-token-preserved : goal.loop-token-preserved
loop-token-preserved c =
    let i = c.loop-token.token-index in
    let xs = c.args.tokens.now in
    w.origins_next c.args.bound.now c.args.spot c.args.around c.args.place c.args.draft.now c.loop-token.draft _ xs (drop i xs) (drop (i + 1) xs) _ c.loop-token.overs.items _ _ c.loop-token.invariant (drop_more xs i _ c.loop-token-test.true) c.in_ok-over.ensures c.in_ok-push.ensures.items

pub returns : goal.returns
returns c =
    let same : to_z w64 (of_z w64 c.in_ok-end.end) ≡ c.in_ok-end.end = search rules in
    let old = c.loop-token.draft in
    let mid = c.emit_last_end.new.draft in
    let new = c.fill_all.new.draft in
    let xs = c.args.tokens.now in
    let all = subst (λ z. FillsAll mid new c.loop-token.overs.items z) same (subst (λ z. FillsAll mid new z (to_z w64 (of_z w64 c.in_ok-end.end))) c.deref.ensures.value c.fill_all.ensures) in
    w.origins_put c.args.bound.now c.args.spot c.args.around c.args.place c.args.draft.now old mid new xs (drop c.loop-token.token-index xs) c.loop-token.overs.items _ c.loop-token.invariant (drop_all c.loop-token.token-index xs c.loop-token-test.false) c.in_ok-emit_last_end.ensures c.in_ok-end.ensures all
