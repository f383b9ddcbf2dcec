use Rattle.std.proofs.Common.{◌+◌, drop, sym, subst}
use Rattle.std.proofs.lemmas.List.{drop_all, drop_more}
use Rattle.codegen.specs.EmitProgram.{FormalsGiven, OwesFormals}
use Rattle.codegen.proofs.Heads as w
use Rattle.codegen.proofs.records.code_formals.Goals as goal

pub loop-formal-init : goal.loop-formal-init
loop-formal-init c =
    let xs = c.formals_of_head-list.result.now in
    subst (λ z. OwesFormals c.args.bound.now c.args.draft.now xs z xs) (sym c.new-formals.ensures.items) (w.given_all c.args.bound.now c.args.draft.now xs)

pub loop-formal-preserved : goal.loop-formal-preserved
loop-formal-preserved c =
    let i = c.loop-formal.formal-index in
    let xs = c.formals_of_head-list.result.now in
    w.given_next c.args.bound.now c.args.draft.now c.loop-formal.formals.items _ xs (drop i xs) (drop (i + 1) xs) _ _ c.loop-formal.invariant (drop_more xs i _ c.loop-formal-test.true) c.code_formal.ensures c.in_ok-push.ensures.items

pub returns : goal.returns
returns c =
    let i = c.loop-formal.formal-index in
    let xs = c.formals_of_head-list.result.now in
    subst (λ z. FormalsGiven c.args.bound.now c.args.draft.now z c.loop-formal.formals.items) c.formals_of_head-list.ensures (w.given_none c.args.bound.now c.args.draft.now c.loop-formal.formals.items xs (drop i xs) c.loop-formal.invariant (drop_all i xs c.loop-formal-test.false))
