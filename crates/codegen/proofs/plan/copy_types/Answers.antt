use Rattle.std.proofs.Common.{◌≡◌, ◌+◌, ◌++◌, [], drop, sym, ap, ◌∙◌, append-nil}
use Rattle.std.proofs.lemmas.List.{drop_all, drop_more}
use Rattle.codegen.proofs.Planned as w
use Rattle.codegen.proofs.plan.copy_types.Goals as goal

pub loop-item-preserved : goal.loop-item-preserved
loop-item-preserved c =
    let i = c.loop-item.item-index in
    let xs = c.args.types.now in
    w.copied_next c.loop-item.copy.items _ xs (drop i xs) (drop (i + 1) xs) _ c.loop-item.invariant (drop_more xs i _ c.loop-item-test.true) c.in_ok-push.ensures.items

pub returns : goal.returns
returns c =
    let i = c.loop-item.item-index in
    let xs = c.args.types.now in
    let none : drop i xs ≡ [] = drop_all i xs c.loop-item-test.false in
    sym (append-nil c.loop-item.copy.items) ∙ ap (λ z. c.loop-item.copy.items ++ z) (sym none) ∙ c.loop-item.invariant
