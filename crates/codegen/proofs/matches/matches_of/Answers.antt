use Rattle.std.proofs.Common.{◌+◌, drop, refl, sym, subst}
use Rattle.std.proofs.lemmas.List.{drop_all, drop_more}
use Rattle.codegen.proofs.Listed as w
use Rattle.codegen.proofs.Listed.{OwesMatches}
use Rattle.codegen.proofs.matches.matches_of.Goals as goal

pub loop-declaration-init : goal.loop-declaration-init
loop-declaration-init c =
    let xs = c.args.virtuals.now in
    subst (λ z. OwesMatches c.args.bound.now c.args.text xs z xs) (sym c.new-matches.ensures.items) refl

pub loop-declaration-preserved : goal.loop-declaration-preserved
loop-declaration-preserved c =
    let i = c.loop-declaration.declaration-index in
    let xs = c.args.virtuals.now in
    w.matches_next c.args.bound.now c.args.text xs (drop i xs) (drop (i + 1) xs) _ c.loop-declaration.matches.items c.add_match.new.matches.items c.loop-declaration.invariant (drop_more xs i _ c.loop-declaration-test.true) c.in_ok-add_match.ensures

pub returns : goal.returns
returns c =
    let i = c.loop-declaration.declaration-index in
    let xs = c.args.virtuals.now in
    w.matches_last c.args.bound.now c.args.text xs (drop i xs) c.loop-declaration.matches.items c.loop-declaration.invariant (drop_all i xs c.loop-declaration-test.false) c.requires.virtuals
