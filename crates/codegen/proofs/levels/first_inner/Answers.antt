use Rattle.std.proofs.Common.{Some, sym, ap, ◌∙◌}
use Rattle.std.proofs.lemmas.Option.{slice_get-get_or}
use Rattle.codegen.proofs.ClassLevels as w
use Rattle.codegen.proofs.levels.first_inner.Goals as goal

pub loop-index-init : goal.loop-index-init
loop-index-init c = w.none_yet c.args.list.now

pub loop-index-preserved : goal.loop-index-preserved
loop-index-preserved c =
    let xs = c.args.list.now in
    let k = c.loop-index.index in
    let x = c.index-list-index.result in
    w.none_further xs k x c.inner_token.result c.loop-index.invariant (slice_get-get_or xs k x c.loop-index-test.true ∙ ap Some (sym c.index-list-index.is)) c.inner_token.ensures c.in_default.is

pub returns-in-Some-clause-first : goal.returns-in-Some-clause-first
returns-in-Some-clause-first c =
    let xs = c.args.list.now in
    let k = c.loop-index.index in
    let x = c.index-list-index.result in
    w.found_there xs k x c.inner_token.result c.in-Some.token c.loop-index.invariant (slice_get-get_or xs k x c.loop-index-test.true ∙ ap Some (sym c.index-list-index.is)) c.inner_token.ensures c.in-Some.is

pub returns-clause-first : goal.returns-clause-first
returns-clause-first c = w.found_none c.args.list.now c.loop-index.index c.loop-index.invariant c.loop-index-test.false
