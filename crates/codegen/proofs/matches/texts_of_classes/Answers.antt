use Rattle.std.proofs.Common.{Some, sym, ap, ◌∙◌}
use Rattle.std.proofs.lemmas.Option.{slice_get-get_or}
use Rattle.codegen.proofs.Listed as w
use Rattle.codegen.proofs.matches.texts_of_classes.Goals as goal

pub loop-index-init : goal.loop-index-init
loop-index-init c = w.put_none c.args.bound.now c.args.draft.now c.args.count c.in_ok-texts.texts.items c.in_ok-texts.ensures

pub loop-index-preserved : goal.loop-index-preserved
loop-index-preserved c =
    let i = c.loop-index.index in
    let ts = c.args.trees.now in
    let x = c.index-trees-index.result in
    w.put_next c.args.bound.now c.args.draft.now ts c.args.count i c.in_ok-text.text c.class_of_text-class.result x c.loop-index.texts.items c.put_text.new.texts.items c.loop-index.invariant c.requires.trees
    (slice_get-get_or ts i x c.loop-index-test.true ∙ ap Some (sym c.index-trees-index.is)) c.in_ok-text.ensures c.class_of_text-class.ensures c.put_text.ensures

pub returns : goal.returns
returns c = w.put_all c.args.bound.now c.args.draft.now c.args.trees.now c.args.count c.loop-index.index c.loop-index.texts.items c.loop-index.invariant c.requires.trees c.loop-index-test.false
