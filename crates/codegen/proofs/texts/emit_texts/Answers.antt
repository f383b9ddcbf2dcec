use Rattle.std.proofs.Common.{arith, Some, sym, ap, ◌∙◌, subst}
use Rattle.std.proofs.lemmas.Option.{slice_get-get_or}
use Rattle.codegen.specs.EmitProgram.{WritesText}
use Rattle.codegen.proofs.Whole as w
use Rattle.codegen.proofs.texts.emit_texts.Goals as goal

pub loop-index-init : goal.loop-index-init
loop-index-init c = w.texts_first c.args.bound.now c.args.written.now c.args.texts.now

pub loop-index-preserved : goal.loop-index-preserved
loop-index-preserved c =
    let k = c.loop-index.index in
    let xs = c.args.texts.now in
    let x = c.index-texts-index.result in
    let new = c.emit_text.new.written in
    w.texts_next c.args.bound.now c.args.written.now c.loop-index.written new xs k x c.loop-index.invariant (slice_get-get_or xs k x c.loop-index-test.true ∙ ap Some (sym c.index-texts-index.is)) (subst (λ z. WritesText c.args.bound.now c.loop-index.written new z x) c.in_ok-text.ensures c.in_ok-emit_text.ensures)

pub returns : goal.returns
returns c =
    let low = c.loop-index.auto.index-end in
    let high = c.loop-index-test.false in
    w.texts_last c.args.bound.now c.args.written.now c.loop-index.written c.args.texts.now c.loop-index.index c.loop-index.invariant (omega (arith, low, high))
