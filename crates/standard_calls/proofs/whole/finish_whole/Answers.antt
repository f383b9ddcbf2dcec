use Rattle.std.proofs.Common.{◌≡◌, ◌∙◌, ◌-◌, ap, refl, sym, subst}
use Rattle.std.specs.Prelude.{Ok}
use Rattle.standard_calls.specs.Calls.{CameAs, ReadAs, Takes, begins, operands}
use Rattle.standard_calls.specs.Performed.{Parts, parts}
use Rattle.standard_calls.proofs.whole.finish_whole.Goals as goal

pub returns-in-Ok-clause-row : goal.returns-in-Ok-clause-row
returns-in-Ok-clause-row c input source image sink =
    let call = c.in-Ok.call in
    let old : Parts = parts c.args.texts.now input source image sink c.args.words.now in
    let new : Parts = parts c.come_whole-came.new.texts input source image sink c.come_whole-came.new.words in
    let read : ReadAs (Ok call) c.args.name c.args.depth c.args.stack.now = subst (λ r. ReadAs r c.args.name c.args.depth c.args.stack.now) c.in-Ok.is c.requires.read in
    let at : c.saturating_sub-at.result ≡ begins c.args.depth call = c.saturating_sub-at.ensures ∙ ap (λ k. c.args.depth - k) c.operand_places.ensures.count in
    c.settle.ensures.row c.args.budget c.args.name c.args.depth c.args.stack.now (operands call) old new refl (subst (λ k. Takes c.args.name c.args.depth c.args.stack.now k (operands call)) (sym at) read.1)
    (subst (λ n. CameAs c.come_whole-came.result c.args.budget n (operands call) old new) (sym read.0) (c.come_whole-came.ensures.came input source image sink))
