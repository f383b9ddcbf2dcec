use Rattle.std.proofs.Common.{◌≡◌, ◌∙◌, ◌-◌, ap, refl, sym, subst}
use Rattle.std.specs.Prelude.{Ok}
use Rattle.standard_calls.specs.Calls.{CameAs, ReadAs, Takes, begins, operands}
use Rattle.standard_calls.specs.Performed.{IfMoved}
use Rattle.standard_calls.proofs.Settling.{settled_still}
use Rattle.standard_calls.proofs.plain.finish_plain.Goals as goal

pub returns-in-Ok-clause-row : goal.returns-in-Ok-clause-row
returns-in-Ok-clause-row c budget p =
    let call = c.in-Ok.call in
    let read : ReadAs (Ok call) c.args.name c.args.depth c.args.stack.now = subst (λ r. ReadAs r c.args.name c.args.depth c.args.stack.now) c.in-Ok.is c.requires.read in
    let at : c.saturating_sub-at.result ≡ begins c.args.depth call = c.saturating_sub-at.ensures ∙ ap (λ k. c.args.depth - k) c.operand_places.ensures.count in
    c.settle.ensures.row budget c.args.name c.args.depth c.args.stack.now (operands call) p p refl (subst (λ k. Takes c.args.name c.args.depth c.args.stack.now k (operands call)) (sym at) read.1)
    (subst (λ n. CameAs c.come_plain.result budget n (operands call) p p) (sym read.0) (c.come_plain.ensures.came budget p))

pub returns-in-Ok-clause-unmoved : goal.returns-in-Ok-clause-unmoved
returns-in-Ok-clause-unmoved c =
    let ends = c.settle.ensures.ends in
    subst (λ r. IfMoved r ⊥) (sym ends.1) (settled_still ends.0 ⊥ ⊥ (λ x. x) c.come_plain.result c.come_plain.ensures.unmoved)
