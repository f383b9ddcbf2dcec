use Rattle.std.proofs.Common.{◌≡◌, ◌-◌, ◌+◌, length, sym, ap, ◌∙◌, arith}
use Rattle.codegen_expr.specs.Built.{is_around}
use Rattle.codegen_expr.proofs.Around.{found_here, found_none, found_nowhere, found_outside, one_less}
use Rattle.codegen_expr.proofs.lookups.is_around.Goals as goal

pub loop-step-init : goal.loop-step-init
loop-step-init c =
    let n = length c.args.scopes.now.blocks in
    let e : n ≡ n - 0 = omega arith in ap (λ m. is_around c.args.scopes.now m c.args.inner c.args.outer) e

pub returns-then-is_level : goal.returns-then-is_level
returns-then-is_level c =
    let s = c.args.scopes.now in
    let n = length s.blocks in
    sym (c.loop-step.invariant ∙ one_less s c.args.outer n c.loop-step.step c.loop-step.text (omega arith) ∙ found_here s c.args.outer (n - (c.loop-step.step + 1)) c.loop-step.text (sym c.is_level.ensures ∙ c.if-is_level.true))

pub returns-in-None : goal.returns-in-None
returns-in-None c =
    let s = c.args.scopes.now in
    let n = length s.blocks in
    sym (c.loop-step.invariant ∙ one_less s c.args.outer n c.loop-step.step c.loop-step.text (omega arith) ∙ found_nowhere s c.args.outer (n - (c.loop-step.step + 1)) c.loop-step.text (sym c.is_level.ensures ∙ c.if-is_level.false) (sym c.encloser.ensures ∙ c.in-None.is))

pub loop-step-preserved : goal.loop-step-preserved
loop-step-preserved c =
    let s = c.args.scopes.now in
    let n = length s.blocks in
    c.loop-step.invariant ∙ one_less s c.args.outer n c.loop-step.step c.loop-step.text (omega arith) ∙ found_outside s c.args.outer (n - (c.loop-step.step + 1)) c.loop-step.text c.in-Some.around (sym c.is_level.ensures ∙ c.if-is_level.false) (sym c.encloser.ensures ∙ c.in-Some.is)

pub returns : goal.returns
returns c =
    let s = c.args.scopes.now in
    let n = length s.blocks in
    sym (c.loop-step.invariant ∙ found_none s c.args.outer (n - c.loop-step.step) c.loop-step.text (omega arith))
