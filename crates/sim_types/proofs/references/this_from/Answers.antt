use Rattle.std.proofs.Common.{◌≡◌, ◌-◌, ◌+◌, length, sym, ap, ◌∙◌, arith}
use Rattle.sim_scope.specs.References.{this_of}
use Rattle.sim_types.proofs.Outward.{meant_here, meant_none, meant_nowhere, meant_outside, one_less}
use Rattle.sim_types.proofs.references.this_from.Goals as goal

pub loop-step-init : goal.loop-step-init
loop-step-init c =
    let n = length c.args.scopes.now.blocks in
    let e : n ≡ n - 0 = omega arith in ap (λ m. this_of c.args.scopes.now m c.args.class c.args.block) e

pub returns-then-is_this : goal.returns-then-is_this
returns-then-is_this c =
    let s = c.args.scopes.now in
    let n = length s.blocks in
    let i = c.loop-step.step in
    let b = c.loop-step.block in
    sym (c.loop-step.invariant ∙ one_less s c.args.class n i b (omega arith) ∙ meant_here s c.args.class (n - (i + 1)) b (sym c.is_this.ensures ∙ c.if-is_this.true))

pub returns-in-None : goal.returns-in-None
returns-in-None c =
    let s = c.args.scopes.now in
    let n = length s.blocks in
    let i = c.loop-step.step in
    let b = c.loop-step.block in
    sym (c.loop-step.invariant ∙ one_less s c.args.class n i b (omega arith) ∙ meant_nowhere s c.args.class (n - (i + 1)) b (sym c.is_this.ensures ∙ c.if-is_this.false) (sym c.encloser.ensures ∙ c.in-None.is))

pub loop-step-preserved : goal.loop-step-preserved
loop-step-preserved c =
    let s = c.args.scopes.now in
    let n = length s.blocks in
    let i = c.loop-step.step in
    let b = c.loop-step.block in
    c.loop-step.invariant ∙ one_less s c.args.class n i b (omega arith) ∙ meant_outside s c.args.class (n - (i + 1)) b c.in-Some.around (sym c.is_this.ensures ∙ c.if-is_this.false) (sym c.encloser.ensures ∙ c.in-Some.is)

pub returns : goal.returns
returns c =
    let s = c.args.scopes.now in
    let n = length s.blocks in
    sym (c.loop-step.invariant ∙ meant_none s c.args.class (n - c.loop-step.step) c.loop-step.block (omega arith))
