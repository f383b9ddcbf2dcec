use Rattle.std.proofs.Common.{◌≡◌, ◌-◌, ◌+◌, length, sym, ap, ◌∙◌, arith}
use Rattle.codegen_expr.specs.Built.{is_level}
use Rattle.codegen_expr.proofs.Around.{level_alone, level_front, level_here, level_spent, one_level_less}
use Rattle.codegen_expr.proofs.lookups.is_level.Goals as goal

pub loop-step-init : goal.loop-step-init
loop-step-init c =
    let n = length c.args.scopes.now.blocks in
    let e : n ≡ n - 0 = omega arith in ap (λ m. is_level c.args.scopes.now m c.args.text c.args.level) e

pub returns-then-front-level : goal.returns-then-front-level
returns-then-front-level c =
    let s = c.args.scopes.now in
    let n = length s.blocks in
    sym (c.loop-step.invariant ∙ level_here s c.args.level (n - c.loop-step.step) c.loop-step.front c.if-front-level.true)

pub returns-in-None : goal.returns-in-None
returns-in-None c =
    let s = c.args.scopes.now in
    let n = length s.blocks in
    sym (c.loop-step.invariant ∙ level_alone s c.args.level (n - c.loop-step.step) c.loop-step.front c.if-front-level.false (sym c.prefix_of.ensures ∙ c.in-None.is))

pub loop-step-preserved : goal.loop-step-preserved
loop-step-preserved c =
    let s = c.args.scopes.now in
    let n = length s.blocks in
    c.loop-step.invariant ∙ one_level_less s c.args.level n c.loop-step.step c.loop-step.front (omega arith) ∙ level_front s c.args.level (n - (c.loop-step.step + 1)) c.loop-step.front c.in-Some.next c.if-front-level.false (sym c.prefix_of.ensures ∙ c.in-Some.is)

pub returns : goal.returns
returns c =
    let s = c.args.scopes.now in
    let n = length s.blocks in
    level_spent s c.args.level (n - c.loop-step.step) c.loop-step.front (omega arith) ∙ sym c.loop-step.invariant
