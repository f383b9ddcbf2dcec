use Rattle.std.proofs.Common.{◌-◌, sym, ◌∙◌, arith}
use Rattle.sim_scope.proofs.Steps.{first_here, first_nowhere, first_further, first_end}
use Rattle.sim_scope.proofs.along.first_along.Goals as goal

pub returns-in-Some : goal.returns-in-Some
returns-in-Some g c n t onward looks =
    let r = c.loop-step.invariant.0 in
    sym (c.loop-step.invariant.1 n t onward looks ∙ first_here n t c.args.most c.loop-step.step c.loop-step.block _ (omega arith) (sym (looks _ _ r c.look.ensures) ∙ c.in-Some.is))

pub returns-in-None : goal.returns-in-None
returns-in-None g c n t onward looks =
    let r = c.loop-step.invariant.0 in
    sym (c.loop-step.invariant.1 n t onward looks ∙ first_nowhere n t c.args.most c.loop-step.step c.loop-step.block (omega arith) (sym (looks _ _ r c.look.ensures) ∙ c.in_default.is) (sym (onward _ _ r c.next.ensures) ∙ c.in-None.is))

pub loop-step-preserved : goal.loop-step-preserved
loop-step-preserved g c = (
  grind arith,
  λ n t onward looks.
      let r = c.loop-step.invariant.0 in
      c.loop-step.invariant.1 n t onward looks ∙ first_further n t c.args.most c.loop-step.step c.loop-step.block c.in-Some-next.onward (omega arith) (sym (looks _ _ r c.look.ensures) ∙ c.in_default.is) (sym (onward _ _ r c.next.ensures) ∙ c.in-Some-next.is),
)

pub returns : goal.returns
returns g c n t onward looks =
    sym (c.loop-step.invariant.1 n t onward looks ∙ first_end n t (c.args.most - c.loop-step.step) c.loop-step.block (omega arith))
