use Rattle.std.proofs.Common.{◌-◌, sym, ◌∙◌, arith}
use Rattle.sim_scope.proofs.Steps.{some_here, some_nowhere, some_further, some_end}
use Rattle.sim_scope.proofs.along.some_along.Goals as goal

pub returns-then-test : goal.returns-then-test
returns-then-test g c n t onward tests =
    let r = c.loop-step.invariant.0 in
    sym (c.loop-step.invariant.1 n t onward tests ∙ some_here n t c.args.most c.loop-step.step c.loop-step.block (omega arith) (sym (tests _ _ r c.test.ensures) ∙ c.if-test.true))

pub returns-in-None : goal.returns-in-None
returns-in-None g c n t onward tests =
    let r = c.loop-step.invariant.0 in
    sym (c.loop-step.invariant.1 n t onward tests ∙ some_nowhere n t c.args.most c.loop-step.step c.loop-step.block (omega arith) (sym (tests _ _ r c.test.ensures) ∙ c.if-test.false) (sym (onward _ _ r c.next.ensures) ∙ c.in-None.is))

pub loop-step-preserved : goal.loop-step-preserved
loop-step-preserved g c = (
  grind arith,
  λ n t onward tests.
      let r = c.loop-step.invariant.0 in
      c.loop-step.invariant.1 n t onward tests ∙ some_further n t c.args.most c.loop-step.step c.loop-step.block c.in-Some.onward (omega arith) (sym (tests _ _ r c.test.ensures) ∙ c.if-test.false) (sym (onward _ _ r c.next.ensures) ∙ c.in-Some.is),
)

pub returns : goal.returns
returns g c n t onward tests =
    sym (c.loop-step.invariant.1 n t onward tests ∙ some_end n t (c.args.most - c.loop-step.step) c.loop-step.block (omega arith))
