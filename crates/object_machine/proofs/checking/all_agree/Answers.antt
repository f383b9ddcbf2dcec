use Rattle.std.proofs.Common.{refl, sym, ◌∙◌}
use Rattle.std.specs.Prelude.{Some}
use Rattle.sim_code.specs.Formals.{holders_agree}
use Rattle.object_machine.proofs.Fitted.{each_actual_done, each_formal_done, one_disagrees, one_passes, one_unknown}
use Rattle.object_machine.proofs.checking.all_agree.Goals as goal

pub loop-at-init : goal.loop-at-init
loop-at-init c code cells m eb ec h led led2 = refl

pub returns-then-at-actuals : goal.returns-then-at-actuals
returns-then-at-actuals c = record {
  row = λ code cells m eb ec h led led2.
      let i = c.loop-at.at in
      let past = c.if-at-actuals.true in
      each_actual_done (holders_agree code m c.args.parent.stamp c.args.home.stamp) c.args.formals.now c.args.actuals.now i past ∙ sym (c.loop-at.invariant code cells m eb ec h led led2);
}

pub returns-in-Some-false : goal.returns-in-Some-false
returns-in-Some-false c = record {
  row = λ code cells m eb ec h led led2.
      let i = c.loop-at.at in
      let within = c.if-at-actuals.false in
      one_disagrees (holders_agree code m c.args.parent.stamp c.args.home.stamp) c.args.formals.now c.args.actuals.now i _ _ c.loop-at-test.true within c.in-Some-false.field-0 (c.in-Some-false.ensures.row code cells m eb ec h led led2) c.in-Some-false.field-0-test
      ∙ sym (c.loop-at.invariant code cells m eb ec h led led2);
}

pub returns-in-None : goal.returns-in-None
returns-in-None c = record {
  row = λ code cells m eb ec h led led2.
      let i = c.loop-at.at in
      let within = c.if-at-actuals.false in
      one_unknown (holders_agree code m c.args.parent.stamp c.args.home.stamp) c.args.formals.now c.args.actuals.now i _ _ c.loop-at-test.true within (c.in-None.ensures.row code cells m eb ec h led led2)
      ∙ sym (c.loop-at.invariant code cells m eb ec h led led2);
}

pub loop-at-preserved : goal.loop-at-preserved
loop-at-preserved c code cells m eb ec h led led2 =
    c.loop-at.invariant code cells m eb ec h led led2
    ∙ one_passes (holders_agree code m c.args.parent.stamp c.args.home.stamp) c.args.formals.now c.args.actuals.now c.loop-at.at _ _ c.loop-at-test.true c.if-at-actuals.false c.in-Some-true.field-0 (c.in-Some-true.ensures.row code cells m eb ec h led led2) c.in-Some-true.field-0-test

pub returns : goal.returns
returns c = record {
  row = λ code cells m eb ec h led led2.
      each_formal_done (holders_agree code m c.args.parent.stamp c.args.home.stamp) c.args.formals.now c.args.actuals.now c.loop-at.at c.loop-at-test.false ∙ sym (c.loop-at.invariant code cells m eb ec h led led2);
}
