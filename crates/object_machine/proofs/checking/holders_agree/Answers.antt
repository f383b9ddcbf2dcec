use Rattle.std.proofs.Common.{◌∙◌, sym}
use Rattle.object_machine.proofs.Fitted.{both_held, given_unheld, no_class_passed, no_references, wanted_unheld}
use Rattle.object_machine.proofs.checking.holders_agree.Goals as goal

pub returns-then-not-is_reference : goal.returns-then-not-is_reference
returns-then-not-is_reference c = record { row = λ code cells m eb ec h led led2. no_references code m c.args.parent.stamp c.args.home.stamp c.args.formal c.args.actual (sym c.is_reference.ensures ∙ c.if-not-is_reference.true) }

pub returns-then-actual-eq0 : goal.returns-then-actual-eq0
returns-then-actual-eq0 c = record { row = λ code cells m eb ec h led led2. no_class_passed code m c.args.parent.stamp c.args.home.stamp c.args.formal c.args.actual (sym c.is_reference.ensures ∙ c.if-not-is_reference.false) c.if-actual-eq0.true }

pub returns-in_default : goal.returns-in_default
returns-in_default c = record {
  row = λ code cells m eb ec h led led2.
      wanted_unheld code m c.args.parent.stamp c.args.home.stamp c.args.formal c.args.actual (sym c.is_reference.ensures ∙ c.if-not-is_reference.false) c.if-actual-eq0.false (c.in_default.ensures.row code cells m eb ec h led);
}

pub returns-in_default-holder : goal.returns-in_default-holder
returns-in_default-holder c = record {
  row = λ code cells m eb ec h led led2.
      given_unheld code m c.args.parent.stamp c.args.home.stamp c.args.formal c.args.actual (sym c.is_reference.ensures ∙ c.if-not-is_reference.false) c.if-actual-eq0.false c.in-Some.wanted (c.in-Some.ensures.row code cells m eb ec h led) (c.in_default-holder.ensures.row code cells m eb ec h led2);
}

pub returns : goal.returns
returns c = record {
  row = λ code cells m eb ec h led led2.
      both_held code m c.args.parent.stamp c.args.home.stamp c.args.formal c.args.actual (sym c.is_reference.ensures ∙ c.if-not-is_reference.false) c.if-actual-eq0.false c.in-Some.wanted c.in-Some-holder.given (c.in-Some.ensures.row code cells m eb ec h led) (c.in-Some-holder.ensures.row code cells m eb ec h led2);
}
