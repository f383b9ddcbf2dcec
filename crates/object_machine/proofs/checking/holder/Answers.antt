use Rattle.std.proofs.Common.{◌-◌, ◌∙◌}
use Rattle.sim_code.specs.Formals.{class_level}
use Rattle.object_machine.proofs.Fitted.{holder_found, no_holder, outermost_holder}
use Rattle.object_machine.proofs.checking.holder.Goals as goal

pub returns-in_default : goal.returns-in_default
returns-in_default c = record { row = λ code cells m eb ec h led. no_holder m (class_level code c.args.class) c.args.from.stamp (c.in_default.ensures.row code eb ec) }

pub returns-then-level-eq0 : goal.returns-then-level-eq0
returns-then-level-eq0 c = record { row = λ code cells m eb ec h led. outermost_holder m (class_level code c.args.class) c.args.from.stamp c.in-Some.level (c.in-Some.ensures.row code eb ec) c.if-level-eq0.true }

pub returns-in_default-at_level : goal.returns-in_default-at_level
returns-in_default-at_level c = record {
  row = λ code cells m eb ec h led.
      c.in_default-at_level.ensures.level cells m h led ∙ holder_found m (class_level code c.args.class) c.args.from.stamp c.in-Some.level (c.in-Some.ensures.row code eb ec) c.if-level-eq0.false;
}

pub returns : goal.returns
returns c = record {
  row = λ code cells m eb ec h led.
      c.in-Some-at_level.ensures.level cells m h led ∙ holder_found m (class_level code c.args.class) c.args.from.stamp c.in-Some.level (c.in-Some.ensures.row code eb ec) c.if-level-eq0.false;
}
