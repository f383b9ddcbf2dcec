use Rattle.std.proofs.Common.{sym, subst, ◌∙◌}
use Rattle.object_machine.specs.Levelling.{HasLevels}
use Rattle.object_machine.proofs.LastParts.{ends_elsewhere, ends_marked, ends_past, ends_unlevelled}
use Rattle.object_machine.proofs.process_ends.ends_process.Goals as goal

pub returns-in_default-own_levels : goal.returns-in_default-own_levels
returns-in_default-own_levels c = record {
  row = λ code cells m stack blocks classes holds leads.
      let r = c.args.regs.now in
      ends_unlevelled code m r stack (subst (λ q. HasLevels q code m r.home.stamp) c.in_default-own_levels.is (c.own_levels.ensures.row code cells m blocks classes holds leads));
}

pub returns-in_default-class_of_level : goal.returns-in_default-class_of_level
returns-in_default-class_of_level c = record {
  row = λ code cells m stack blocks classes holds leads.
      let r = c.args.regs.now in
      let has = subst (λ q. HasLevels q code m r.home.stamp) c.in-Some.is (c.own_levels.ensures.row code cells m blocks classes holds leads) in
      ends_past code m r stack c.in-Behind.level c.in-Behind.is has.list has.found (sym (c.class_of_level.ensures.row code has.list classes has.is has.long) ∙ c.in_default-class_of_level.is);
}

pub returns-in-Some-class_of_level : goal.returns-in-Some-class_of_level
returns-in-Some-class_of_level c = record {
  row = λ code cells m stack blocks classes holds leads.
      let r = c.args.regs.now in
      let has = subst (λ q. HasLevels q code m r.home.stamp) c.in-Some.is (c.own_levels.ensures.row code cells m blocks classes holds leads) in
      ends_marked code m r stack c.in-Behind.level c.in-Behind.is has.list has.found c.in-Some-class_of_level.class c.is_process.result (sym (c.class_of_level.ensures.row code has.list classes has.is has.long) ∙ c.in-Some-class_of_level.is) (c.is_process.ensures.row code blocks classes);
}

pub returns-in_default : goal.returns-in_default
returns-in_default c = record { row = λ code cells m stack blocks classes holds leads. ends_elsewhere code m c.args.regs.now stack c.in_default.not-Behind }
