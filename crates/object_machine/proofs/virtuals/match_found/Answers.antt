use Rattle.std.proofs.Common.{◌≡◌, ◌-◌, ◌∙◌, ap}
use Rattle.std.specs.Prelude.{Some, None, slice_get}
use Rattle.sim_code.specs.Classes.{class_numbered}
use Rattle.sim_code.specs.Code.{ClassOf}
use Rattle.sim_code.specs.Virtuals.{matched}
use Rattle.object_machine.proofs.ClassRows.{numbered_at, numbered_past}
use Rattle.object_machine.proofs.Jumps.{found_at, none_at}
use Rattle.object_machine.proofs.VirtualRows.{no_class_there, no_record_there, record_matched}
use Rattle.object_machine.proofs.virtuals.match_found.Goals as goal

pub returns-in_default : goal.returns-in_default
returns-in_default c = record { row = λ code cells m eb ec h leads. no_class_there code m c.args.number c.args.object.stamp (c.in_default.ensures.row code cells m eb h leads) }

pub returns-then-class-eq0 : goal.returns-then-class-eq0
returns-then-class-eq0 c = record {
  row = λ code cells m eb ec h leads. no_record_there code m c.args.number c.args.object.stamp c.in-Some.class (c.in-Some.ensures.row code cells m eb h leads) (ap (class_numbered code) c.if-class-eq0.true);
}

pub returns-in_default-get : goal.returns-in_default-get
returns-in_default-get c = record {
  row = λ code cells m eb ec h leads.
      let at = c.in-Some.class in
      let missing = numbered_past code at c.if-class-eq0.false (ap (λ v. slice_get v (at - 1)) ec ∙ none_at c.args.classes.now (at - 1) c.in_default-get.ensures.lookup.3) in
      no_record_there code m c.args.number c.args.object.stamp at (c.in-Some.ensures.row code cells m eb h leads) missing;
}

pub returns-in-Some-matched : goal.returns-in-Some-matched
returns-in-Some-matched c = record {
  row = λ code cells m eb ec h leads.
      let at = c.in-Some.class in
      let x = c.in-Some-get.record.now in
      let there : class_numbered code at ≡ Some x = numbered_at code at x c.if-class-eq0.false (ap (λ v. slice_get v (at - 1)) ec ∙ found_at c.args.classes.now (at - 1) x c.in-Some-get.ensures.lookup.3.0 c.in-Some-get.ensures.lookup.1) in
      record_matched code m c.args.number c.args.object.stamp at x (Some c.in-Some-matched.block) (c.in-Some.ensures.row code cells m eb h leads) there
      (c.in-Some-matched.ensures ∙ ap (matched c.args.number) (c.deref.ensures.value ∙ ap {A = ClassOf} (λ r. r.matches) c.record.view_is));
}

pub returns-in-None : goal.returns-in-None
returns-in-None c = record {
  row = λ code cells m eb ec h leads.
      let at = c.in-Some.class in
      let x = c.in-Some-get.record.now in
      let there : class_numbered code at ≡ Some x = numbered_at code at x c.if-class-eq0.false (ap (λ v. slice_get v (at - 1)) ec ∙ found_at c.args.classes.now (at - 1) x c.in-Some-get.ensures.lookup.3.0 c.in-Some-get.ensures.lookup.1) in
      record_matched code m c.args.number c.args.object.stamp at x None (c.in-Some.ensures.row code cells m eb h leads) there
      (c.in-None.ensures ∙ ap (matched c.args.number) (c.deref.ensures.value ∙ ap {A = ClassOf} (λ r. r.matches) c.record.view_is));
}
