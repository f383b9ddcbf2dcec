use Rattle.std.proofs.Common.{rules, to_z, of_z, w64, ◌≡◌, ◌∙◌, ap, sym}
use Rattle.sim_code.specs.Classes.{class_named}
use Rattle.object_machine.specs.Arrayed.{is_unqualified}
use Rattle.object_machine.proofs.ClassRows.{plainly_qualified, some_qualified}
use Rattle.object_machine.proofs.Having.{having_none, having_some}
use Rattle.object_machine.proofs.classes.qualify.Goals as goal

pub returns-then-unqualified : goal.returns-then-unqualified
returns-then-unqualified c = record {
  row = λ code e o go.
      let en : to_z w64 (of_z w64 c.args.operand) ≡ c.args.operand = search rules in
      plainly_qualified code c.args.operand o go (ap is_unqualified (sym en) ∙ sym c.unqualified.ensures ∙ c.if-unqualified.true);
}

pub returns-in_default : goal.returns-in_default
returns-in_default c = record {
  row = λ code e o go.
      let en : to_z w64 (of_z w64 c.args.operand) ≡ c.args.operand = search rules in
      some_qualified code c.args.operand o go (ap is_unqualified (sym en) ∙ sym c.unqualified.ensures ∙ c.if-unqualified.false) ∙ having_none (class_named code c.args.operand) o go (c.in_default.ensures.row code e ∙ ap (class_named code) en);
}

pub returns : goal.returns
returns c = record {
  row = λ code e o go.
      let en : to_z w64 (of_z w64 c.args.operand) ≡ c.args.operand = search rules in
      let n : c.in-Some.number ≡ c.in-Ok.short = search rules in
      some_qualified code c.args.operand o go (ap is_unqualified (sym en) ∙ sym c.unqualified.ensures ∙ c.if-unqualified.false) ∙ having_some (class_named code c.args.operand) c.in-Some.number o go (c.in-Some.ensures.row code e ∙ ap (class_named code) en) ∙ ap go n;
}
