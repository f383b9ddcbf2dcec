use Rattle.std.proofs.Common.{◌∙◌, ap, sym}
use Rattle.sim_code.specs.Classes.{may_stand}
use Rattle.object_machine.proofs.classes.may_stand.Goals as goal

pub returns-in-Main : goal.returns-in-Main
returns-in-Main c = record {
  row = λ code cells m eb ec h lead. c.main_in_class.ensures.row code cells m eb ec h (c.in-Main.ensures.leads c.args.frames.now m lead) ∙ sym (ap (λ p. may_stand code m c.args.wanted p) c.in-Main.ensures.is);
}

pub returns-in-Object : goal.returns-in-Object
returns-in-Object c = record {
  row = λ code cells m eb ec h lead. c.in_class.ensures.row code cells m eb ec h (c.in-Object.ensures.leads c.args.frames.now m lead) ∙ sym (ap (λ p. may_stand code m c.args.wanted p) c.in-Object.ensures.is);
}
