use Rattle.std.proofs.Common.{◌∙◌, ap, sym}
use Rattle.std.specs.Prelude.{true, false}
use Rattle.sim_code.specs.Classes.{is_class}
use Rattle.sim_code.specs.Machine.{plain}
use Rattle.frame_arena.specs.Slots.{value_of}
use Rattle.object_machine.specs.Classing.{tested, tests}
use Rattle.object_machine.proofs.classes.test.Goals as goal

pub returns-then-not-same : goal.returns-then-not-same
returns-then-not-same c = record {
  row = λ code cells m eb ec h lead.
      c.in_class.ensures.row code cells m eb ec h (c.in-Object.ensures.leads c.args.frames.now m lead)
      ∙ sym (ap (λ b. tested (tests b code m c.args.wanted) (plain (value_of c.args.slot))) c.if-not-same.true ∙ ap (λ p. tested (tests false code m c.args.wanted) p) c.in-Object.ensures.is);
}

pub returns-in_default : goal.returns-in_default
returns-in_default c = record {
  row = λ code cells m eb ec h lead.
      ap (λ k. is_class c.args.wanted k) (c.in_default.ensures.row code cells m eb h (c.in-Object.ensures.leads c.args.frames.now m lead))
      ∙ sym (ap (λ b. tested (tests b code m c.args.wanted) (plain (value_of c.args.slot))) c.if-not-same.false ∙ ap (λ p. tested (tests true code m c.args.wanted) p) c.in-Object.ensures.is);
}

pub returns-in-Some : goal.returns-in-Some
returns-in-Some c = record {
  row = λ code cells m eb ec h lead.
      ap (λ k. is_class c.args.wanted k) (c.in-Some.ensures.row code cells m eb h (c.in-Object.ensures.leads c.args.frames.now m lead))
      ∙ sym (ap (λ b. tested (tests b code m c.args.wanted) (plain (value_of c.args.slot))) c.if-not-same.false ∙ ap (λ p. tested (tests true code m c.args.wanted) p) c.in-Object.ensures.is);
}

pub returns-then-not-same-2 : goal.returns-then-not-same-2
returns-then-not-same-2 c = record {
  row = λ code cells m eb ec h lead.
      c.main_in_class.ensures.row code cells m eb ec h (c.in-Main.ensures.leads c.args.frames.now m lead)
      ∙ sym (ap (λ b. tested (tests b code m c.args.wanted) (plain (value_of c.args.slot))) c.if-not-same-2.true ∙ ap (λ p. tested (tests false code m c.args.wanted) p) c.in-Main.ensures.is);
}

pub returns-in_default-process_at : goal.returns-in_default-process_at
returns-in_default-process_at c = record {
  row = λ code cells m eb ec h lead.
      ap (λ k. is_class c.args.wanted k) (c.in_default-process_at.ensures.row code cells m eb ec h (c.in-Main.ensures.leads c.args.frames.now m lead))
      ∙ sym (ap (λ b. tested (tests b code m c.args.wanted) (plain (value_of c.args.slot))) c.if-not-same-2.false ∙ ap (λ p. tested (tests true code m c.args.wanted) p) c.in-Main.ensures.is);
}

pub returns-in-Some-process_at : goal.returns-in-Some-process_at
returns-in-Some-process_at c = record {
  row = λ code cells m eb ec h lead.
      ap (λ k. is_class c.args.wanted k) (c.in-Some-process_at.ensures.row code cells m eb ec h (c.in-Main.ensures.leads c.args.frames.now m lead))
      ∙ sym (ap (λ b. tested (tests b code m c.args.wanted) (plain (value_of c.args.slot))) c.if-not-same-2.false ∙ ap (λ p. tested (tests true code m c.args.wanted) p) c.in-Main.ensures.is);
}
