use Rattle.std.proofs.Common.{◌∙◌, sym}
use Rattle.sim_code.specs.Machine.{plain}
use Rattle.frame_arena.specs.Slots.{value_of}
use Rattle.object_machine.proofs.ClassRows.{some_admits}
use Rattle.object_machine.proofs.objects.admit.Goals as goal

pub returns : goal.returns
returns c = record {
  row = λ code cells m eb ec h lead. c.may_stand.ensures.row code cells m eb ec h lead ∙ sym (some_admits code m c.args.class (plain (value_of c.args.value)) c.if-class-eq0.false);
}
