use Rattle.std.proofs.Common.{ap, ◌∙◌}
use Rattle.sim_code.specs.Levels.{frame_if}
use Rattle.object_machine.specs.Keeping.{owner_at}
use Rattle.object_machine.proofs.LastParts.{ends_for_thunk}
use Rattle.object_machine.proofs.process_ends.ending_object.Goals as goal

pub returns-then-is_thunk : goal.returns-then-is_thunk
returns-then-is_thunk c = record { row = λ code cells m stack blocks classes holds leads. ends_for_thunk code m c.args.regs.now stack (c.is_thunk.ensures.yes c.if-is_thunk.true) }

pub returns-then-ends_process : goal.returns-then-ends_process
returns-then-ends_process c = record {
  row = λ code cells m stack blocks classes holds leads.
      c.ends_process.ensures.row code cells m stack blocks classes holds leads
      ∙ ap (λ b. frame_if b (owner_at c.args.regs.now)) c.if-ends_process.true ∙ c.is_thunk.ensures.no c.if-is_thunk.false;
}

pub returns : goal.returns
returns c = record {
  row = λ code cells m stack blocks classes holds leads.
      c.ends_process.ensures.row code cells m stack blocks classes holds leads ∙ ap (λ b. frame_if b (owner_at c.args.regs.now)) c.if-ends_process.false;
}
