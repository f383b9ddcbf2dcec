use Rattle.std.proofs.Common.{Some, ap, ◌∙◌}
use Rattle.object_machine.proofs.VirtualRows.{no_procedure, procedure_is}
use Rattle.object_machine.proofs.virtuals.procedure_in.Goals as goal

pub returns-in-Procedure-clause-is : goal.returns-in-Procedure-clause-is
returns-in-Procedure-clause-is c = ap (λ n. Some (c.args.slot.more, n)) c.stamp_of-stamp.ensures.is ∙ procedure_is c.args.slot c.in-Procedure.is

pub returns-in_default-clause-is : goal.returns-in_default-clause-is
returns-in_default-clause-is c = no_procedure c.args.slot c.in_default.not-Procedure
