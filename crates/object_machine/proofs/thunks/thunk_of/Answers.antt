use Rattle.std.proofs.Common.{Some, ap, ◌∙◌}
use Rattle.object_machine.proofs.ThunkRows.{no_thunk, thunk_is}
use Rattle.object_machine.proofs.thunks.thunk_of.Goals as goal

pub returns-in-Thunk-clause-is : goal.returns-in-Thunk-clause-is
returns-in-Thunk-clause-is c = ap (λ n. Some (c.args.slot.more, n)) c.stamp_of-stamp.ensures.is ∙ thunk_is c.args.slot c.in-Thunk.is

pub returns-in_default-clause-is : goal.returns-in_default-clause-is
returns-in_default-clause-is c = no_thunk c.args.slot c.in_default.not-Thunk
