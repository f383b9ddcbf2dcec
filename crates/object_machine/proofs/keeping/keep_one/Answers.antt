use Rattle.object_machine.proofs.KeptFrames.{frame_kept, thunk_passed}
use Rattle.object_machine.proofs.keeping.keep_one.Goals as goal

pub returns-in-Some-clause-row : goal.returns-in-Some-clause-row
returns-in-Some-clause-row c cells m holds = thunk_passed c.args.frames.now cells m c.args.regs c.in-Some.field-0 c.in-Some.is holds

pub returns-in-None-clause-row : goal.returns-in-None-clause-row
returns-in-None-clause-row c cells m holds = frame_kept c.keep_frame.result c.args.frames.now c.keep_frame.new.frames cells m c.args.regs c.in-None.is (c.keep_frame.ensures.row cells m holds)
