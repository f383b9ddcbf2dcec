use Rattle.std.proofs.Common.{refl}
use Rattle.frame_arena.specs.Slots.{value_of}
use Rattle.object_machine.proofs.Called.{live_there, names_frame, names_gone, names_none, not_true}
use Rattle.object_machine.proofs.calling.parent_in.Goals as goal

pub returns-in_default : goal.returns-in_default
returns-in_default c = record { row = λ cells m h led o go. names_none m (value_of c.args.slot) o go c.in_default.ensures.number }

pub returns-in_default-find : goal.returns-in_default-find
returns-in_default-find c = record {
  row = λ cells m h led o go.
      names_gone m (value_of c.args.slot) o go c.in-Some.frame.stamp c.in-Some.ensures.number (not_true _ (c.in_default-find.ensures.gone m (c.in-Some.ensures.leads c.args.frames.now m led) refl));
}

pub returns : goal.returns
returns c = record {
  row = λ cells m h led. (
    c.in-Some.ensures.leads c.args.frames.now m led,
    λ o go. names_frame m (value_of c.args.slot) o go c.in-Some.frame.stamp c.in-Some.ensures.number (live_there c.args.frames.now cells m c.in-Some-find._place c.in-Some.frame.stamp h c.in-Some-find.ensures.there),
  );
}
