use Rattle.std.proofs.Common.{◌≡◌, ◌+◌, true, cond, length}
use Rattle.basic_io.specs.Input.{Told, holds_line, left_of}
use Rattle.basic_io.proofs.line.LineBuffer.read_line.Given as goal

abbrev pub invariant-loop-self : goal.invariant-loop-self
invariant-loop-self g l = record {
  room : l.self.room ≡ l.initial.self.room;
  left : Told (g.I.Source.left l.initial.input) (g.I.Source.left l.input) (λ before now. left_of l.self now ≡ left_of l.initial.self before);
  gives : length l.self.bytes + g.I.Source.can_give l.input ≡ length l.initial.self.bytes + g.I.Source.can_give l.initial.input;
  faults : g.I.Source.faults l.input ≡ g.I.Source.faults l.initial.input;
  unread : holds_line l.initial.self ≡ true → (l.input ≡ l.initial.input) × (l.self ≡ l.initial.self);
}

abbrev pub decreases-loop-self : goal.decreases-loop-self
decreases-loop-self g l = g.I.Source.can_give l.input + cond l.self.ended 0 1
