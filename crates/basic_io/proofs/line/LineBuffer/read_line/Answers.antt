use Rattle.std.proofs.Common.{◌≡◌, false, sym, ap, ◌∙◌, rules}
use Rattle.std.proofs.lemmas.Bool.{false≢true}
use Rattle.basic_io.specs.Input.{holds_line}
use Rattle.basic_io.proofs.InputLines.{told_then}
use Rattle.basic_io.proofs.LineReads.{told_same}
use Rattle.basic_io.proofs.line.LineBuffer.read_line.Goals as goal

pub loop-self-preserved : goal.loop-self-preserved
loop-self-preserved g c =
    let kept = c.loop-self.invariant in
    let waits : holds_line c.loop-self.self ≡ false = search rules in
    record {
      room = c.in_ok-read_piece.ensures.room ∙ kept.room;
      left = told_then _ _ _ kept.left c.in_ok-read_piece.ensures.left (λ x y z p q. q ∙ p);
      gives = c.in_ok-read_piece.ensures.gives ∙ kept.gives;
      faults = c.in_ok-read_piece.ensures.steady ∙ kept.faults;
      unread = λ h. absurd (false≢true (sym waits ∙ ap holds_line (kept.unread h).1 ∙ h));
    }

pub returns-in_err-read_piece-clause-left : goal.returns-in_err-read_piece-clause-left
returns-in_err-read_piece-clause-left g c =
    let stays = told_same _ _ c.loop-self.self c.read_piece.new.self c.in_err-read_piece.ensures.err_left c.in_err-read_piece.ensures.err in
    told_then _ _ _ c.loop-self.invariant.left stays (λ x y z p q. q ∙ p)
