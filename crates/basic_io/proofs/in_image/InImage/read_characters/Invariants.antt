use Rattle.std.proofs.Common.{◌≡◌, ◌+◌, ◌-◌, true}
use Rattle.sim_values.specs.Texts.{KeepsTexts, at_position}
use Rattle.basic_io.specs.Image.{IsImage, SameButBoth}
use Rattle.basic_io.specs.Input.{IsTarget, reading}
use Rattle.basic_io.specs.Intext.{holds_characters}
use Rattle.basic_io.proofs.TextReads.{Led}
use Rattle.basic_io.proofs.in_image.InImage.read_characters.Given as goal

abbrev pub invariant-loop : goal.invariant-loop
invariant-loop g l =
    let left = g.I.Source.left in
    record {
      image : IsImage l.texts l.self.image;
      target : IsTarget l.texts l.self.image l.rest;
      rest : l.rest ≡ at_position l.fn.text (l.counter + 1);
      led : Led l.fn.text.length l.fn.text (l.fn.text.length - l.counter) l.rest (reading l.fn.texts l.fn.self (left l.fn.input)) (reading l.texts l.self (left l.input));
      faults : g.I.Source.faults l.input ≡ g.I.Source.faults l.fn.input;
      unread : holds_characters l.fn.text.length l.fn.self ≡ true → (l.input ≡ l.fn.input) × (holds_characters (l.fn.text.length - l.counter) l.self ≡ true);
      same : l.self.image ≡ at_position l.fn.self.image l.self.image.pos;
      keeps : KeepsTexts l.fn.texts l.texts;
      others : SameButBoth l.fn.text.text_frame l.fn.self.image.text_frame l.fn.texts l.texts;
    }
