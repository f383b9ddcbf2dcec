use Rattle.std.proofs.Common.{◌≡◌}
use Rattle.sim_values.specs.Texts.{KeepsTexts, SameBut, at_position}
use Rattle.basic_io.specs.Image.{IsImage}
use Rattle.basic_io.specs.Input.{HoldsItem, images_left, reading}
use Rattle.basic_io.proofs.ItemRuns.{Led}
use Rattle.basic_io.proofs.in_image.InImage.lastitem.Given as goal

abbrev pub invariant-loop-self : goal.invariant-loop-self
invariant-loop-self g l =
    let left = g.I.Source.left in
    record {
      image : IsImage l.texts l.self.image;
      led : Led (reading l.initial.texts l.initial.self (left l.initial.input)) (reading l.texts l.self (left l.input));
      faults : g.I.Source.faults l.input ≡ g.I.Source.faults l.initial.input;
      unread : HoldsItem l.initial.texts l.initial.self → (l.input ≡ l.initial.input) × HoldsItem l.texts l.self;
      same : l.self.image ≡ at_position l.initial.self.image l.self.image.pos;
      keeps : KeepsTexts l.initial.texts l.texts;
      others : SameBut l.initial.self.image.text_frame l.initial.texts l.texts;
    }

abbrev pub decreases-loop-self : goal.decreases-loop-self
decreases-loop-self g l = images_left l.self (g.I.Source.can_give l.input)
