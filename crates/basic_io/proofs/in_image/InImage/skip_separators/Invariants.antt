use Rattle.std.proofs.Common.{◌≡◌, ◌+◌, ◌-◌, ◌≤◌, drop}
use Rattle.sim_values.specs.Texts.{after_separators, at_position}
use Rattle.basic_io.proofs.in_image.InImage.skip_separators.Given as goal

abbrev pub invariant-loop-self : goal.invariant-loop-self
invariant-loop-self l =
    let image = l.self-inside.image in
    record {
      moved : image ≡ at_position l.fn.self.image image.pos;
      endfile : l.self-inside.endfile ≡ l.fn.self.endfile;
      held : l.self-inside.held ≡ l.fn.self.held;
      from : l.fn.self.image.pos ≤ image.pos;
      within : image.pos ≤ image.length + 1;
      same : after_separators (drop (image.pos - 1) l.characters) ≡ after_separators (drop (l.fn.self.image.pos - 1) l.characters);
    }

abbrev pub decreases-loop-self : goal.decreases-loop-self
decreases-loop-self l = l.self-inside.image.length + 1 - l.self-inside.image.pos
