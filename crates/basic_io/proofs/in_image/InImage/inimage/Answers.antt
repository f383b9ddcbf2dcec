use Rattle.std.proofs.Common.{◌≡◌, ◌≢◌, ◌∙◌, ◌+◌, [], false, ap, length, arith, rules, refl}
use Rattle.sim_values.specs.Texts.{padded, with_characters}
use Rattle.basic_io.specs.Input.{HeldInput}
use Rattle.basic_io.proofs.InputLines.{performs_line, performs_refusal}
use Rattle.basic_io.proofs.in_image.InImage.inimage.Goals as goal

pub returns-then-line-self-clause-outcome : goal.returns-then-line-self-clause-outcome
returns-then-line-self-clause-outcome g c =
    let going : c.self.inside.endfile ≡ false = c.if-self.false in
    let some : c.read_line.new.self.bytes ≢ [] = search rules in
    let old : HeldInput = record { image = c.self.inside.image; endfile = c.self.inside.endfile; held = c.self.inside.held } in
    let now : HeldInput = record { image = c.self.inside.image; endfile = c.self.inside.endfile; held = c.read_line.new.self } in
    rw (← c.self.view_is) (performs_refusal c.args.texts.now old now _ _ c.in_ok-read_line.ensures.left going going some (omega (arith, ap length c.line-line.ensures)) refl)

pub returns-clause-outcome : goal.returns-clause-outcome
returns-clause-outcome g c =
    let going : c.self.inside.endfile ≡ false = c.if-self.false in
    let some : c.read_line.new.self.bytes ≢ [] = search rules in
    let old : HeldInput = record { image = c.self.inside.image; endfile = c.self.inside.endfile; held = c.self.inside.held } in
    let now : HeldInput = record { image = c.fill-2.new.image; endfile = c.self.inside.endfile; held = c.drop_line.new.self } in
    let room : c.read_line.new.self.room ≡ c.self.inside.image.length + 1 = search rules in
    let filled = c.fill-2.ensures.filled ∙ ap (λ l. with_characters c.args.texts.now c.self.inside.image (padded c.self.inside.image.length l)) c.line-line.ensures in
    rw (← c.self.view_is) (performs_line c.args.texts.now c.fill-2.new.texts old now c.read_line.new.self _ _ c.in_ok-read_line.ensures.left going going c.in_ok-read_line.ensures.held some (omega (arith, ap length c.line-line.ensures)) room filled c.fill-2.ensures.moved c.drop_line.ensures.bytes c.drop_line.ensures.ended)
