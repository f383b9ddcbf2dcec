use Rattle.std.proofs.Common.{◌≡◌, ℕ, ◌-◌, ◌++◌, List, length, replicate, ap, ◌∙◌}
use Rattle.sim_values.specs.Images.{OutputState}
use Rattle.basic_io.specs.Output.{field}
use Rattle.basic_io.proofs.OutputFields.{field_left, field_right}
use Rattle.basic_io.proofs.OutputPlacing.{state_after_both}
use Rattle.basic_io.proofs.out_image.OutImage.put_field.Goals as goal

pub returns-then-left-clause-frames : goal.returns-then-left-clause-frames
returns-then-left-clause-frames c =
    let digits : List ℕ = c.args.digits.now in
    let blanks : List ℕ = replicate (c.args.places - length digits) 32 in
    let is : field digits c.args.places c.args.left ≡ digits ++ blanks = field_left digits c.args.places c.args.left c.if-digits-places.false c.if-left.true in
    let before = c.in_ok-put_all.ensures in
    c.put_repeated-then-left.ensures.frames
    ∙ ap (λ (s : OutputState). s.frames) (state_after_both c.args.texts.now c.args.self.now digits blanks _ _ _ before.frames before.image is)

pub returns-then-left-clause-image : goal.returns-then-left-clause-image
returns-then-left-clause-image c =
    let digits : List ℕ = c.args.digits.now in
    let blanks : List ℕ = replicate (c.args.places - length digits) 32 in
    let is : field digits c.args.places c.args.left ≡ digits ++ blanks = field_left digits c.args.places c.args.left c.if-digits-places.false c.if-left.true in
    let before = c.in_ok-put_all.ensures in
    c.put_repeated-then-left.ensures.image
    ∙ ap (λ (s : OutputState). s.image) (state_after_both c.args.texts.now c.args.self.now digits blanks _ _ _ before.frames before.image is)

pub returns-clause-frames : goal.returns-clause-frames
returns-clause-frames c =
    let digits : List ℕ = c.args.digits.now in
    let blanks : List ℕ = replicate (c.args.places - length digits) 32 in
    let is : field digits c.args.places c.args.left ≡ blanks ++ digits = field_right digits c.args.places c.args.left c.if-digits-places.false c.if-left.false in
    let before = c.in_ok-put_repeated.ensures in
    c.put_all-2.ensures.frames
    ∙ ap (λ (s : OutputState). s.frames) (state_after_both c.args.texts.now c.args.self.now blanks digits _ _ _ before.frames before.image is)

pub returns-clause-image : goal.returns-clause-image
returns-clause-image c =
    let digits : List ℕ = c.args.digits.now in
    let blanks : List ℕ = replicate (c.args.places - length digits) 32 in
    let is : field digits c.args.places c.args.left ≡ blanks ++ digits = field_right digits c.args.places c.args.left c.if-digits-places.false c.if-left.false in
    let before = c.in_ok-put_repeated.ensures in
    c.put_all-2.ensures.image
    ∙ ap (λ (s : OutputState). s.image) (state_after_both c.args.texts.now c.args.self.now blanks digits _ _ _ before.frames before.image is)
