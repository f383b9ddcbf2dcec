use Rattle.std.proofs.Common.{◌≡◌, ◌+◌, length, replicate, ℕ, ◌-◌, List, arith, refl, take, ap, ◌∙◌}
use Rattle.sim_values.specs.declared.value.TextVal.{TextVal}
use Rattle.sim_values.specs.Texts.{at_position, characters, content_length, with_characters}
use Rattle.basic_io.specs.Output.{output_state}
use Rattle.std.proofs.KnownBytes.{Appends-trans}
use Rattle.basic_io.proofs.OutputLines.{cut_at, stripped_characters, within_content, behind_content}
use Rattle.basic_io.proofs.out_image.OutImage.outimage.Goals as goal

pub returns-in_err-write_all-clause-outcome : goal.returns-in_err-write_all-clause-outcome
returns-in_err-write_all-clause-outcome g c =
    let texts = c.args.texts.now in
    let image = c.args.self.now in
    let cs : List ℕ = characters texts image in
    let content : c.characters.result.now ≡ take (content_length cs) cs =
    stripped_characters texts image _ _ _ c.requires.image c.self.view_is c.strip-content.ensures.stripped c.characters.ensures.characters
    in
    let n : ℕ = c.in_err-write_all.field-0.0.written in
    cut_at _ (output_state texts image) _ _ _ _ c.from_residual.ensures.1 refl (
      n,
      record {
        frames = refl;
        image = refl;
        sink = within_content _ _ c.characters.result.now _ n content c.in_err-write_all.ensures.within c.in_err-write_all.ensures.part;
      },
    )

pub returns-in_err-write_all-2-clause-outcome : goal.returns-in_err-write_all-2-clause-outcome
returns-in_err-write_all-2-clause-outcome g c =
    let texts = c.args.texts.now in
    let image = c.args.self.now in
    let cs : List ℕ = characters texts image in
    let content : c.characters.result.now ≡ take (content_length cs) cs =
    stripped_characters texts image _ _ _ c.requires.image c.self.view_is c.strip-content.ensures.stripped c.characters.ensures.characters
    in
    let n : ℕ = c.in_err-write_all-2.field-0.0.written in
    cut_at _ (output_state texts image) _ _ _ _ c.from_residual-in_err-write_all-2.ensures.1 refl (
      length c.characters.result.now + n,
      record {
        frames = refl;
        image = refl;
        sink = behind_content _ _ _ c.characters.result.now _ n content c.in_ok-write_all.ensures.whole c.in_err-write_all-2.ensures.part;
      },
    )

pub returns-clause-outcome : goal.returns-clause-outcome
returns-clause-outcome g c =
    let texts = c.args.texts.now in
    let image = c.args.self.now in
    let cs : List ℕ = characters texts image in
    let content : c.characters.result.now ≡ take (content_length cs) cs =
    stripped_characters texts image _ _ _ c.requires.image c.self.view_is c.strip-content.ensures.stripped c.characters.ensures.characters
    in
    let whole : image.length - 0 ≡ image.length = omega arith in
    record {
      frames = c.fill.ensures.filled
          ∙ ap (λ (t : TextVal). with_characters texts t (replicate (t.length - 0) 32)) c.self.view_is
          ∙ ap (λ (n : ℕ). with_characters texts image (replicate n 32)) whole;
      image = c.fill.ensures.moved ∙ ap (λ (t : TextVal). at_position t 1) c.self.view_is;
      sink = rw content at (Appends-trans _ _ _ _ _ c.in_ok-write_all.ensures.whole c.in_ok-write_all-2.ensures.whole);
    }
