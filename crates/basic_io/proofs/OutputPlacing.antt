-- Characters placed one after another in an image.
use Rattle.std.proofs.Common.{◌≡◌, ℕ, ◌+◌, ◌≤◌, List, Option, [], ◌∷◌, ◌++◌, refl, sym, ap, subst, ◌∙◌, arith}
use Rattle.std.specs.Io.KnownBytes.{Appends}
use Rattle.sim_values.specs.declared.value.TextVal.{TextVal}
use Rattle.sim_values.specs.Images.{OutputState, all_placed, placed}
use Rattle.sim_values.specs.Texts.{Frame, KeepsTexts, SameBut, at_position, with_character}
use Rattle.basic_io.specs.Image.{IsImage}
use Rattle.basic_io.specs.Output.{IsAt, Writing, output_state}
use Rattle.basic_io.proofs.ImageFrames.{IsImage-put}

pub all_placed-append : (s : OutputState) (xs ys : List ℕ) → all_placed s (xs ++ ys) ≡ all_placed (all_placed s xs) ys
all_placed-append s [] ys = refl
all_placed-append s (x ∷ xs) ys = all_placed-append (placed s x) xs ys

-- these characters, so many, were placed
pub record Placed (old : List Frame) (image : TextVal) (cs : List ℕ) (count : ℕ) (frames : List Frame) (now : TextVal) : Type 0 where
  pub bytes : frames ≡ (all_placed (output_state old image) cs).frames
  pub text : now ≡ (all_placed (output_state old image) cs).image
  pub moved : now ≡ at_position image (image.pos + count)
  pub valid : IsImage frames now
  pub keeps : KeepsTexts old frames
  pub others : SameBut image.text_frame old frames

-- and then one more
pub placed_one_more : (old : List Frame) (image : TextVal) (cs more : List ℕ) (count c : ℕ) (mid : List Frame) (there : TextVal) (frames : List Frame) (now : TextVal)
    → Placed old image cs count mid there → image.pos + count ≤ image.length → more ≡ cs ++ c ∷ []
    → frames ≡ with_character mid there c → now ≡ at_position there (there.pos + 1) → KeepsTexts mid frames → SameBut there.text_frame mid frames
    → Placed old image more (count + 1) frames now
placed_one_more old image cs more count c mid there frames now so room is wrote moved keeps others =
    let before : OutputState = all_placed (output_state old image) cs in
    let after : placed before c ≡ all_placed (output_state old image) more = sym (ap (all_placed (output_state old image)) is ∙ all_placed-append (output_state old image) cs (c ∷ [])) in
    let next : there.pos + 1 ≡ image.pos + (count + 1) = omega (arith, ap (λ (t : TextVal). t.pos) so.moved) in
    record {
      bytes = wrote ∙ ap (λ (fs : List Frame). with_character fs there c) so.bytes ∙ ap (λ (t : TextVal). with_character before.frames t c) so.text ∙ ap (λ (s : OutputState). s.frames) after;
      text = moved ∙ ap (λ (t : TextVal). at_position t (t.pos + 1)) so.text ∙ ap (λ (s : OutputState). s.image) after;
      moved = moved ∙ ap (λ (t : TextVal). at_position t (there.pos + 1)) so.moved ∙ ap (at_position image) next;
      valid = IsImage-put mid frames there now c so.valid (omega (arith, ap (λ (t : TextVal). t.pos) so.moved, ap (λ (t : TextVal). t.length) so.moved)) wrote moved;
      keeps = λ t h. keeps t (so.keeps t h);
      others = λ k other. others k (λ e. other (e ∙ ap (λ (t : TextVal). t.text_frame) so.moved)) ∙ so.others k other;
    }

-- placing writes nothing
pub written_kept : (s : OutputState) (cs : List ℕ) → (all_placed s cs).written ≡ s.written
written_kept s [] = refl
written_kept s (c ∷ cs) = written_kept (placed s c) cs

-- the state in which these characters were placed
pub state_after : (old : List Frame) (image : TextVal) (cs : List ℕ) (frames : List Frame) (now : TextVal)
    → frames ≡ (all_placed (output_state old image) cs).frames → now ≡ (all_placed (output_state old image) cs).image → output_state frames now ≡ all_placed (output_state old image) cs
state_after old image cs frames now bytes text =
    let after : OutputState = all_placed (output_state old image) cs in
    ap (λ (fs : List Frame). output_state fs now) bytes
    ∙ ap (output_state after.frames) text
    ∙ ap (λ (bs : List ℕ). record { frames = after.frames; image = after.image; written = bs }) (sym (written_kept (output_state old image) cs))

-- the state in which they were placed and then others
pub state_after_both : (old : List Frame) (image : TextVal) (xs ys all : List ℕ) (mid : List Frame) (there : TextVal)
    → mid ≡ (all_placed (output_state old image) xs).frames → there ≡ (all_placed (output_state old image) xs).image → all ≡ xs ++ ys → all_placed (output_state mid there) ys ≡ all_placed (output_state old image) all
state_after_both old image xs ys all mid there bytes text is =
    ap (λ (s : OutputState). all_placed s ys) (state_after old image xs mid there bytes text)
    ∙ sym (ap (all_placed (output_state old image)) is ∙ all_placed-append (output_state old image) xs ys)

-- placing does the same to the texts and the image, whatever was written before
pub placed_apart : (s : OutputState) (cs : List ℕ) → all_placed s cs ≡ record { frames = (all_placed (output_state s.frames s.image) cs).frames; image = (all_placed (output_state s.frames s.image) cs).image; written = s.written }
placed_apart s [] = refl
placed_apart s (c ∷ cs) = placed_apart (placed s c) cs

-- a call came to a state, and placed these characters then
pub placed_there : (s : OutputState) (cs : List ℕ) (old mid new : Writing) → IsAt s s.written old mid
    → new.frames ≡ (all_placed (output_state mid.frames mid.image) cs).frames → new.image ≡ (all_placed (output_state mid.frames mid.image) cs).image → new.sink ≡ mid.sink
    → IsAt (all_placed s cs) (all_placed s cs).written old new
placed_there s cs old mid new there frames image sink =
    let from : all_placed (output_state mid.frames mid.image) cs ≡ all_placed (output_state s.frames s.image) cs =
    ap (λ (fs : List Frame). all_placed (output_state fs mid.image) cs) there.frames ∙ ap (λ (t : TextVal). all_placed (output_state s.frames t) cs) there.image
    in
    let apart = placed_apart s cs in
    record {
      frames = frames ∙ ap (λ (r : OutputState). r.frames) from ∙ sym (ap (λ (r : OutputState). r.frames) apart);
      image = image ∙ ap (λ (r : OutputState). r.image) from ∙ sym (ap (λ (r : OutputState). r.image) apart);
      sink = subst (λ (bytes : List ℕ). Appends old.sink new.sink bytes) (sym (written_kept s cs)) (subst (λ (bytes : Option (List ℕ)). Appends old.sink bytes s.written) (sym sink) there.sink);
    }
