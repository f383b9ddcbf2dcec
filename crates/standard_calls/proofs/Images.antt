-- Images stay images where others are written.
use Rattle.std.proofs.Common.{◌≡◌, ℕ, zero, suc, ◌<◌, inl, inr, List, [], ◌∷◌, length, sym, subst, ap, ◌∙◌, arith}
use Rattle.std.specs.Prelude.{Option, Some, None, true, slice_get, slice_index_or}
use Rattle.sim_values.specs.declared.value.TextVal.{TextVal}
use Rattle.sim_values.specs.Texts.{Frame, SameBut, at_position, frame_at}
use Rattle.basic_io.specs.Image.{IsImage, SameButBoth}
use Rattle.standard_calls.specs.Calls.{KeepsImages}
use Rattle.standard_calls.proofs.Operands.{no_some}
use Rattle.standard_calls.proofs.Slots.{same_or_not}

abbrev or_else : Frame → Option Frame → Frame
or_else a None = a
or_else a (Some b) = b

same_there : (xs ys : List Frame) (k : ℕ) (d : Frame) → slice_get ys k ≡ slice_get xs k → k < length xs → (k < length ys) × (slice_index_or ys k d ≡ slice_index_or xs k d)
same_there [] ys k d e h = absurd (omega (arith, h))
same_there (x ∷ xs) [] zero d e h = absurd (no_some x e)
same_there (x ∷ xs) [] (suc k) d e h = let r = same_there xs [] k d e (omega (arith, h)) in absurd (omega (arith, r.0))
same_there (x ∷ xs) (y ∷ ys) zero d e h = (omega arith, ap (or_else y) e)
same_there (x ∷ xs) (y ∷ ys) (suc k) d e h = let r = same_there xs ys k d e (omega (arith, h)) in (omega (arith, r.0), r.1)

moved_image : (old new : List Frame) (o : TextVal) → IsImage old o → slice_get new o.text_frame ≡ slice_get old o.text_frame → IsImage new o
moved_image old new o a e =
    let r = same_there old new o.text_frame (record { bytes = []; constant = true }) e a.made in
    let f : frame_at new o.text_frame ≡ frame_at old o.text_frame = r.1 in
    record {
      made = r.0;
      variable = ap (λ (x : Frame). x.constant) f ∙ a.variable;
      whole = ap (λ (x : Frame). length x.bytes) f ∙ a.whole;
      start = a.start;
      some = a.some;
      short = a.short;
      position = a.position;
      position_end = a.position_end;
    }

-- the frame of an image that is written has another image
same_image : (old new : List Frame) (image image2 o : TextVal) → IsImage old image → IsImage new image2 → image2 ≡ at_position image image2.pos → IsImage old o → o.text_frame ≡ image.text_frame → IsImage new o
same_image old new image image2 o a b same c is =
    let frame : o.text_frame ≡ image2.text_frame = is ∙ sym (ap (λ (t : TextVal). t.text_frame) same) in
    let long : image2.length ≡ image.length = ap (λ (t : TextVal). t.length) same in
    let f : frame_at old o.text_frame ≡ frame_at old image.text_frame = ap (frame_at old) is in
    record {
      made = subst (λ k. k < length new) (sym frame) b.made;
      variable = ap (λ k. (frame_at new k).constant) frame ∙ b.variable;
      whole = ap (λ k. length (frame_at new k).bytes) frame ∙ b.whole ∙ long ∙ sym a.whole ∙ sym (ap (λ (x : Frame). length x.bytes) f) ∙ c.whole;
      start = c.start;
      some = c.some;
      short = c.short;
      position = c.position;
      position_end = c.position_end;
    }

pub images_kept : (old new : List Frame) (image image2 : TextVal) → IsImage old image → IsImage new image2 → image2 ≡ at_position image image2.pos → SameBut image.text_frame old new → KeepsImages old new
images_kept old new image image2 a b same others = λ o c.
    elim (same_or_not o.text_frame image.text_frame) [
      | inl is ↦ same_image old new image image2 o a b same c is
      | inr ne ↦ moved_image old new o c (others o.text_frame ne)
    ]

-- a new frame behind the others, and an image that is written
pub images_kept_both : (old new : List Frame) (image image2 : TextVal) → IsImage old image → IsImage new image2 → image2 ≡ at_position image image2.pos → SameButBoth (length old) image.text_frame old new → KeepsImages old new
images_kept_both old new image image2 a b same others = λ o c.
    elim (same_or_not o.text_frame image.text_frame) [
      | inl is ↦ same_image old new image image2 o a b same c is
      | inr ne ↦ moved_image old new o c (others o.text_frame (λ e. past o c e) ne)
    ]
  where
    past : (o : TextVal) → IsImage old o → o.text_frame ≡ length old → ⊥
    past o c e = let m = c.made in omega (arith, m, e)

-- a new frame behind the others
pub images_kept_new : (old new : List Frame) → SameBut (length old) old new → KeepsImages old new
images_kept_new old new others = λ o c. moved_image old new o c (others o.text_frame (λ e. past o c e))
  where
    past : (o : TextVal) → IsImage old o → o.text_frame ≡ length old → ⊥
    past o c e = let m = c.made in omega (arith, m, e)
