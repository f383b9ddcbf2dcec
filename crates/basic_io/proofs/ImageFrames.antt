-- Characters written into an image.
use Rattle.std.proofs.Common.{◌≡◌, ℕ, ◌+◌, ◌-◌, ◌<◌, ◌≤◌, true, List, [], ◌∷◌, ◌++◌, length, take, drop, replicate, sym, ap, ◌∙◌, subst, arith}
use Rattle.std.proofs.lemmas.List.{length-append, length-replicate, length-take, length-drop, length-set, get_or-set_same}
use Rattle.sim_values.specs.declared.value.TextVal.{TextVal}
use Rattle.sim_values.specs.Texts.{Frame, at_position, frame_at, padded, replaced, with_character, with_characters, written}
use Rattle.basic_io.specs.Image.{IsImage}

length-replaced : (b xs : List ℕ) (at : ℕ) → at + length xs ≤ length b → length (replaced b at xs) ≡ length b
length-replaced b xs at room =
    length-append (take at b) (xs ++ drop (at + length xs) b)
    ∙ ap (λ (k : ℕ). length (take at b) + k) (length-append xs (drop (at + length xs) b))
    ∙ omega (arith, length-take at b, length-drop (at + length xs) b)

frame_written : (frames : List Frame) (n at : ℕ) (xs : List ℕ) → n < length frames → frame_at (written frames n at xs) n ≡ record { bytes = replaced (frame_at frames n).bytes at xs; constant = (frame_at frames n).constant }
frame_written frames n at xs made = get_or-set_same frames n _ (record { bytes = []; constant = true }) made

-- characters that fit are written into an image, which stays one at every position in it
pub IsImage-written : (frames : List Frame) (image : TextVal) (at : ℕ) (xs : List ℕ) (p : ℕ) → IsImage frames image → at + length xs ≤ image.length → 1 ≤ p → p ≤ image.length + 1 → IsImage (written frames image.text_frame at xs) (at_position image p)
IsImage-written frames image at xs p h room above within =
    let here = frame_written frames image.text_frame at xs h.made in
    let old : Frame = frame_at frames image.text_frame in
    record {
      made = omega (arith, h.made, length-set frames image.text_frame (record { bytes = replaced old.bytes at xs; constant = old.constant }));
      variable = ap (λ (f : Frame). f.constant) here ∙ h.variable;
      whole = ap (λ (f : Frame). length f.bytes) here ∙ length-replaced old.bytes xs at (omega (arith, h.whole)) ∙ h.whole;
      start = h.start;
      some = h.some;
      short = h.short;
      position = above;
      position_end = within;
    }

pub length-padded : (n : ℕ) (cs : List ℕ) → length cs ≤ n → length (padded n cs) ≡ n
length-padded n cs fits = length-append cs (replicate (n - length cs) 32) ∙ omega (arith, length-replicate {A = ℕ} (n - length cs) 32)

-- an image that is filled with characters
pub image_filled : (frames new : List Frame) (image moved : TextVal) (cs : List ℕ) → IsImage frames image → length cs ≤ image.length → new ≡ with_characters frames image (padded image.length cs) → moved ≡ at_position image 1
    → IsImage new moved
image_filled frames new image moved cs h fits wrote is =
    let count : length (padded image.length cs) ≡ image.length = length-padded image.length cs fits in
    let filled : IsImage (with_characters frames image (padded image.length cs)) (at_position image 1) =
    IsImage-written frames image (image.start - 1) (padded image.length cs) 1 h (omega (arith, h.start, count)) (omega arith) (omega (arith, h.some))
    in
    subst (λ (fs : List Frame). IsImage fs moved) (sym wrote) (subst (IsImage (with_characters frames image (padded image.length cs))) (sym is) filled)

pub IsImage-put : (frames new : List Frame) (image moved : TextVal) (c : ℕ) → IsImage frames image → image.pos ≤ image.length → new ≡ with_character frames image c → moved ≡ at_position image (image.pos + 1) → IsImage new moved
IsImage-put frames new image moved c h room wrote is =
    let at : ℕ = image.start + image.pos - 2 in
    let put : IsImage (with_character frames image c) (at_position image (image.pos + 1)) =
    IsImage-written frames image at (c ∷ []) (image.pos + 1) h (omega (arith, h.start, h.position)) (omega arith) (omega arith)
    in
    subst (λ (fs : List Frame). IsImage fs moved) (sym wrote) (subst (IsImage (with_character frames image c)) (sym is) put)
