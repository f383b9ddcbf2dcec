-- One frame changed: the others stay, and a text written over nothing stays.
use Rattle.std.proofs.Common.{◌≡◌, ◌≢◌, true, ℕ, zero, suc, ◌+◌, ◌-◌, ◌≤◌, List, [], ◌∷◌, length, take, drop, replicate, set, refl, sym, ap, ◌∙◌, arith}
use Rattle.std.proofs.lemmas.List.{set-get_or, get_or-set_other}
use Rattle.std.specs.List.{slice_get}
use Rattle.sim_values.specs.declared.value.TextVal.{TextVal}
use Rattle.sim_values.specs.Texts.{Frame, frame_at, written, replaced, padded, characters, SameBut}
use Rattle.text_objects.specs.Frames.{with_bytes}
use Rattle.text_objects.proofs.Moves.{replaced-nil, replaced-replaced}

pub same_but_set : (n : ℕ) (frames : List Frame) (x : Frame) → SameBut n frames (set frames n x)
same_but_set n [] x = λ k other. refl
same_but_set zero (f ∷ fs) x = λ k other. at_rest k other
  where
    at_rest : (k : ℕ) → k ≢ 0 → slice_get (x ∷ fs) k ≡ slice_get (f ∷ fs) k
    at_rest zero other = absurd (other refl)
    at_rest (suc k) other = refl
same_but_set (suc n) (f ∷ fs) x = λ k other. at_each (same_but_set n fs x) k other
  where
    at_each : SameBut n fs (set fs n x) → (k : ℕ) → k ≢ suc n → slice_get (f ∷ set fs n x) k ≡ slice_get (f ∷ fs) k
    at_each rest zero other = refl
    at_each rest (suc k) other = rest k (λ e. other (ap suc e))

pub written_nothing : (frames : List Frame) (n at : ℕ) → written frames n at [] ≡ frames
written_nothing frames n at =
    let old : Frame = frame_at frames n in
    ap (λ (bs : List ℕ). set frames n (record { bytes = bs; constant = old.constant })) (replaced-nil old.bytes at)
    ∙ set-get_or frames n (record { bytes = []; constant = true })

-- a text in another frame than the changed one has its characters
pub characters-set_other : (frames : List Frame) (n : ℕ) (x : Frame) (t : TextVal) → t.text_frame ≢ n → characters (set frames n x) t ≡ characters frames t
characters-set_other frames n x t other =
    ap (λ (f : Frame). take t.length (drop (t.start - 1) f.bytes)) (get_or-set_other frames n t.text_frame x (record { bytes = []; constant = true }) other)

-- characters written, and then blanks behind them
abbrev pub twice_written : Frame → ℕ → List ℕ → ℕ → ℕ → Frame
twice_written f at cs count room =
    with_bytes (with_bytes f (replaced f.bytes at cs)) (replaced (replaced f.bytes at cs) (at + count) (replicate (room - count) 32))

pub padded_write : (f : Frame) (at : ℕ) (cs : List ℕ) (count room : ℕ) → length cs ≡ count → at + count ≤ length f.bytes → twice_written f at cs count room ≡ with_bytes f (replaced f.bytes at (padded room cs))
padded_write f at cs count room is fits =
    let within : at + length cs ≤ length f.bytes = omega arith in
    ap (λ (n : ℕ). with_bytes f (replaced (replaced f.bytes at cs) (at + n) (replicate (room - n) 32))) (sym is)
    ∙ ap (λ (bs : List ℕ). with_bytes f bs) (replaced-replaced f.bytes cs (replicate (room - length cs) 32) at within)
