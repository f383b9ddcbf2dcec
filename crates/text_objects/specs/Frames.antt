-- A frame with other bytes, and the field of an integer.
use Rattle.std.specs.Prelude.{◌≡◌, ℕ, ◌<◌, ℤ, List, length}
use Rattle.std.specs.Fmt.{signed_decimal}
use Rattle.sim_values.specs.Texts.{Frame, frame_at, right_justified}

abbrev pub with_bytes : Frame → List ℕ → Frame
with_bytes frame bytes = record { bytes = bytes; constant = frame.constant }

-- n characters with an integer at their right end
unfoldable pub field : ℕ → ℤ → List ℕ
field n i = right_justified n (signed_decimal i)

-- every frame is still there, as long as it was, and a constant exactly where it was one
pub record KeepsFrame (old new : List Frame) (n : ℕ) : Type 0 where
  pub made : n < length new
  pub constant : (frame_at new n).constant ≡ (frame_at old n).constant
  pub long : length (frame_at new n).bytes ≡ length (frame_at old n).bytes

abbrev pub KeepsFrames : List Frame → List Frame → Type 0
KeepsFrames old new = (n : ℕ) → n < length old → KeepsFrame old new n
