-- What an image is.
use Rattle.std.specs.Prelude.{◌≡◌, ◌≢◌, ℕ, ◌+◌, ◌^◌, ◌≤◌, ◌<◌, false, List, length, slice_get}
use Rattle.sim_values.specs.Texts.{Frame, frame_at}
use Rattle.sim_values.specs.declared.value.TextVal.{TextVal}

-- the whole of a frame that is no constant
pub record IsImage (frames : List Frame) (image : TextVal) : Type 0 where
  pub made : image.text_frame < length frames
  pub variable : (frame_at frames image.text_frame).constant ≡ false
  pub whole : length (frame_at frames image.text_frame).bytes ≡ image.length
  pub start : image.start ≡ 1
  pub some : 1 ≤ image.length
  pub short : image.length < 2 ^ 16
  pub position : 1 ≤ image.pos
  pub position_end : image.pos ≤ image.length + 1

-- every frame but the ones of these two numbers is the same before and after
abbrev pub SameButBoth : ℕ → ℕ → List Frame → List Frame → Type 0
SameButBoth m n old new = (k : ℕ) → k ≢ m → k ≢ n → slice_get new k ≡ slice_get old k
