-- Reading a text: what `intext` may answer.
use Rattle.std.specs.Prelude.{◌≡◌, ◌≤◌, ◌<◌, ℕ, zero, suc, Bool, true, ◌&&◌, ℤ, pos, negsuc, replicate, Result, Ok, Err}
use Rattle.sim_values.specs.declared.value.TextVal.{TextVal}
use Rattle.sim_values.specs.Texts.{new_text, with_new}
use Rattle.sim_values.specs.Images.{InputState, intext, with_frames}
use Rattle.text_objects.specs.declared.fault.TextFault.TheVariants as making
use Rattle.basic_io.specs.declared.fault.IoFault.TheVariants as fault
use Rattle.basic_io.specs.declared.fault.IntextFault.{IntextFault}
use Rattle.basic_io.specs.declared.fault.IntextFault.TheVariants.{NoText, NotRead}
use Rattle.basic_io.specs.Input.{HeldInput, InputCause, WantsInText, behind_character, holds_character}

-- What is held is enough for n characters: with no byte more they are read, or one of them is refused.
abbrev pub holds_characters : ℕ → HeldInput → Bool
holds_characters zero i = true
holds_characters (suc n) i = holds_character i && holds_characters n (behind_character i)

-- the text is made, and then another image is wanted for one of its characters
abbrev pub WantsText : ℤ → InputState → InputState → Type 0
WantsText (pos m) s r = WantsInText m (new_text s.frames m) (with_frames s (with_new s.frames (replicate m 32))) r
WantsText (negsuc m) s r = ⊥

-- With this room, of this state before and after: `intext(n)` does what its definition does, where the words of the text fit; it is
-- `Full` exactly where they do not. Where no text was made nothing has changed.
abbrev pub ReadsText : ℤ → (room : ℕ) → InputState → Result TextVal IntextFault → InputState → Type 0
ReadsText n room s (Ok t) now = ((intext s n).wanted ≤ room) × ((intext s n).step.answer ≡ Ok t) × ((intext s n).step.after ≡ now)
ReadsText n room s (Err (NotRead (fault.Run e))) now = ((intext s n).wanted ≤ room) × ((intext s n).step.answer ≡ Err e) × ((intext s n).step.after ≡ now)
ReadsText n room s (Err (NotRead fault.InputFault)) now = ((intext s n).wanted ≤ room) × WantsText n s now
ReadsText n room s (Err (NotRead fault.WriteFault)) now = ⊥
ReadsText n room s (Err (NoText (making.Run e))) now = ((intext s n).step.answer ≡ Err e) × (now ≡ s)
ReadsText n room s (Err (NoText (making.Full wanted))) now = (room < (intext s n).wanted) × (wanted ≡ (intext s n).wanted) × (now ≡ s)
ReadsText n room s (Err (NoText making.Memory)) now = now ≡ s

-- The count of faults of the source rose exactly where the call answered a fault of the input.
abbrev pub IntextCause : ℕ → ℕ → Result TextVal IntextFault → Type 0
IntextCause before now (Ok t) = now ≡ before
IntextCause before now (Err (NoText x)) = now ≡ before
IntextCause before now (Err (NotRead x)) = InputCause {A = Unit {0}} before now (Err x)
