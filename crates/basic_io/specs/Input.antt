-- Reading an input by images. A call has one of three outcomes: it has done what its definition does; it is refused with the
-- run-time error of its definition, and has left what that leaves; or the source has failed, and all stands where the definition
-- wants another image. Which bytes are left of the source is said where it tells them; of a source that tells nothing each outcome
-- holds for some bytes. Nothing is read while a line is held, or the end.
use Rattle.std.specs.Prelude.{◌≡◌, ◌≢◌, ◌≤◌, ℕ, suc, ◌+◌, Bool, true, false, not, ◌||◌, nat_le, List, [], ◌++◌, length, Option, Some, None, IsSome, Result, Ok, Err, if◌then◌else◌}
use Rattle.std.specs.List.{list_any}
use Rattle.sim_ports.specs.Faults.{Rose}
use Rattle.sim_base.specs.declared.run_error.RunError.{RunError}
use Rattle.sim_values.specs.Images.{InputState, InputStep, answers, behind_separators, inchar, inimage, is_line_feed, is_used_up, with_frames}
use Rattle.sim_values.specs.Texts.{Frame, IsText, at_position, frame_at, with_character}
use Rattle.sim_values.specs.declared.value.TextVal.{TextVal}
use Rattle.basic_io.specs.declared.fault.IoFault.{IoFault}
use Rattle.basic_io.specs.declared.fault.IoFault.TheVariants as fault

-- The bytes that were taken from a source and not used yet, how many they can be, and whether the source has ended behind them.
pub record Held : Type 0 where
  pub bytes : List ℕ
  pub room : ℕ
  pub ended : Bool

-- the image of an input, whether the end was met, and what is held
pub record HeldInput : Type 0 where
  pub image : TextVal
  pub endfile : Bool
  pub held : Held

-- The next line is held, or the last one, or as much as shows that it is longer than the image.
abbrev pub holds_line : Held → Bool
holds_line h = h.ended || nat_le h.room (length h.bytes) || list_any is_line_feed h.bytes

-- nothing is read for another image: it is held, or there is none
abbrev pub needs_no_byte : HeldInput → Bool
needs_no_byte i = i.endfile || holds_line i.held

-- the bytes of the input that are left to the program, where these are left of the source
abbrev pub left_of : Held → List ℕ → List ℕ
left_of h source = if h.ended then h.bytes else h.bytes ++ source

abbrev pub input_state : List Frame → HeldInput → List ℕ → InputState
input_state frames i source = record { frames = frames; image = i.image; endfile = i.endfile; left = left_of i.held source }

-- the answer of a definition as that of a call
abbrev pub as_answer : {A : Type 0} → Result A RunError → Result A IoFault
as_answer (Ok a) = Ok a
as_answer (Err e) = Err (fault.Run e)

-- an input after a call on the bytes that it holds, of which those are left
abbrev pub held_after : HeldInput → InputState → HeldInput
held_after i s = record { image = s.image; endfile = s.endfile; held = record { bytes = s.left; room = i.held.room; ended = i.held.ended } }

-- What is held was enough: the call did what the definition does where no more is left.
abbrev pub DoneWithin : {A : Type 0} → (InputState → InputStep A) → List Frame → HeldInput → List Frame → HeldInput → Result A IoFault → Type 0
DoneWithin step frames i new next result =
    let done = step (input_state frames i []) in
    (result ≡ as_answer done.answer) × (new ≡ done.after.frames) × (next ≡ held_after i done.after)

-- The next character is in the image, or nothing is read for the image that it is in.
abbrev pub holds_character : HeldInput → Bool
holds_character i = not (is_used_up i.image) || needs_no_byte i

-- an input behind the next character of what it holds, or as it was where that is refused; it does not matter which texts there are
abbrev pub behind_character : HeldInput → HeldInput
behind_character i = held_after i (inchar (input_state [] i [])).after

-- What is held is enough for `lastitem`: with no byte more it comes to the end, to an item, or over a line that is held to a
-- refusal or to an image of which the same holds.
pub data HoldsItem : List Frame → HeldInput → Type 0 where
  at_end : {frames : List Frame} {i : HeldInput} → i.endfile ≡ true → HoldsItem frames i
  at_item : {frames : List Frame} {i : HeldInput} → is_used_up (behind_separators (input_state frames i [])).image ≡ false → HoldsItem frames i
  at_refusal : {frames : List Frame} {i : HeldInput} {e : RunError} → holds_line i.held ≡ true → (inimage (behind_separators (input_state frames i []))).answer ≡ Err e → HoldsItem frames i
  over_line : {frames : List Frame} {i : HeldInput} → holds_line i.held ≡ true
      → HoldsItem (inimage (behind_separators (input_state frames i []))).after.frames (held_after i (inimage (behind_separators (input_state frames i []))).after)
      → HoldsItem frames i

-- These bytes may be left of a source: those that it tells, or any where it tells none.
abbrev pub MayBeLeft : Option (List ℕ) → List ℕ → Type 0
MayBeLeft None bytes = Unit {0}
MayBeLeft (Some told) bytes = told ≡ bytes

-- Of a source before and after a call: whatever may be left of it after the call, there are bytes that may have been left before,
-- of which the claim holds. So it holds of the bytes that are told, and of some where none are. A source that told goes on to tell.
pub record Told (old new : Option (List ℕ)) (Claim : List ℕ → List ℕ → Type 0) : Type 0 where
  pub tells : IsSome old → IsSome new
  pub claim : (now : List ℕ) → MayBeLeft new now → (before : List ℕ) × (MayBeLeft old before × Claim before now)

-- the texts, the input, and what is left of its source, where that is told
pub record Reading : Type 0 where
  pub frames : List Frame
  pub input : HeldInput
  pub source : Option (List ℕ)

abbrev pub reading : List Frame → HeldInput → Option (List ℕ) → Reading
reading frames input source = record { frames = frames; input = input; source = source }

-- After a call: it answered what the definition does and left what that leaves, or the source failed, and all stands where
-- the definition wants another image.
abbrev pub Answers : {A : Type 0} → InputStep A → (InputState → Type 0) → Result A IoFault → InputState → Type 0
Answers step Wants (Ok a) now = (step.answer ≡ Ok a) × (step.after ≡ now)
Answers step Wants (Err (fault.Run e)) now = (step.answer ≡ Err e) × (step.after ≡ now)
Answers step Wants (Err fault.InputFault) now = Wants now
Answers step Wants (Err fault.WriteFault) now = ⊥

abbrev pub Performs : {A : Type 0} → (InputState → InputStep A) → (InputState → InputState → Type 0) → Reading → Reading → Result A IoFault → Type 0
Performs step Wants old new result =
    Told old.source new.source (λ before now.
    let s = input_state old.frames old.input before in Answers (step s) (Wants s) result (input_state new.frames new.input now))

-- another image is wanted at once
abbrev pub WantsImage : InputState → InputState → Type 0
WantsImage s r = (s.endfile ≡ false) × (s ≡ r)

-- the image is used up, and another one is wanted
abbrev pub WantsCharacter : InputState → InputState → Type 0
WantsCharacter s r = (is_used_up s.image ≡ true) × WantsImage s r

-- `lastitem` comes to a state in which another image is wanted.
pub data WantsItem : InputState → InputState → Type 0 where
  at_once : {s : InputState} → s.endfile ≡ false → is_used_up (behind_separators s).image ≡ true → WantsItem s (behind_separators s)
  behind : {s next r : InputState} → s.endfile ≡ false → is_used_up (behind_separators s).image ≡ true
      → inimage (behind_separators s) ≡ answers next tt → WantsItem next r → WantsItem s r

-- `intext` comes to a state in which another image is wanted for one of the next n characters, which go into a text.
pub data WantsInText : ℕ → TextVal → InputState → InputState → Type 0 where
  for_next : {n : ℕ} {t : TextVal} {s r : InputState} → WantsCharacter s r → WantsInText (suc n) t s r
  for_later : {n : ℕ} {t : TextVal} {s q r : InputState} {c : ℕ} → inchar s ≡ answers q c → WantsInText n (at_position t (t.pos + 1)) (with_frames q (with_character q.frames t c)) r
      → WantsInText (suc n) t s r

-- a text into which characters are read: it is no constant, and lies apart from the image
pub record IsTarget (frames : List Frame) (image t : TextVal) : Type 0 where
  pub text : IsText frames t
  pub some : 1 ≤ t.length
  pub variable : (frame_at frames t.text_frame).constant ≡ false
  pub apart : t.text_frame ≢ image.text_frame

-- The count of faults of the source rose exactly where the call answered a fault of the input.
abbrev pub InputCause : {A : Type 0} → ℕ → ℕ → Result A IoFault → Type 0
InputCause before now (Ok a) = now ≡ before
InputCause before now (Err (fault.Run e)) = now ≡ before
InputCause before now (Err fault.InputFault) = (before ≤ now) × Rose before now
InputCause before now (Err fault.WriteFault) = ⊥

-- a bound on the images that are still to come: each takes a byte, but for the one at the end
abbrev pub images_left : HeldInput → ℕ → ℕ
images_left i source = (if i.endfile then 0 else 1) + length i.held.bytes + source
