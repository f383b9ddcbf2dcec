-- Writing an output by images. A call has one of three outcomes: it has done what its definition does, and the sink got what that
-- writes; it is refused with a run-time error, and nothing has changed; or the sink has failed, and all stands where the definition
-- writes an image, of whose line the sink got some first bytes.
use Rattle.std.specs.Prelude.{◌≡◌, ◌≤◌, ◌<◌, ℕ, ◌+◌, Bool, true, false, nat_lt, List, [], ◌++◌, take, Option, Result, Ok, Err, if◌then◌else◌}
use Rattle.std.specs.Io.KnownBytes.{Appends}
use Rattle.sim_ports.specs.Faults.{Rose, StopsAt}
use Rattle.sim_base.specs.declared.run_error.RunError.{RunError}
use Rattle.sim_values.specs.Images.{OutputState, is_used_up, left_justified, outchars, outimage, with_room}
use Rattle.sim_values.specs.Texts.{Frame, right_justified}
use Rattle.sim_values.specs.declared.value.TextVal.{TextVal}
use Rattle.basic_io.specs.declared.fault.IoFault.{IoFault}
use Rattle.basic_io.specs.declared.fault.IoFault.TheVariants as fault

-- an output before a call, of which the call has written nothing yet
abbrev pub output_state : List Frame → TextVal → OutputState
output_state frames image = record { frames = frames; image = image; written = [] }

-- the line that `outimage` writes
abbrev pub line_of : OutputState → List ℕ
line_of s = (outimage (output_state s.frames s.image)).written

-- the texts, the image, and what the sink got, where that is told
pub record Writing : Type 0 where
  pub frames : List Frame
  pub image : TextVal
  pub sink : Option (List ℕ)

abbrev pub writing : List Frame → TextVal → Option (List ℕ) → Writing
writing frames image sink = record { frames = frames; image = image; sink = sink }

-- a call has come to this state: the texts and the image are its, and the sink got these bytes
pub record IsAt (s : OutputState) (bytes : List ℕ) (old new : Writing) : Type 0 where
  pub frames : new.frames ≡ s.frames
  pub image : new.image ≡ s.image
  pub sink : Appends old.sink new.sink bytes

-- the sink failed in this state: it got some bytes of the line that was due
abbrev pub IsCut : OutputState → Writing → Writing → Type 0
IsCut s old new = (count : ℕ) × IsAt s (s.written ++ take count (line_of s)) old new

-- After a call: it has done what the definition does; it was refused, and nothing has changed; or the sink failed where the
-- definition writes an image.
abbrev pub Performs : {A : Type 0} → Result OutputState RunError → (OutputState → Type 0) → Writing → Writing → Result A IoFault → Type 0
Performs (Ok s) Writes old new (Ok a) = IsAt s s.written old new
Performs (Ok s) Writes old new (Err fault.WriteFault) = (r : OutputState) × Writes r × IsCut r old new
Performs (Err e) Writes old new (Err (fault.Run f)) = (e ≡ f) × (new ≡ old)
Performs s Writes old new result = ⊥

-- an integer's characters at the left or the right end of n places; n stars where they do not fit
abbrev pub field : List ℕ → ℕ → Bool → List ℕ
field digits n true = left_justified n digits
field digits n false = right_justified n digits

-- n characters do not fit in the rest of the image
abbrev pub lacks_room : OutputState → ℕ → Bool
lacks_room s n = nat_lt (s.image.length + 1) (s.image.pos + n)

-- `outtext` before its first character
abbrev pub text_begun : OutputState → TextVal → OutputState
text_begun s t = if nat_lt 1 s.image.pos then with_room s t.length else s

-- `outtext` comes to a state in which it writes the image: before its first character, or before another one
pub data WritesInText (s : OutputState) (t : TextVal) : OutputState → Type 0 where
  at_its_start : nat_lt 1 s.image.pos ≡ true → lacks_room s t.length ≡ true → WritesInText s t s
  inside : (n : ℕ) → n < t.length → is_used_up (outchars n 0 t (text_begun s t)).image ≡ true → WritesInText s t (outchars n 0 t (text_begun s t))

-- The count of faults of the sink rose exactly where the call answered a fault of the output.
abbrev pub OutputCause : {A : Type 0} → ℕ → ℕ → Result A IoFault → Type 0
OutputCause before now (Ok a) = now ≡ before
OutputCause before now (Err (fault.Run e)) = now ≡ before
OutputCause before now (Err fault.WriteFault) = (before ≤ now) × Rose before now
OutputCause before now (Err fault.InputFault) = ⊥

-- where the call answered a fault of the output nothing was written after the write that failed
abbrev pub OutputStops : {S A : Type 0} → (S → Option (List ℕ)) → (S → ℕ) → S → S → Result A IoFault → Type 0
OutputStops written faults old new (Ok a) = Unit {0}
OutputStops written faults old new (Err (fault.Run e)) = Unit {0}
OutputStops written faults old new (Err fault.InputFault) = Unit {0}
OutputStops written faults old new (Err fault.WriteFault) = StopsAt written faults old new
