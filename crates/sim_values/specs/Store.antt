-- What the meaning of programs and the machine keep in the same form: the texts, the images of sysin and sysout, the input left
-- and the output so far. And what a standard procedure makes of it.
use Rattle.std.specs.Prelude.{ℕ, zero, suc, ◌+◌, Bool, true, false, List, [], ◌∷◌, ◌++◌, length, replicate, Option, Some, None, Result, Ok, Err}
use Rattle.sim_base.specs.declared.run_error.RunError.{RunError}
use Rattle.sim_values.specs.declared.value.TextVal.{TextVal}
use Rattle.sim_values.specs.Plain.{Plain, Text}
use Rattle.sim_values.specs.Texts.{Frame, Making, TextStep, at_position}
use Rattle.sim_values.specs.Images.{InputState, InputStep, OutputState, TextReading, last_image}

pub record Store : Type 0 where
  pub frames : List Frame
  pub sysin : TextVal
  pub endfile : Bool
  pub left : List ℕ
  pub sysout : TextVal
  pub written : List ℕ

abbrev pub with_frames : Store → List Frame → Store
with_frames s frames = record s { frames = frames }

-- the part that input and output procedures work on
abbrev pub input_of : Store → InputState
input_of s = record { frames = s.frames; image = s.sysin; endfile = s.endfile; left = s.left }

abbrev pub with_input : Store → InputState → Store
with_input s i = record s { frames = i.frames; sysin = i.image; endfile = i.endfile; left = i.left }

abbrev pub output_of : Store → OutputState
output_of s = record { frames = s.frames; image = s.sysout; written = s.written }

abbrev pub with_output : Store → OutputState → Store
with_output s o = record s { frames = o.frames; sysout = o.image; written = o.written }

-- the image of sysin, 0, or of sysout, 1, as a text, and the store with it moved to a text's position
abbrev pub image_at : Store → ℕ → Option TextVal
image_at s zero = Some s.sysin
image_at s (suc zero) = Some s.sysout
image_at s (suc (suc n)) = None

abbrev pub with_image : Store → ℕ → TextVal → Store
with_image s zero t = record s { sysin = at_position s.sysin t.pos }
with_image s (suc zero) t = record s { sysout = at_position s.sysout t.pos }
with_image s (suc (suc n)) t = s

-- The store with which a run begins: the text constants of the program, each a frame of its own in their order, and then the two
-- images, of which that of sysin is used up.
abbrev pub constant_frames : List (List ℕ) → List Frame
constant_frames [] = []
constant_frames (bytes ∷ others) = record { bytes = bytes; constant = true } ∷ constant_frames others

abbrev pub image_frame : ℕ → Frame
image_frame n = record { bytes = replicate n 32; constant = false }

abbrev pub first_store : (constants : List (List ℕ)) → (in_length out_length : ℕ) → (input : List ℕ) → Store
first_store constants in_length out_length input = record {
  frames = constant_frames constants ++ (image_frame in_length ∷ image_frame out_length ∷ []);
  sysin = record { text_frame = length constants; start = 1; length = in_length; pos = in_length + 1 };
  endfile = false;
  left = input;
  sysout = record { text_frame = length constants + 1; start = 1; length = out_length; pos = 1 };
  written = [];
}

-- The end of a run, however it ends but by a fault of the outside: the image of sysout is written where its position is above 1.
abbrev pub closing_store : Store → Store
closing_store s = with_output s (last_image (output_of s))

-- ---- what a standard procedure does

-- The words that it asks for first, for a new text. Where it gets them: the store that it leaves, its text operand with another
-- position if it moves that, and its value, if it has one, or its run-time error.
pub record Effect : Type 0 where
  pub wanted : ℕ
  pub store : Store
  pub moved : Option TextVal
  pub answer : Result (Option Plain) RunError

-- an answer as that of a standard procedure, by the kind of its value
abbrev pub valued : {A : Type 0} → (A → Plain) → Result A RunError → Result (Option Plain) RunError
valued make (Ok a) = Ok (Some (make a))
valued make (Err e) = Err e

abbrev pub unvalued : Result (Unit {0}) RunError → Result (Option Plain) RunError
unvalued (Ok done) = Ok None
unvalued (Err e) = Err e

-- a value and nothing else, or an error
abbrev pub computes : {A : Type 0} → (A → Plain) → Result A RunError → Store → Effect
computes make answer s = record { wanted = 0; store = s; moved = None; answer = valued make answer }

abbrev pub gives : Plain → Store → Effect
gives value s = record { wanted = 0; store = s; moved = None; answer = Ok (Some value) }

-- a call on a text that leaves its position
abbrev pub changes : TextStep TextVal → Store → Effect
changes step s = record { wanted = 0; store = with_frames s step.frames; moved = None; answer = valued Text step.answer }

-- one that moves it
abbrev pub moves : {A : Type 0} → (Result A RunError → Result (Option Plain) RunError) → TextStep A → Store → Effect
moves show step s = record { wanted = 0; store = with_frames s step.frames; moved = Some step.text; answer = show step.answer }

-- one that makes a text
abbrev pub makes : Making → Store → Effect
makes making s = record { wanted = making.wanted; store = with_frames s making.frames; moved = None; answer = valued Text making.answer }

-- a call on the input
abbrev pub reads : {A : Type 0} → (Result A RunError → Result (Option Plain) RunError) → InputStep A → Store → Effect
reads show step s = record { wanted = 0; store = with_input s step.after; moved = None; answer = show step.answer }

abbrev pub reads_text : TextReading → Store → Effect
reads_text reading s = record (reads (valued Text) reading.step s) { wanted = reading.wanted }

-- a call on the output, which is refused before it has done anything
abbrev pub writes : Result OutputState RunError → Store → Effect
writes (Ok o) s = record { wanted = 0; store = with_output s o; moved = None; answer = Ok None }
writes (Err e) s = record { wanted = 0; store = s; moved = None; answer = Err e }
