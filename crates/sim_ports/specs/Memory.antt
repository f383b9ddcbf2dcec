-- What files, an input and an output in memory hold.
use Rattle.std.specs.Prelude.{ℕ, List, [], ◌∷◌, Option, Some, None, Bool, drop, find, String, string_bytes, Vec, if◌then◌else◌}
use Rattle.std.specs.Str.{bytes_eq}
use Rattle.std.specs.Option.{option_map}
use Rattle.std.specs.declared.alloc.Global.{Global}
use Rattle.sim_ports.specs.Calls.{CallLog, fresh_calls}
use Rattle.sim_ports.specs.Named.{Selected}

-- files: each name with its bytes, the selected name, the bytes left of the open file, and the calls
pub record StoredFiles : Type 0 where
  pub files : List (List ℕ × List ℕ)
  pub selected : Option Selected
  pub left : Option (List ℕ)
  pub calls : CallLog

-- an input: the bytes left, and the calls
pub record StoredInput : Type 0 where
  pub left : List ℕ
  pub calls : CallLog

-- an output: the bytes written, how many more it takes, and the calls
pub record StoredOutput : Type 0 where
  pub written : List ℕ
  pub room : ℕ
  pub calls : CallLog

-- files of which none was selected
abbrev pub fresh_files : List (List ℕ × List ℕ) → List ℕ → StoredFiles
fresh_files files failing = record { files = files; selected = None; left = None; calls = fresh_calls failing }

-- an input of which nothing was read
abbrev pub fresh_input : List ℕ → List ℕ → StoredInput
fresh_input bytes failing = record { left = bytes; calls = fresh_calls failing }

-- an output to which nothing was written
abbrev pub fresh_output : List ℕ → ℕ → StoredOutput
fresh_output failing room = record { written = []; room = room; calls = fresh_calls failing }

-- a file's name and its bytes
abbrev pub plain : String Global × Vec ℕ Global → List ℕ × List ℕ
plain file = (string_bytes file.0, file.1.items)

-- the bytes of the first file of this name
abbrev pub bytes_named : List (List ℕ × List ℕ) → List ℕ → Option (List ℕ)
bytes_named files name = option_map (λ file. file.1) (find (λ file. bytes_eq file.0 name) files)

-- the same of files as they are kept
unfoldable pub kept_named : List (String Global × Vec ℕ Global) → List ℕ → Option (List ℕ)
kept_named files name = option_map (λ file. file.1.items) (find (λ file. bytes_eq (string_bytes file.0) name) files)

-- what is left of the selected file behind a place, where it is open
abbrev pub left_of : List (List ℕ × List ℕ) → Option (String Global) → Bool → ℕ → Option (List ℕ)
left_of files None is_open place = None
left_of files (Some name) is_open place = if is_open then option_map (drop place) (bytes_named files (string_bytes name)) else None

-- the bytes that an output takes for sure: none where some of its calls fail
abbrev pub sure_room : List ℕ → ℕ → ℕ
sure_room [] room = room
sure_room (number ∷ others) room = 0
