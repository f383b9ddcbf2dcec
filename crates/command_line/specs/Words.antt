-- What the words of the command line ask for.
use Rattle.std.specs.Prelude.{◌==◌, ◌||◌, ℕ, Bool, true, false, not, nat_lt, List, [], ◌∷◌, Option, Some, None, map, length, is_some, String, string_bytes, codes, if◌then◌else◌}
use Rattle.std.specs.Prelude.{option_and_then, option_map}
use Rattle.std.specs.List.{after_first, before_first, position_or_len}
use Rattle.std.specs.Option.{option_map_or, unwrap_or}
use Rattle.std.specs.Str.{bytes_eq}
use Rattle.std.specs.declared.alloc.Global.{Global}
use Rattle.sim_base.specs.declared.limits.Limits.{Limits}
use Rattle.command_line.specs.Options.{default_limits, setting_of, value_of}
use Rattle.command_line.specs.declared.options.Setting.{Setting}
use Rattle.command_line.specs.declared.options.Setting.TheVariants.{Storage, Ticks, InLength, OutLength}
use Rattle.command_line.specs.declared.words.Command.{Command}
use Rattle.command_line.specs.declared.words.Command.TheVariants.{Run, Check, Compile, Listing, Print, References}

-- the bytes of each word
abbrev pub texts : List (String Global) → List (List ℕ)
texts words = map string_bytes words

-- what is to be done with a source, by the first word
abbrev pub command_of : List ℕ → Option Command
command_of word =
    if bytes_eq word (codes "run") then Some Run
    else if bytes_eq word (codes "check") then Some Check
    else if bytes_eq word (codes "compile") then Some Compile
    else if bytes_eq word (codes "list") then Some Listing
    else if bytes_eq word (codes "print") then Some Print
    else if bytes_eq word (codes "xref") then Some References
    else None

-- ---- the words behind the command

-- what a word is, by itself
pub data Kind : Type 0 where
  -- `--`: the words behind it are no options
  EndsOptions : Kind
  -- the name of a file
  NamesFile : Kind
  -- `--name=V`
  Gives : Setting → List ℕ → Kind
  -- `--name`: the next word is its value
  Awaits : Setting → Kind
  -- none of these
  Unknown : Kind

abbrev pub is_equals : ℕ → Bool
is_equals byte = byte == 61

-- it begins with `-`, and is not `-` alone
abbrev pub is_dashed : List ℕ → Bool
is_dashed [] = false
is_dashed (byte ∷ []) = false
is_dashed (byte ∷ other ∷ more) = byte == 45

-- a word that is dashed, by what stands before its first `=` and behind it
abbrev pub dashed_kind : List ℕ → Kind
dashed_kind word =
    if nat_lt (position_or_len is_equals word) (length word)
    then option_map_or (λ setting. Gives setting (after_first is_equals word)) (setting_of (before_first is_equals word)) Unknown
    else option_map_or Awaits (setting_of word) Unknown

abbrev pub kind_of : List ℕ → Kind
kind_of word = if bytes_eq word (codes "--") then EndsOptions else if is_dashed word then dashed_kind word else NamesFile

-- an option with its value, or a file
pub data Part : Type 0 where
  Sets : Setting → ℕ → Part
  Names : List ℕ → Part

abbrev pub followed_by : Part → Option (List Part) → Option (List Part)
followed_by part rest = option_map (λ parts. part ∷ parts) rest

abbrev pub set_by : Setting → (value : List ℕ) → Option (List Part) → Option (List Part)
set_by setting value rest = option_and_then (λ number. followed_by (Sets setting number) rest) (value_of setting value)

abbrev pub parts_by : Kind → (word : List ℕ) → (rest : List (List ℕ)) → (Option Setting → Option (List Part)) → Option (List Part)
parts_by EndsOptions word rest on = Some (map Names rest)
parts_by NamesFile word rest on = followed_by (Names word) (on None)
parts_by (Gives setting value) word rest on = set_by setting value (on None)
parts_by (Awaits setting) word rest on = on (Some setting)
parts_by Unknown word rest on = None

-- The parts that words say, where an option may await its value. None where a word says nothing.
abbrev pub parts_from : Option Setting → List (List ℕ) → Option (List Part)
parts_from None [] = Some []
parts_from (Some setting) [] = None
parts_from (Some setting) (word ∷ rest) = set_by setting word (parts_from None rest)
parts_from None (word ∷ rest) = parts_by (kind_of word) word rest (λ awaited. parts_from awaited rest)

-- ---- a request

abbrev pub same_setting : Setting → Setting → Bool
same_setting Storage Storage = true
same_setting Ticks Ticks = true
same_setting InLength InLength = true
same_setting OutLength OutLength = true
same_setting _ _ = false

-- the values that an option is given
abbrev pub values : Setting → List Part → List ℕ
values setting [] = []
values setting (Sets other number ∷ rest) = if same_setting setting other then number ∷ values setting rest else values setting rest
values setting (Names file ∷ rest) = values setting rest

-- the files that are named
abbrev pub files : List Part → List (List ℕ)
files [] = []
files (Sets setting number ∷ rest) = files rest
files (Names file ∷ rest) = file ∷ files rest

-- the only one of a list, if it has any; none where it has more
abbrev pub at_most_one : {A : Type 0} → List A → Option (Option A)
at_most_one [] = Some None
at_most_one (x ∷ []) = Some (Some x)
at_most_one (x ∷ y ∷ more) = None

-- what the words give, each thing once at most
pub record Given : Type 0 where
  pub storage : Option ℕ
  pub ticks : Option ℕ
  pub in_length : Option ℕ
  pub out_length : Option ℕ
  pub file : Option (List ℕ)

abbrev pub together : Option (Option ℕ) → Option (Option ℕ) → Option (Option ℕ) → Option (Option ℕ) → Option (Option (List ℕ)) → Option Given
together storage ticks in_length out_length file =
    option_and_then (λ s. option_and_then (λ t. option_and_then (λ i. option_and_then (λ o.
    option_map (λ f. record { storage = s; ticks = t; in_length = i; out_length = o; file = f }) file) out_length) in_length) ticks) storage

abbrev pub given_by : List Part → Option Given
given_by parts =
    together (at_most_one (values Storage parts)) (at_most_one (values Ticks parts))
    (at_most_one (values InLength parts)) (at_most_one (values OutLength parts)) (at_most_one (files parts))

-- the limits that the options give, and for an option that is not there its default
abbrev pub limits_of : Given → Limits
limits_of given = record {
  storage = unwrap_or given.storage default_limits.storage;
  ticks = unwrap_or given.ticks default_limits.ticks;
  in_length = unwrap_or given.in_length default_limits.in_length;
  out_length = unwrap_or given.out_length default_limits.out_length;
}

abbrev pub has_options : Given → Bool
has_options given = is_some given.storage || (is_some given.ticks || (is_some given.in_length || is_some given.out_length))

-- whether options may stand with a command
abbrev pub takes_options : Command → Bool
takes_options Run = true
takes_options Check = false
takes_options Compile = false
takes_options Listing = false
takes_options Print = false
takes_options References = false

-- a command, its limits and its FILE
pub record Request : Type 0 where
  pub command : Command
  pub limits : Limits
  pub file : List ℕ

-- a command with what is given to it: a file for each, and options only where it takes them
abbrev pub request_with : Command → Given → Option Request
request_with command given =
    if takes_options command || not (has_options given)
    then option_map (λ file. record { command = command; limits = limits_of given; file = file }) given.file
    else None

-- What the words ask for: `run` with options in any order and a FILE, or `check`, `compile`, `list`, `print` or `xref` with a FILE. Other words are no command.
abbrev pub request_of : List (List ℕ) → Option Request
request_of [] = None
request_of (word ∷ rest) =
    option_and_then (λ command. option_and_then (λ parts. option_and_then (request_with command) (given_by parts)) (parts_from None rest)) (command_of word)
