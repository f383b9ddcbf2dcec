-- What words give, read one by one.
use Rattle.std.specs.Prelude.{ℕ, List, [], ◌∷◌, map, Option, Some, None, is_some, if◌then◌else◌}
use Rattle.std.specs.Prelude.{option_and_then, option_map}
use Rattle.command_line.specs.Options.{value_of}
use Rattle.command_line.specs.Words as words
use Rattle.command_line.specs.Words.{Given, Names, Part, Sets, parts_from}
use Rattle.command_line.specs.declared.given.Given.{Given as Held}
use Rattle.command_line.specs.declared.given.Kind.{Kind}
use Rattle.command_line.specs.declared.given.Kind.TheVariants.{EndsOptions, NamesFile, Gives, Awaits, Unknown}
use Rattle.command_line.specs.Executed as executed
use Rattle.command_line.specs.declared.executed.CodeRequest.{CodeRequest}
use Rattle.command_line.specs.declared.words.Request.{Request}
use Rattle.command_line.specs.declared.options.Setting.{Setting}
use Rattle.command_line.specs.declared.options.Setting.TheVariants.{Storage, Ticks, InLength, OutLength}

-- what is held is what was given so far
abbrev pub held : Held → Given
held given = record {
  storage = given.storage;
  ticks = given.ticks;
  in_length = given.in_length;
  out_length = given.out_length;
  file = option_map (λ file. file.now) given.file;
}

-- nothing was given yet
abbrev pub nothing : Given
nothing = record { storage = None; ticks = None; in_length = None; out_length = None; file = None }

-- with one part more, where it was not given before
abbrev pub with_part : Given → Part → Option Given
with_part given (Sets Storage number) = if is_some given.storage then None else Some (record given { storage = Some number })
with_part given (Sets Ticks number) = if is_some given.ticks then None else Some (record given { ticks = Some number })
with_part given (Sets InLength number) = if is_some given.in_length then None else Some (record given { in_length = Some number })
with_part given (Sets OutLength number) = if is_some given.out_length then None else Some (record given { out_length = Some number })
with_part given (Names file) = if is_some given.file then None else Some (record given { file = Some file })

abbrev pub with_parts : Given → List Part → Option Given
with_parts given [] = Some given
with_parts given (part ∷ rest) = option_and_then (λ more. with_parts more rest) (with_part given part)

-- with an option whose value is this word
abbrev pub with_value : Given → Setting → List ℕ → Option Given
with_value given setting word = option_and_then (λ number. with_part given (Sets setting number)) (value_of setting word)

-- with all that further words say, where an option may await its value
unfoldable pub with_words : Given → Option Setting → List (List ℕ) → Option Given
with_words given awaited words = option_and_then (with_parts given) (parts_from awaited words)

-- with each of these as a file
abbrev pub with_files : Given → List (List ℕ) → Option Given
with_files given files = with_parts given (map Names files)

-- what a word is, by its bytes
abbrev pub said : Kind → words.Kind
said EndsOptions = words.EndsOptions
said NamesFile = words.NamesFile
said (Gives setting value) = words.Gives setting value.now
said (Awaits setting) = words.Awaits setting
said Unknown = words.Unknown

-- what is asked, by the bytes of the file's name
abbrev pub asked : Request → words.Request
asked request = record { command = request.command; limits = request.limits; file = request.file.now }

-- the same of a run of code
abbrev pub run_asked : CodeRequest → executed.CodeRequest
run_asked request = record { limits = request.limits; file = request.file.now }
