-- What the words `exec FILE` ask for.
use Rattle.std.specs.Prelude.{ℕ, List, [], ◌∷◌, Option, None, codes, option_and_then, if◌then◌else◌}
use Rattle.std.specs.Option.{option_map}
use Rattle.std.specs.Str.{bytes_eq}
use Rattle.sim_base.specs.declared.limits.Limits.{Limits}
use Rattle.command_line.specs.Words.{Given, given_by, limits_of, parts_from}

-- the limits of a run of code, and the file that has the code
pub record CodeRequest : Type 0 where
  pub limits : Limits
  pub file : List ℕ

abbrev pub code_with : Given → Option CodeRequest
code_with given = option_map (λ file. record { limits = limits_of given; file = file }) given.file

-- The run of code that the words ask for: `exec`, and behind it the words that may stand behind `run`. None where the words are anything else.
abbrev pub code_request_of : List (List ℕ) → Option CodeRequest
code_request_of [] = None
code_request_of (word ∷ rest) =
    if bytes_eq word (codes "exec") then option_and_then (λ parts. option_and_then code_with (given_by parts)) (parts_from None rest) else None
