-- What the words `gen N` ask for.
use Rattle.std.specs.Prelude.{ℕ, ◌&&◌, nat_le, List, [], ◌∷◌, Option, Some, None, codes, option_and_then, if◌then◌else◌}
use Rattle.std.specs.Str.{bytes_eq}
use Rattle.command_line.specs.Options.{number_of}
use Rattle.command_line.specs.Words.{Given, given_by, has_options, parts_from}

-- a number of processes: from 1 to 20,000
abbrev pub processes_of : List ℕ → Option ℕ
processes_of word = option_and_then (λ number. if nat_le 1 number && nat_le number 20000 then Some number else None) (number_of word)

-- where N stands alone: the word that for other commands is FILE
abbrev pub processes_with : Given → Option ℕ
processes_with given = if has_options given then None else option_and_then processes_of given.file

-- The N of `gen N`, by the order of words that all commands have. None where the words are anything else.
abbrev pub generated_of : List (List ℕ) → Option ℕ
generated_of [] = None
generated_of (word ∷ rest) =
    if bytes_eq word (codes "gen") then option_and_then (λ parts. option_and_then processes_with (given_by parts)) (parts_from None rest) else None
