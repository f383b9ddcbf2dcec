-- The options of a run: their names, the values that they take, and the limits that they give.
use Rattle.std.specs.Prelude.{ℕ, Bool, ◌&&◌, nat_le, length, List, Option, Some, None, codes, option_and_then, if◌then◌else◌}
use Rattle.std.specs.Str.{all_ascii_digits, bytes_eq}
use Rattle.std.specs.Str.Parse.{digits_value}
use Rattle.sim_base.specs.declared.limits.Limits.{Limits}
use Rattle.command_line.specs.declared.options.Setting.{Setting}
use Rattle.command_line.specs.declared.options.Setting.TheVariants.{Storage, Ticks, InLength, OutLength}

-- the option of this name
abbrev pub setting_of : List ℕ → Option Setting
setting_of name =
    if bytes_eq name (codes "--storage") then Some Storage
    else if bytes_eq name (codes "--ticks") then Some Ticks
    else if bytes_eq name (codes "--in-length") then Some InLength
    else if bytes_eq name (codes "--out-length") then Some OutLength
    else None

-- the least value of an option
abbrev pub least : Setting → ℕ
least Storage = 1000
least Ticks = 1
least InLength = 1
least OutLength = 1

-- and the greatest
abbrev pub most : Setting → ℕ
most Storage = 50000000
most Ticks = 1000000000000000000
most InLength = 10000
most OutLength = 10000

-- 1 to 19 decimal digits
abbrev pub is_numeral : List ℕ → Bool
is_numeral word = nat_le 1 (length word) && (nat_le (length word) 19 && all_ascii_digits word)

-- the number that a word is
abbrev pub number_of : List ℕ → Option ℕ
number_of word = if is_numeral word then Some (digits_value 10 word) else None

-- a number that is in the range of an option
abbrev pub in_range : Setting → ℕ → Option ℕ
in_range setting number = if nat_le (least setting) number && nat_le number (most setting) then Some number else None

-- the value that a word gives to an option: a number in its range
abbrev pub value_of : Setting → List ℕ → Option ℕ
value_of setting word = option_and_then (in_range setting) (number_of word)

-- the limits of a run with no options
abbrev pub default_limits : Limits
default_limits = record { storage = 4000000; ticks = 1000000000; in_length = 80; out_length = 132 }
