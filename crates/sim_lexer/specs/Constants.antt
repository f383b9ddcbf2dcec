-- Integer and character constants.
use Rattle.std.specs.Prelude.{ℕ, ◌+◌, ◌*◌, ◌^◌, List, [], ◌∷◌, Option, Some, None, Bool, ◌&&◌, ◌||◌, codes, drop, length, nat_eq, nat_lt, nat_le, not, pos, slice_index, if◌then◌else◌}
use Rattle.std.specs.List.{fold, prefix_len, take_while}
use Rattle.std.specs.Char.{to_ascii_lowercase}
use Rattle.std.specs.Str.{bytes_eq}
use Rattle.sim_base.specs.Lexeme.{character as character_lexeme, whole_number}
use Rattle.sim_base.specs.declared.rule.Rule.TheVariants as x
use Rattle.sim_lexer.specs.Bytes.{digit_value, is_digit, is_digit_of}
use Rattle.sim_lexer.specs.Piece.{Piece, Fault, Lexeme}

-- a number with one more digit
abbrev pub one_more : ℕ → ℕ → ℕ → ℕ
one_more base value digit = value * base + digit_value digit

-- the number that digits write in a base
unfoldable pub number_value : ℕ → List ℕ → ℕ
number_value base digits = fold (one_more base) 0 digits

-- a digit, or a sign and a digit
abbrev pub is_scale : ℕ → ℕ → Bool
is_scale first second = is_digit first || ((nat_eq first 43 || nat_eq first 45) && is_digit second)

-- whether what stands behind a number makes it a real constant: `.` and a digit, or `&`, perhaps a sign, and a digit
abbrev pub is_real_behind : List ℕ → Bool
is_real_behind behind =
    (nat_eq (slice_index behind 0) 46 && is_digit (slice_index behind 1))
    || (nat_eq (slice_index behind 0) 38 && is_scale (slice_index behind 1) (slice_index behind 2))

-- an integer constant of that many bytes, with what stands behind it
unfoldable pub integer : (base : ℕ) (digits : List ℕ) (size : ℕ) (behind : List ℕ) → Piece
integer base digits size behind =
    if is_real_behind behind then Fault x.RealConstant
    else if nat_lt (number_value base digits) (2 ^ 63) then Lexeme (whole_number (pos (number_value base digits))) size
    else Fault x.IntegerTooLarge

-- the base that stands before an `R`
abbrev pub radix : List ℕ → Option ℕ
radix whole =
    if bytes_eq whole (codes "2") then Some 2
    else if bytes_eq whole (codes "4") then Some 4
    else if bytes_eq whole (codes "8") then Some 8
    else if bytes_eq whole (codes "16") then Some 16
    else None

-- the digits of a base behind an `R` of either case; none where no `R` stands in front
abbrev pub radix_digits : ℕ → List ℕ → List ℕ
radix_digits base [] = []
radix_digits base (mark ∷ rest) = if nat_eq (to_ascii_lowercase mark) 114 then take_while (is_digit_of base) rest else []

-- the integer constant of a base, the decimal digits `whole`, an `R` and these digits
abbrev pub with_radix : (base : ℕ) (whole digits behind : List ℕ) → Piece
with_radix base whole digits behind =
    integer base digits (length whole + (1 + length digits)) (drop (1 + length digits) behind)

-- the integer constant that begins with the decimal digits `whole`: one of a base where digits of it stand behind an `R`
abbrev pub number_in : Option ℕ → (whole behind : List ℕ) → Piece
number_in None whole behind = integer 10 whole (length whole) behind
number_in (Some base) whole behind =
    if nat_eq (length (radix_digits base behind)) 0 then integer 10 whole (length whole) behind
    else with_radix base whole (radix_digits base behind) behind

unfoldable pub number : List ℕ → Piece
number all =
    number_in
    (radix (take_while (is_digit_of 10) all))
    (take_while (is_digit_of 10) all)
    (drop (prefix_len (is_digit_of 10) all) all)

-- a form `!n!`: the byte that it means, and how many bytes it takes
pub record Code : Type 0 where
  pub byte : ℕ
  pub size : ℕ

-- one to three decimal digits of a number up to 255, with a `!` behind them
abbrev pub closed_form : (digits : List ℕ) (next : ℕ) → Option Code
closed_form digits next =
    if nat_eq (length digits) 0 || nat_lt 3 (length digits) || not (nat_eq next 33) then None
    else if nat_lt (number_value 10 digits) 256 then Some (record { byte = number_value 10 digits; size = length digits + 2 })
    else None

-- the form `!n!` in front
abbrev pub code_form : List ℕ → Option Code
code_form [] = None
code_form (mark ∷ rest) =
    if nat_eq mark 33 then closed_form (take_while (is_digit_of 10) rest) (slice_index rest (prefix_len (is_digit_of 10) rest))
    else None

-- a character constant: the form `!n!` is tried first, then one byte from 32 on
abbrev pub plain_character : List ℕ → Piece
plain_character all =
    if nat_le 32 (slice_index all 1) && nat_eq (slice_index all 2) 39 then Lexeme (character_lexeme (slice_index all 1)) 3
    else Fault x.BadCharacterConstant

abbrev pub coded_character : Option Code → List ℕ → Piece
coded_character None all = plain_character all
coded_character (Some form) all =
    if nat_eq (slice_index all (1 + form.size)) 39 then Lexeme (character_lexeme form.byte) (form.size + 2)
    else plain_character all

unfoldable pub character : List ℕ → Piece
character all = coded_character (code_form (drop 1 all)) all
