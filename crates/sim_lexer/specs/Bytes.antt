-- The classes of bytes that lexemes are made of.
use Rattle.std.specs.Prelude.{ℕ, ◌-◌, Bool, ◌&&◌, ◌||◌, nat_eq, nat_lt, nat_le, not, if◌then◌else◌}

abbrev pub is_between : ℕ → ℕ → ℕ → Bool
is_between low high byte = nat_le low byte && nat_le byte high

abbrev pub is_line_feed : ℕ → Bool
is_line_feed byte = nat_eq byte 10

-- a tab, a form feed, a carriage return or a space
abbrev pub is_blank : ℕ → Bool
is_blank byte = nat_eq byte 9 || nat_eq byte 12 || nat_eq byte 13 || nat_eq byte 32

-- a blank, or a line feed, which ends a line
abbrev pub is_separator : ℕ → Bool
is_separator byte = is_blank byte || is_line_feed byte

-- a byte of the line that it stands in: any but a line feed
abbrev pub is_in_line : ℕ → Bool
is_in_line byte = not (is_line_feed byte)

-- a letter of either case
abbrev pub is_letter : ℕ → Bool
is_letter byte = is_between 65 90 byte || is_between 97 122 byte

abbrev pub is_digit : ℕ → Bool
is_digit byte = is_between 48 57 byte

-- a letter, a digit or an underscore
abbrev pub is_word_byte : ℕ → Bool
is_word_byte byte = is_letter byte || is_digit byte || nat_eq byte 95

-- a byte that may stand in a text constant: a tab, or a byte from 32 on
abbrev pub is_text_byte : ℕ → Bool
is_text_byte byte = nat_eq byte 9 || nat_le 32 byte

-- the value of a digit, 10 to 15 for `a` to `f` of either case; 16 for any other byte
abbrev pub digit_value : ℕ → ℕ
digit_value byte =
    if is_digit byte then byte - 48
    else if is_between 65 70 byte then byte - 55
    else if is_between 97 102 byte then byte - 87
    else 16

-- a digit of that base
abbrev pub is_digit_of : ℕ → ℕ → Bool
is_digit_of base byte = nat_lt (digit_value byte) base
