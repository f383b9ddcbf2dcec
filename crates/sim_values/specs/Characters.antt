-- Characters are bytes. The standard functions between them and the integers.
use Rattle.std.specs.Prelude.{ℕ, Bool, ◌||◌, ◌&&◌, nat_le, nat_lt, ℤ, pos, negsuc, Result, Ok, Err, if◌then◌else◌}
use Rattle.sim_base.specs.declared.run_error.RunError.{RunError}
use Rattle.sim_base.specs.declared.run_error.RunError.TheVariants.{NoSuchCharacter}

-- `char(n)` and `isochar(n)`: the character of code n, E12 unless n is 0 to 255
abbrev pub character_of : ℤ → Result ℕ RunError
character_of (pos n) = if nat_lt n 256 then Ok n else Err NoSuchCharacter
character_of (negsuc n) = Err NoSuchCharacter

-- `rank(c)` and `isorank(c)`: the code of c
abbrev pub rank_of : ℕ → ℤ
rank_of c = pos c

-- `digit(c)`: one of 0 to 9
abbrev pub is_digit : ℕ → Bool
is_digit c = nat_le 48 c && nat_le c 57

-- `letter(c)`: one of A to Z or a to z
abbrev pub is_letter : ℕ → Bool
is_letter c = (nat_le 65 c && nat_le c 90) || (nat_le 97 c && nat_le c 122)
