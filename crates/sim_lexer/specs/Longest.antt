-- The longest word and the longest number, in the words of the laws.
use Rattle.std.specs.Prelude.{ℕ, ◌≡◌, ◌+◌, ◌<◌, ◌≤◌, List, ◌∷◌, ◌++◌, Some, true, drop, length, map, nat_eq, take}
use Rattle.std.specs.Char.{to_ascii_lowercase}
use Rattle.std.specs.List.{All}
use Rattle.sim_base.specs.declared.token.Lexeme.{Lexeme}
use Rattle.sim_lexer.specs.Bytes.{is_digit_of, is_letter, is_word_byte}
use Rattle.sim_lexer.specs.Constants.{radix}
use Rattle.sim_lexer.specs.Pieces.{comment_behind, word_lexeme}

-- so many bytes in front are such, and no greater number of bytes in front is
pub record IsLongest (Is : List ℕ → Type 0) (all : List ℕ) (size : ℕ) : Type 0 where
  pub is : Is (take size all)
  pub within : size ≤ length all
  pub longest : (more : ℕ) → more ≤ length all → Is (take more all) → more ≤ size

-- a word: a letter, and then letters, digits and underscores
pub record IsWord (bytes : List ℕ) : Type 0 where
  pub first : ℕ
  pub rest : List ℕ
  pub split : bytes ≡ first ∷ rest
  pub letter : is_letter first ≡ true
  pub all : All (λ byte. is_word_byte byte ≡ true) rest

-- the longest word in front, as what it is; `end` takes its comment along
pub record IsLongestWord (all : List ℕ) (lexeme : Lexeme) (size : ℕ) : Type 0 where
  pub letters : ℕ
  pub longest : IsLongest IsWord all letters
  pub lexeme_is : lexeme ≡ word_lexeme (map to_ascii_lowercase (take letters all))
  pub size_is : size ≡ letters + comment_behind lexeme.kind (drop letters all)

-- digits of a base, one or more
pub record AreDigits (base : ℕ) (digits : List ℕ) : Type 0 where
  pub some : 0 < length digits
  pub all : All (λ byte. is_digit_of base byte ≡ true) digits

-- decimal digits that name a base, an `R` of either case, and digits of that base
pub record IsBased (bytes : List ℕ) : Type 0 where
  pub base : ℕ
  pub whole : List ℕ
  pub mark : ℕ
  pub digits : List ℕ
  pub split : bytes ≡ whole ++ mark ∷ digits
  pub decimal : AreDigits 10 whole
  pub names : radix whole ≡ Some base
  pub is_r : nat_eq (to_ascii_lowercase mark) 114 ≡ true
  pub of_base : AreDigits base digits

-- a number: decimal digits, or those of a base
pub data IsNumber (bytes : List ℕ) : Type 0 where
  decimal : AreDigits 10 bytes → IsNumber bytes
  based : IsBased bytes → IsNumber bytes
