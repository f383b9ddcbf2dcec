-- Lexemes: kinds of tokens with the values beside them.
use Rattle.std.specs.Prelude.{ℕ, ℤ, List, [], pos}
use Rattle.sim_base.specs.declared.token.Lexeme.{Lexeme}
use Rattle.sim_base.specs.declared.token.TokenKind.{TokenKind}
use Rattle.sim_base.specs.declared.token.TokenKind.TheVariants as k
use Rattle.sim_base.specs.declared.token.TokenValue.{TokenValue}
use Rattle.sim_base.specs.declared.token.TokenValue.TheVariants as token_value

abbrev pub bytes_of : TokenValue → List ℕ
bytes_of (token_value.Bytes bytes) = bytes
bytes_of value = []

abbrev pub integer_of : TokenValue → ℤ
integer_of (token_value.Integer number) = number
integer_of value = pos 0

abbrev pub character_of : TokenValue → ℕ
character_of (token_value.Character code) = code
character_of value = 0

-- a word or a sign
abbrev pub bare : TokenKind → Lexeme
bare kind = record { kind = kind; value = token_value.Absent }

abbrev pub named : List ℕ → Lexeme
named name = record { kind = k.Identifier; value = token_value.Bytes name }

abbrev pub whole_number : ℤ → Lexeme
whole_number number = record { kind = k.Integer; value = token_value.Integer number }

abbrev pub character : ℕ → Lexeme
character code = record { kind = k.Character; value = token_value.Character code }

abbrev pub text : List ℕ → Lexeme
text bytes = record { kind = k.Text; value = token_value.Bytes bytes }

-- What the value beside a kind says. A value that is none of the kind's says what its bytes, its number or its code are by the definitions
-- above, so each list of tokens has a meaning.
abbrev pub value_for : TokenKind → TokenValue → TokenValue
value_for k.Identifier value = token_value.Bytes (bytes_of value)
value_for k.Integer value = token_value.Integer (integer_of value)
value_for k.Character value = token_value.Character (character_of value)
value_for k.Text value = token_value.Bytes (bytes_of value)
value_for kind value = token_value.Absent
