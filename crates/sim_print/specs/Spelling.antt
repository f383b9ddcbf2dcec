-- How each token is written.
use Rattle.std.specs.Prelude.{ℕ, List, [], ◌∷◌, ◌++◌, Bool, ◌&&◌, not, nat_eq, nat_le, if◌then◌else◌}
use Rattle.std.specs.Fmt.{decimal, signed_decimal}
use Rattle.sim_base.specs.declared.token.Lexeme.{Lexeme}
use Rattle.sim_base.specs.declared.token.TokenKind.{TokenKind}
use Rattle.sim_base.specs.declared.token.TokenKind.TheVariants as k
use Rattle.sim_base.specs.declared.token.TokenValue.{TokenValue}
use Rattle.sim_base.specs.declared.token.TokenValue.TheVariants as value
use Rattle.sim_print.specs.Words.{word}

-- what each of a list gives, one behind the other
abbrev pub each : {A B : Type 0} → (A → List B) → List A → List B
each f [] = []
each f (x ∷ xs) = f x ++ each f xs

-- a byte by its code: `!n!`
abbrev pub coded : ℕ → List ℕ
coded byte = 33 ∷ (decimal byte ++ 33 ∷ [])

-- a byte that stands for itself in a constant: one from 32 to 126, but no `!`
abbrev pub is_plain : ℕ → Bool
is_plain byte = nat_le 32 byte && (nat_le byte 126 && not (nat_eq byte 33))

abbrev pub in_constant : ℕ → List ℕ
in_constant byte = if is_plain byte then byte ∷ [] else coded byte

-- in a text constant two quotes stand for one
abbrev pub in_text : ℕ → List ℕ
in_text byte = if nat_eq byte 34 then 34 ∷ 34 ∷ [] else in_constant byte

-- in a character constant the apostrophe stands by its code
abbrev pub in_character : ℕ → List ℕ
in_character byte = if nat_eq byte 39 then coded 39 else in_constant byte

abbrev pub text_constant : List ℕ → List ℕ
text_constant bytes = 34 ∷ (each in_text bytes ++ 34 ∷ [])

abbrev pub character_constant : ℕ → List ℕ
character_constant byte = 39 ∷ (in_character byte ++ 39 ∷ [])

-- by its value, and without one by its kind
abbrev pub spelled : TokenValue → TokenKind → List ℕ
spelled value.Absent kind = word kind
spelled (value.Bytes bytes) k.Text = text_constant bytes
spelled (value.Bytes bytes) kind = bytes
spelled (value.Integer number) kind = signed_decimal number
spelled (value.Character code) kind = character_constant code

-- the bytes of a token
unfoldable pub spelling : Lexeme → List ℕ
spelling x = spelled x.value x.kind
