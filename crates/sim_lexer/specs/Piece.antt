-- What stands in front of the rest of a source.
use Rattle.std.specs.Prelude.{ℕ}
use Rattle.sim_base.specs.declared.rule.Rule.{Rule}
use Rattle.sim_base.specs.declared.token.Lexeme.{Lexeme as AnyLexeme}

-- nothing, where the source ends; a separator of so many bytes; a lexeme of so many bytes, which spells a token; the opening
-- quote of a text constant; or a byte at which a rule is broken
pub data Piece : Type 0 where
  Nothing : Piece
  Separator : (size : ℕ) → Piece
  Lexeme : (lexeme : AnyLexeme) (size : ℕ) → Piece
  Quote : Piece
  Fault : (rule : Rule) → Piece
