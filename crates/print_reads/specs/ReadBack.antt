-- A text that is read as what it was made of: as lexemes, and as a program.
use Rattle.std.specs.Prelude.{ℕ, ◌≡◌, List, [], ◌∷◌, ◌++◌, map}
use Rattle.sim_base.specs.Lexeme.{bare}
use Rattle.sim_base.specs.declared.token.Lexeme.{Lexeme}
use Rattle.sim_base.specs.declared.token.Token.{Token}
use Rattle.sim_base.specs.declared.token.TokenKind.TheVariants as k
use Rattle.sim_lexer.specs.Spelling.{Reads, Spelled}
use Rattle.sim_print.specs.Canonical.{canonical_text}
use Rattle.sim_print.specs.Unnumbered.{unnumbered}
use Rattle.sim_tree.specs.declared.program.Program.{Program as Tree}
use Rattle.sim_tree.specs.Syntax.{Program}
use Rattle.sim_tree.specs.SyntaxOfProgram.{program_syntax}
use Rattle.sim_tree.specs.Tree.{IsTree}

abbrev pub lexeme_of : Token → Lexeme
lexeme_of token = token.lexeme

-- a source spells tokens that are these, and then the end of the source
pub record ReadsAs (source : List ℕ) (xs : List Lexeme) : Type 0 where
  pub tokens : List Token
  pub reads : Reads source (Spelled tokens)
  pub are : map lexeme_of tokens ≡ xs ++ bare k.EndOfSource ∷ []

-- two programs that differ in no more than the numbers of their tokens
abbrev pub IsSame : Program → Program → Type 0
IsSame p q = unnumbered p ≡ unnumbered q

-- A source spells tokens that have a tree; each tree of theirs is this program, but for the numbers of tokens, and is printed as the source.
pub record ReadsBack (source : List ℕ) (p : Program) : Type 0 where
  pub tokens : List Token
  pub reads : Reads source (Spelled tokens)
  pub tree : Tree
  pub is : IsTree tokens tree
  pub same : (q : Tree) → IsTree tokens q → IsSame (program_syntax q) p
  pub printed : (q : Tree) → IsTree tokens q → canonical_text (program_syntax q) ≡ source
