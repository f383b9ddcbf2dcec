-- What the lexer's contract claims.
use Rattle.std.specs.Prelude.{ℕ, ◌≡◌, List, [], ◌∷◌, ◌++◌}
use Rattle.std.specs.List.{All}
use Rattle.sim_base.specs.declared.token.Token.{Token}
use Rattle.sim_base.specs.declared.token.TokenKind.{TokenKind}
use Rattle.sim_base.specs.declared.token.TokenKind.TheVariants as k
use Rattle.sim_lexer.specs.Spelling.{Lexed, Broken, Reads}
use Rattle.sim_lexer.specs.declared.refusal.LexRefusal.{LexRefusal}
use Rattle.sim_lexer.specs.declared.refusal.LexRefusal.TheVariants as refusal

-- a refusal names the rule that the source breaks; want of memory says nothing of the source
abbrev pub Refuses : List ℕ → LexRefusal → Type 0
Refuses source (refusal.Broken rule place) = Reads source (Broken rule place)
Refuses source refusal.Memory = Unit {0}

-- the refusal is this answer, or memory was refused
abbrev pub Refused : Lexed → LexRefusal → Type 0
Refused answer (refusal.Broken rule place) = answer ≡ Broken rule place
Refused answer refusal.Memory = Unit {0}

abbrev pub IsNoEnd : TokenKind → Type 0
IsNoEnd k.EndOfSource = ⊥
IsNoEnd kind = Unit {0}

-- the last token, and no other, is the end of the source
pub record IsEnded (tokens : List Token) : Type 0 where
  pub before : List Token
  pub last : Token
  pub split : tokens ≡ before ++ last ∷ []
  pub end : last.lexeme.kind ≡ k.EndOfSource
  pub only : All (λ token. IsNoEnd token.lexeme.kind) before
