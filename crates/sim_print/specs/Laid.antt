-- A text while tokens are laid out, one behind the other.
use Rattle.std.specs.Prelude.{◌≡◌, ℕ, ◌-◌, List, [], ◌∷◌, ◌++◌, Option, Some, None, drop, length, take, if◌then◌else◌}
use Rattle.std.specs.List.{fold}
use Rattle.sim_base.specs.declared.token.Lexeme.{Lexeme}
use Rattle.sim_base.specs.declared.token.TokenKind.{TokenKind}
use Rattle.sim_print.specs.Layout.{between, is_begin, is_end}
use Rattle.sim_print.specs.Spelling.{each, spelling}

-- the text so far, the blanks that the next line begins with, and the kind of the last token
pub record LaidOut : Type 0 where
  pub text : List ℕ
  pub margin : List ℕ
  pub last : Option TokenKind

abbrev pub nothing : LaidOut
nothing = record { text = []; margin = []; last = None }

-- what stands in front of the next token
abbrev pub gap : (margin : List ℕ) → Option TokenKind → TokenKind → List ℕ
gap margin None kind = []
gap margin (Some last) kind = between (10 ∷ margin) last kind

unfoldable pub advanced : LaidOut → TokenKind → LaidOut
advanced p kind = record { text = p.text ++ gap p.margin p.last kind; margin = p.margin; last = Some kind }

-- before `end` two blanks fewer
abbrev pub closed : TokenKind → List ℕ → List ℕ
closed kind margin = if is_end kind then take (length margin - 2) margin else margin

-- behind `begin` two blanks more
abbrev pub opened : TokenKind → List ℕ → List ℕ
opened kind margin = if is_begin kind then margin ++ (32 ∷ 32 ∷ []) else margin

-- with a token of this kind and these bytes
abbrev pub put : LaidOut → TokenKind → List ℕ → LaidOut
put p kind bytes =
    let margin = closed kind p.margin in
    record { text = p.text ++ (gap margin p.last kind ++ bytes); margin = opened kind margin; last = Some kind }

unfoldable pub laid : LaidOut → Lexeme → LaidOut
laid p x = put p x.kind (spelling x)

-- from one state to the other, by tokens
unfoldable pub Prints : LaidOut → LaidOut → List Lexeme → Type 0
Prints from to xs = to ≡ fold laid from xs

-- in a loop: what is left leads to where the whole leads
unfoldable pub Owes : {A : Type 0} → (A → List Lexeme) → LaidOut → (whole : List Lexeme) → List A → (now : LaidOut) → (done : ℕ) → Type 0
Owes f from whole xs now done = (end : LaidOut) → Prints now end (each f (drop done xs)) → Prints from end whole

-- the same of bytes that are written one by one
unfoldable pub OwesBytes : (ℕ → List ℕ) → (from bytes now : List ℕ) → (done : ℕ) → Type 0
OwesBytes f from bytes now done = now ++ each f (drop done bytes) ≡ from ++ each f bytes
