-- How tokens are laid out on lines.
use Rattle.std.specs.Prelude.{ℕ, ◌+◌, ◌-◌, ◌*◌, List, [], ◌∷◌, ◌++◌, Bool, true, false, ◌||◌, replicate, if◌then◌else◌}
use Rattle.sim_base.specs.declared.token.Lexeme.{Lexeme}
use Rattle.sim_base.specs.declared.token.TokenKind.{TokenKind}
use Rattle.sim_base.specs.declared.token.TokenKind.TheVariants as k
use Rattle.sim_print.specs.Spelling.{spelling}

-- a line ends behind `begin` and `;`
abbrev pub ends_line : TokenKind → Bool
ends_line k.Begin = true
ends_line k.Semicolon = true
ends_line kind = false

abbrev pub is_begin : TokenKind → Bool
is_begin k.Begin = true
is_begin kind = false

-- before it a line begins
abbrev pub is_end : TokenKind → Bool
is_end k.End = true
is_end kind = false

-- no blank stands before these
abbrev pub holds_back : TokenKind → Bool
holds_back k.Semicolon = true
holds_back k.Comma = true
holds_back k.Close = true
holds_back k.Dot = true
holds_back kind = false

-- no blank stands behind these
abbrev pub holds_on : TokenKind → Bool
holds_on k.Open = true
holds_on k.Dot = true
holds_on kind = false

-- nor between an identifier and `(`
abbrev pub is_applied : (last coming : TokenKind) → Bool
is_applied k.Identifier k.Open = true
is_applied _ _ = false

-- what stands between two tokens, where a line begins with these bytes
unfoldable pub between : (line : List ℕ) (last coming : TokenKind) → List ℕ
between line last coming =
    if ends_line last || is_end coming then line
    else if holds_back coming || (holds_on last || is_applied last coming) then []
    else 32 ∷ []

-- a line feed, and two blanks for each `begin` that is open
abbrev pub line_of : ℕ → List ℕ
line_of depth = 10 ∷ replicate (2 * depth) 32

-- how many `begin` are open where a token stands: an `end` closes its own first
abbrev pub open_at : TokenKind → ℕ → ℕ
open_at kind depth = if is_end kind then depth - 1 else depth

-- and behind it
abbrev pub open_behind : TokenKind → ℕ → ℕ
open_behind kind depth = if is_begin kind then depth + 1 else depth

-- tokens behind one of this kind, where so many `begin` are open; at their end a line feed
abbrev pub behind : (depth : ℕ) (last : TokenKind) → List Lexeme → List ℕ
behind depth last [] = 10 ∷ []
behind depth last (x ∷ xs) =
    let at = open_at x.kind depth in
    between (line_of at) last x.kind ++ (spelling x ++ behind (open_behind x.kind at) x.kind xs)

-- the text of tokens
abbrev pub text_of : List Lexeme → List ℕ
text_of [] = 10 ∷ []
text_of (x ∷ xs) = spelling x ++ behind (open_behind x.kind 0) x.kind xs
