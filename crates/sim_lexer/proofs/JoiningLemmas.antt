-- A token put behind others meets the last of them alone.
use Rattle.std.proofs.Common.{◌≡◌, ℕ, ◌≤◌, ◌+◌, ◌-◌, List, [], ◌∷◌, ◌++◌, Option, Some, None, length, slice_get, suc, false, refl, sym, ap, arith, ◌∙◌}
use Rattle.sim_base.specs.Lexeme.{bytes_of}
use Rattle.sim_base.specs.declared.token.Lexeme.{Lexeme}
use Rattle.sim_base.specs.declared.token.Token.{Token}
use Rattle.sim_base.specs.declared.token.TokenKind.{TokenKind}
use Rattle.sim_base.specs.declared.token.TokenKind.TheVariants as k
use Rattle.sim_lexer.specs.Scanning.{last_may_join, may_join}
use Rattle.sim_lexer.specs.Spelling.{joined_by, joined_lexeme, neighbours, with_next}

pub with_next_behind : (front : List Token) (last next : Token)
    → with_next (front ++ last ∷ []) next ≡ front ++ neighbours (joined_lexeme last.lexeme next.lexeme) last next
with_next_behind [] last next = refl
with_next_behind (first ∷ []) last next = refl
with_next_behind (first ∷ second ∷ rest) last next = ap (λ (tokens : List Token). first ∷ tokens) (with_next_behind (second ∷ rest) last next)

-- The end of the source is joined to no token.

no_joined_end : (kind : TokenKind) (bytes more : List ℕ) → joined_by kind k.EndOfSource bytes more ≡ None
no_joined_end k.Text bytes more = refl
no_joined_end k.And bytes more = refl
no_joined_end k.Or bytes more = refl
no_joined_end _ bytes more = refl

-- it stands behind all other tokens
pub end_behind : (tokens : List Token) (next : Token) → next.lexeme.kind ≡ k.EndOfSource → with_next tokens next ≡ tokens ++ next ∷ []
end_behind [] next end = refl
end_behind (last ∷ []) next end =
    ap (λ (kind : TokenKind). neighbours (joined_by last.lexeme.kind kind (bytes_of last.lexeme.value) (bytes_of next.lexeme.value)) last next) end
    ∙ ap (λ (made : Option Lexeme). neighbours made last next) (no_joined_end last.lexeme.kind _ _)
end_behind (first ∷ second ∷ rest) next end = ap (λ (tokens : List Token). first ∷ tokens) (end_behind (second ∷ rest) next end)

-- a token more at most

few_neighbours : (made : Option Lexeme) (first next : Token) → length (neighbours made first next) ≤ 2
few_neighbours None first next = omega arith
few_neighbours (Some lexeme) first next = omega arith

pub few : (tokens : List Token) (next : Token) → length (with_next tokens next) ≤ length tokens + 1
few [] next = omega arith
few (last ∷ []) next = omega (arith, few_neighbours (joined_lexeme last.lexeme next.lexeme) last next)
few (first ∷ second ∷ rest) next = omega (arith, few (second ∷ rest) next)

-- a token stands behind others as it is where the last of them is of no kind that is joined

pub last_of : (tokens : List Token) (last : Token) → Some last ≡ slice_get tokens (length tokens - 1) → may_join last.lexeme.kind ≡ last_may_join tokens
last_of [] last is = cc
last_of (first ∷ []) last is = let same : last ≡ first = cc in ap (λ (t : Token). may_join t.lexeme.kind) same
last_of (first ∷ second ∷ rest) last is =
    let at : length (first ∷ second ∷ rest) - 1 ≡ suc (length (second ∷ rest) - 1) = omega arith in
    last_of (second ∷ rest) last (is ∙ ap (slice_get (first ∷ second ∷ rest)) at)

not_joined : (first second : TokenKind) (bytes more : List ℕ) → may_join first ≡ false → joined_by first second bytes more ≡ None
not_joined k.Text second bytes more other = cc
not_joined k.And second bytes more other = cc
not_joined k.Or second bytes more other = cc
not_joined _ second bytes more other = refl

pub plain_behind : (tokens : List Token) (next : Token) → last_may_join tokens ≡ false → tokens ++ next ∷ [] ≡ with_next tokens next
plain_behind [] next other = refl
plain_behind (last ∷ []) next other = sym (ap (λ (made : Option Lexeme). neighbours made last next) (not_joined last.lexeme.kind next.lexeme.kind _ _ other))
plain_behind (first ∷ second ∷ rest) next other = ap (λ (tokens : List Token). first ∷ tokens) (plain_behind (second ∷ rest) next other)
