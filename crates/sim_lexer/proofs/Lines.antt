-- Places and lines of tokens.
use Rattle.std.proofs.Common.{◌≡◌, ℕ, ◌+◌, ◌≤◌, List, [], ◌∷◌, ◌++◌, Option, Some, None, refl, ap, sym, ◌∙◌, length, arith, append_assoc}
use Rattle.std.proofs.lemmas.List.{take_at, length-append}
use Rattle.std.proofs.lemmas.List.Elements.{All-cons, All-nil, All-head, All-tail}
use Rattle.std.specs.List.{All, count_by, fold}
use Rattle.std.specs.Prelude.{nat_eq}
use Rattle.sim_base.specs.Lexeme.{bare}
use Rattle.sim_base.specs.Place.{line_at}
use Rattle.sim_base.specs.declared.token.Lexeme.{Lexeme}
use Rattle.sim_base.specs.declared.token.Token.{Token}
use Rattle.sim_base.specs.declared.token.TokenKind.TheVariants as k
use Rattle.sim_lexer.specs.Spelling.{Lexed, Spelled, Broken, Spells, ends, passes, gives, breaks, Reads, too_long, reads, line_behind, token, with_token, with_joined, with_next, neighbours, joined_lexeme}

-- the token stands in the source or at its end, and on the line of its place
pub record IsPlaced (source : List ℕ) (token : Token) : Type 0 where
  pub within : token.place ≤ length source
  pub line : token.line.0 ≡ line_at source token.place

-- so do all tokens, and a broken rule
abbrev pub ArePlaced : List ℕ → Lexed → Type 0
ArePlaced source (Spelled tokens) = All (IsPlaced source) tokens
ArePlaced source (Broken rule place) = place ≤ length source

-- the line behind bytes, also where more follow
line_in_front : (before after : List ℕ) → line_at (before ++ after) (length before) ≡ line_behind before
unfolding line_at
line_in_front before after = ap (λ (bytes : List ℕ). 1 + count_by (nat_eq 10) bytes) (take_at before after (length before) refl)

in_front : (source before after : List ℕ) → source ≡ before ++ after → length before ≤ length source
in_front source before after whole = omega (arith, ap length whole, length-append before after)

placed-token : (source before after : List ℕ) (lexeme : Lexeme) → source ≡ before ++ after → IsPlaced source (token before lexeme)
placed-token source before after lexeme whole = record {
  within = in_front source before after whole;
  line = sym (line_in_front before after) ∙ ap (λ (bytes : List ℕ). line_at bytes (length before)) (sym whole);
}

placed-more : (source : List ℕ) (t : Token) (answer : Lexed) → IsPlaced source t → ArePlaced source answer → ArePlaced source (with_token t answer)
placed-more source t (Spelled tokens) here there = All-cons (IsPlaced source) t tokens here there
placed-more source t (Broken rule place) here there = there

moved : (source before piece rest all : List ℕ) → source ≡ before ++ all → all ≡ piece ++ rest → source ≡ (before ++ piece) ++ rest
moved source before piece rest all whole split = whole ∙ ap (λ (bytes : List ℕ). before ++ bytes) split ∙ sym (append_assoc before piece rest)

placed-spelled : (source : List ℕ) {before all : List ℕ} {answer : Lexed} → Spells before all answer → source ≡ before ++ all → ArePlaced source answer
placed-spelled source (ends {before = before}) whole =
    All-cons (IsPlaced source) (token before (bare k.EndOfSource)) [] (placed-token source before [] (bare k.EndOfSource) whole) (All-nil (IsPlaced source))
placed-spelled source {before} {all} (passes piece rest split is d) whole = placed-spelled source d (moved source before piece rest all whole split)
placed-spelled source {before} {all} (gives {answer = answer} lexeme piece rest split is d) whole =
    placed-more source (token before lexeme) answer (placed-token source before all lexeme whole) (placed-spelled source d (moved source before piece rest all whole split))
placed-spelled source {before} {all} (breaks rule is) whole = in_front source before all whole

placed-neighbours : (source : List ℕ) (made : Option Lexeme) (first next : Token) → IsPlaced source first → IsPlaced source next
    → All (IsPlaced source) (neighbours made first next)
placed-neighbours source None first next here there =
    All-cons (IsPlaced source) first (next ∷ []) here (All-cons (IsPlaced source) next [] there (All-nil (IsPlaced source)))
placed-neighbours source (Some lexeme) first next here there =
    All-cons (IsPlaced source) (record first { lexeme = lexeme }) [] (record { within = here.within; line = here.line }) (All-nil (IsPlaced source))

placed-next : (source : List ℕ) (tokens : List Token) (next : Token) → All (IsPlaced source) tokens → IsPlaced source next → All (IsPlaced source) (with_next tokens next)
placed-next source [] next before here = All-cons (IsPlaced source) next [] here (All-nil (IsPlaced source))
placed-next source (last ∷ []) next before here =
    placed-neighbours source (joined_lexeme last.lexeme next.lexeme) last next (All-head (IsPlaced source) last [] before) here
placed-next source (first ∷ second ∷ rest) next before here =
    All-cons (IsPlaced source) first (with_next (second ∷ rest) next) (All-head (IsPlaced source) first (second ∷ rest) before)
    (placed-next source (second ∷ rest) next (All-tail (IsPlaced source) first (second ∷ rest) before) here)

placed-fold : (source : List ℕ) (tokens more : List Token) → All (IsPlaced source) tokens → All (IsPlaced source) more → All (IsPlaced source) (fold with_next tokens more)
placed-fold source tokens [] before after = before
placed-fold source tokens (next ∷ more) before after =
    placed-fold source (with_next tokens next) more (placed-next source tokens next before (All-head (IsPlaced source) next more after)) (All-tail (IsPlaced source) next more after)

placed-joined : (source : List ℕ) (answer : Lexed) → ArePlaced source answer → ArePlaced source (with_joined answer)
placed-joined source (Spelled tokens) placed = placed-fold source [] tokens (All-nil (IsPlaced source)) placed
placed-joined source (Broken rule place) placed = placed

-- what a source reads as
pub placed-reading : {source : List ℕ} {answer : Lexed} → Reads source answer → ArePlaced source answer
placed-reading (too_long long) = omega arith
placed-reading {source} (reads {answer = answer} within spelled) = placed-joined source answer (placed-spelled source spelled refl)
