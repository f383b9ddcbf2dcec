-- The tokens of a source stand one behind the other.
use Rattle.std.proofs.Common.{◌≡◌, ◌≤◌, ◌<◌, ◌+◌, ℕ, List, [], ◌∷◌, ◌++◌, Option, Some, None, map, length, length-append, refl, subst, arith}
use Rattle.std.specs.List.{AllByRecursion, fold}
use Rattle.sim_base.specs.Lexeme.{bare}
use Rattle.sim_base.specs.declared.token.Lexeme.{Lexeme}
use Rattle.sim_base.specs.declared.token.Token.{Token}
use Rattle.sim_base.specs.declared.token.TokenKind.TheVariants as k
use Rattle.sim_lexer.specs.Spelling.{Broken, Lexed, Reads, Spelled, Spells, begins_line, breaks, ends, gives, joined, joined_lexeme, neighbours, passes, reads, token, too_long, with_joined, with_next, with_token}
use Rattle.sim_lexer.proofs.PiecesWithin.{lexeme-some}
use Rattle.sim_tree.specs.Named.{IsAscending}
use Rattle.sim_readings.specs.Readable.{place_of}

-- from a place on each token stands behind the one before it
abbrev From : ℕ → List Token → Type 0
From p [] = Unit {0}
From p (x ∷ xs) = (p ≤ x.place) × From (x.place + 1) xs

later : (p q : ℕ) (ws : List Token) → q ≤ p → From p ws → From q ws
later p q [] less from = tt
later p q (x ∷ xs) less from = (omega (arith, less, from.0), from.1)

-- ---- the tokens before neighbours are joined

at_tokens : {ws vs : List Token} (p : ℕ) → Spelled vs ≡ Spelled ws → From p vs → From p ws
at_tokens {ws = ws} {vs = vs} p e from = let same : vs ≡ ws = cc in subst (λ l. From p l) same from

spelt : {before all : List ℕ} {answer : Lexed} → Spells before all answer → (ws : List Token) → answer ≡ Spelled ws → From (length before) ws
spelt (ends {before = before}) ws e = at_tokens {vs = token before (bare k.EndOfSource) ∷ []} (length before) e (omega arith, tt)
spelt {before = before} (passes separator rest split is next) ws e =
    later (length (before ++ separator)) (length before) ws (omega (arith, length-append before separator)) (spelt next ws e)
spelt {before = before} {all = all} (gives {answer = answer} lexeme written rest split writes next) ws e = by_answer answer e (λ vs same. spelt next vs same) refl
  where
    by_answer : (a : Lexed) → with_token (token before lexeme) a ≡ Spelled ws → ((vs : List Token) → answer ≡ Spelled vs → From (length (before ++ written)) vs) → answer ≡ a → From (length before) ws
    by_answer (Spelled vs) h rec same =
        let some = lexeme-some (begins_line before) all written rest writes in
        at_tokens {vs = token before lexeme ∷ vs} (length before) h
        (omega arith, later (length (before ++ written)) (length before + 1) vs (omega (arith, length-append before written, some)) (rec vs same))
    by_answer (Broken rule place) h rec same = absurd (cc)
spelt (breaks rule is) ws e = absurd (cc)

-- ---- neighbours joined

beside : (made : Option Lexeme) (p : ℕ) (last next : Token) (rest : List Token) → From p (last ∷ next ∷ rest) → From p (neighbours made last next ++ rest)
beside None p last next rest from = from
beside (Some lexeme) p last next rest from = (from.0, later (next.place + 1) (last.place + 1) rest (omega (arith, from.1.0)) from.1.1)

one_more : (p : ℕ) (now : List Token) (next : Token) (rest : List Token) → From p (now ++ next ∷ rest) → From p (with_next now next ++ rest)
one_more p [] next rest from = from
one_more p (last ∷ []) next rest from = beside (joined_lexeme last.lexeme next.lexeme) p last next rest from
one_more p (first ∷ second ∷ now) next rest from = (from.0, one_more (first.place + 1) (second ∷ now) next rest from.1)

none_behind : (p : ℕ) (now : List Token) → From p (now ++ []) → From p now
none_behind p [] from = tt
none_behind p (x ∷ now) from = (from.0, none_behind (x.place + 1) now from.1)

folded : (p : ℕ) (front now : List Token) → From p (now ++ front) → From p (fold with_next now front)
folded p [] now from = none_behind p now from
folded p (x ∷ front) now from = folded p front (with_next now x) (one_more p now x front from)

read : {source : List ℕ} {a : Lexed} → Reads source a → (ws : List Token) → a ≡ Spelled ws → From 0 ws
read (too_long long) ws e = absurd (cc)
read (reads {answer = answer} short spelled) ws e = by_answer answer e (λ vs same. spelt spelled vs same) refl
  where
    by_answer : (a : Lexed) → with_joined a ≡ Spelled ws → ((vs : List Token) → answer ≡ Spelled vs → From 0 vs) → answer ≡ a → From 0 ws
    by_answer (Spelled vs) h rec same = at_tokens {vs = joined vs} 0 h (folded 0 vs [] (rec vs same))
    by_answer (Broken rule place) h rec same = absurd (cc)

-- ---- in the words of the law

behind : (x q : ℕ) (ws : List Token) → x < q → From q ws → AllByRecursion (λ y. x < y) (map place_of ws)
behind x q [] less from = tt
behind x q (w ∷ ws) less from = (omega (arith, less, from.0), behind x (w.place + 1) ws (omega (arith, less, from.0)) from.1)

ascending : (p : ℕ) (ws : List Token) → From p ws → IsAscending (map place_of ws)
ascending p [] from = tt
ascending p (w ∷ ws) from = (behind w.place (w.place + 1) ws (omega arith) from.1, ascending (w.place + 1) ws from.1)

pub places_ascend : (source : List ℕ) (ws : List Token) → Reads source (Spelled ws) → IsAscending (map place_of ws)
places_ascend source ws r = ascending 0 ws (read r ws refl)
