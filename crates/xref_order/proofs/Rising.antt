-- The lines of tokens do not fall.
use Rattle.std.proofs.Common.{◌≡◌, ◌<◌, ◌≤◌, ◌+◌, ◌-◌, ◌⊎◌, inl, inr, ℕ, zero, suc, Bool, true, false, List, [], ◌∷◌, Some, None, length, map, take, refl, sym, ap, ◌∙◌, subst, arith}
use Rattle.std.proofs.lemmas.List.{get_or_default, take_all}
use Rattle.std.proofs.lemmas.List.Elements.{All-head, All-tail}
use Rattle.std.proofs.lemmas.List.Sums.{count_by_more_no, count_by_more_yes}
use Rattle.std.proofs.lemmas.Option.{slice_get_past}
use Rattle.std.specs.List.{All, AllByRecursion, AllPairs, Contains, count_by}
use Rattle.std.specs.Prelude.{nat_eq, slice_get, slice_index_or}
use Rattle.sim_base.specs.Place.{line_at}
use Rattle.sim_base.specs.declared.numbering.DeclNo.{DeclNo}
use Rattle.sim_base.specs.declared.numbering.Line.{Line}
use Rattle.sim_base.specs.declared.numbering.TokenNo.{TokenNo}
use Rattle.sim_base.specs.declared.token.Token.{Token}
use Rattle.sim_readings.specs.Readable.{place_of}
use Rattle.sim_scope.specs.declared.bound.Bound.{Bound}
use Rattle.sim_scope.specs.declared.scopes.Denotation.TheVariants as denotation
use Rattle.sim_scope.specs.Access.{joined}
use Rattle.sim_scope.specs.Source.{Source, denoted, line_in, source_of}
use Rattle.sim_scope.specs.Source as source
use Rattle.sim_static.specs.Check.{IsBound}
use Rattle.sim_tree.specs.Named.{IsAscending}
use Rattle.sim_tree.specs.Tree.{IsTree, line}
use Rattle.sim_xref.specs.Laws.{AreItsUses}
use Rattle.sim_xref.specs.Rows.{uses_of}
use Rattle.sim_xref.specs.Text.{token_line}
use Rattle.xref_order.proofs.Sizes.{uses_sized}

-- ---- lines of places

order : (a b : ℕ) → (a < b) ⊎ (b ≤ a)
order a zero = inr (omega arith)
order zero (suc b) = inl (omega arith)
order (suc a) (suc b) = elim (order a b) [ inl lt ↦ inl (omega (arith, lt)) | inr le ↦ inr (omega (arith, le)) ]

abbrev feeds : ℕ → List ℕ → ℕ
feeds p bytes = count_by (nat_eq 10) (take p bytes)

further_within : (bytes : List ℕ) (p : ℕ) → p < length bytes → (b : Bool) → nat_eq 10 (slice_index_or bytes p 0) ≡ b → feeds p bytes ≤ feeds (p + 1) bytes
further_within bytes p lt true is = let more = count_by_more_yes (nat_eq 10) bytes p 0 lt is in omega (arith, more)
further_within bytes p lt false is = let more = count_by_more_no (nat_eq 10) bytes p 0 lt is in omega (arith, more)

one_further : (bytes : List ℕ) (p : ℕ) → feeds p bytes ≤ feeds (p + 1) bytes
one_further bytes p = elim (order p (length bytes)) [
  | inl lt ↦ further_within bytes p lt (nat_eq 10 (slice_index_or bytes p 0)) refl
  | inr le ↦ (let same : feeds p bytes ≡ feeds (p + 1) bytes = ap (count_by (nat_eq 10)) (take_all p bytes le ∙ sym (take_all (p + 1) bytes (omega (arith, le)))) in omega (arith, same))
]

further : (bytes : List ℕ) (p n : ℕ) → feeds p bytes ≤ feeds (p + n) bytes
further bytes p zero = let same : p + 0 ≡ p = omega arith in subst (λ z. feeds p bytes ≤ feeds z bytes) (sym same) (omega arith)
further bytes p (suc n) =
    let same : p + n + 1 ≡ p + suc n = omega arith in
    let there = further bytes p n in
    let more = one_further bytes (p + n) in
    subst (λ z. feeds p bytes ≤ feeds z bytes) same (omega (arith, there, more))

lines_rise : (bytes : List ℕ) (p q : ℕ) → p ≤ q → line_at bytes p ≤ line_at bytes q
unfolding line_at
lines_rise bytes p q le =
    let same : p + (q - p) ≡ q = omega (arith, le) in
    let more : feeds p bytes ≤ feeds q bytes = subst (λ z. feeds p bytes ≤ feeds z bytes) same (further bytes p (q - p)) in
    omega (arith, more)

-- ---- lines of tokens

abbrev Placed : List ℕ → Token → Type 0
Placed bytes t = t.line.0 ≡ line_at bytes t.place

-- none of the lines is in front of one
abbrev NotBelow : ℕ → List Line → Type 0
NotBelow n [] = Unit {0}
NotBelow n (x ∷ xs) = (n ≤ x.0) × NotBelow n xs

abbrev Rise : List Line → Type 0
Rise [] = Unit {0}
Rise (x ∷ xs) = NotBelow x.0 xs × Rise xs

behind : (bytes : List ℕ) (p : ℕ) (ws : List Token) → AllByRecursion (λ q. p < q) (map place_of ws) → All (Placed bytes) ws → NotBelow (line_at bytes p) (map line ws)
behind bytes p [] above placed = tt
behind bytes p (w ∷ ws) above placed =
    let first = lines_rise bytes p w.place (omega (arith, above.0)) in
    let same : w.line.0 ≡ line_at bytes w.place = All-head (Placed bytes) w ws placed in
    (omega (arith, first, same), behind bytes p ws above.1 (All-tail (Placed bytes) w ws placed))

rising : (bytes : List ℕ) (ws : List Token) → IsAscending (map place_of ws) → All (Placed bytes) ws → Rise (map line ws)
rising bytes [] ascend placed = tt
rising bytes (w ∷ ws) ascend placed =
    let same : w.line.0 ≡ line_at bytes w.place = All-head (Placed bytes) w ws placed in
    let rest = All-tail (Placed bytes) w ws placed in
    (subst (λ n. NotBelow n (map line ws)) (sym same) (behind bytes w.place ws ascend.0 rest), rising bytes ws ascend.1 rest)

not_below_at : (n : ℕ) (xs : List Line) (j : ℕ) → NotBelow n xs → j < length xs → n ≤ line_in (slice_get xs j)
not_below_at n [] j low lt = absurd (omega (arith, lt))
not_below_at n (x ∷ xs) zero low lt = low.0
not_below_at n (x ∷ xs) (suc j) low lt = not_below_at n xs j low.1 (omega (arith, lt))

rise_at : (xs : List Line) (i j : ℕ) → Rise xs → i < j → j < length xs → line_in (slice_get xs i) ≤ line_in (slice_get xs j)
rise_at [] i j rise less lt = absurd (omega (arith, lt))
rise_at (x ∷ xs) zero zero rise less lt = absurd (omega (arith, less))
rise_at (x ∷ xs) zero (suc j) rise less lt = not_below_at x.0 xs j rise.0 (omega (arith, lt))
rise_at (x ∷ xs) (suc i) zero rise less lt = absurd (omega (arith, less))
rise_at (x ∷ xs) (suc i) (suc j) rise less lt = rise_at xs i j rise.1 (omega (arith, less)) (omega (arith, lt))

-- ---- lines of uses

use_within : (s : Source) (d : DeclNo) (t : ℕ) → denoted s t ≡ Some (denotation.Declared d) → t < length s.uses
unfolding denoted
use_within s d t is = elim (order t (length s.uses)) [
  | inl lt ↦ lt
  | inr le ↦ absurd (none (ap joined (sym (slice_get_past s.uses t le)) ∙ is))
]
  where
    none : None ≡ Some (denotation.Declared d) → ⊥
    none e = cc

pub uses_rise : (bytes : List ℕ) (tokens : List Token) (b : Bound) (d : DeclNo) → IsAscending (map place_of tokens) → All (Placed bytes) tokens → IsTree tokens b.program → IsBound b
    → AreItsUses (source_of b) d (uses_of (source_of b) d.0) → AllPairs (λ (t u : TokenNo). token_line (source_of b) t ≤ token_line (source_of b) u) (uses_of (source_of b) d.0)
unfolding source_of token_line source.line_at
uses_rise bytes tokens b d ascend placed tree is uses i j x less lt =
    let us = uses_of (source_of b) d.0 in
    let first = slice_index_or us i x in
    let second = slice_index_or us j x in
    let rise : Rise b.program.lines.items = subst Rise (sym tree.lines) (rising bytes tokens ascend placed) in
    let there : Contains us second = (j, lt, get_or_default us j second x lt) in
    let within : second.0 < length b.uses.items = use_within (source_of b) d second.0 (uses.only second there) in
    let size : length b.uses.items ≡ length b.program.lines.items = uses_sized b is in
    rise_at b.program.lines.items first.0 second.0 rise (uses.once i j x less lt) (omega (arith, within, size))
