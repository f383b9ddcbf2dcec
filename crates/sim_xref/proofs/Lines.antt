-- The text of cross references, row by row and line by line.
use Rattle.std.proofs.Common.{◌≡◌, ◌<◌, ◌≤◌, ◌+◌, Bool, true, false, if◌then◌else◌, ℕ, List, [], ◌∷◌, ◌++◌, Option, Some, None, refl, sym, ap, ◌∙◌, drop, take, length, append_assoc, append-nil, arith}
use Rattle.std.proofs.lemmas.List.{drop_more, drop_all, take_more}
use Rattle.std.proofs.lemmas.List.Concat.{flat_map-append}
use Rattle.std.proofs.lemmas.Bool.Decides.{nat_tests}
use Rattle.std.specs.List.{flat_map}
use Rattle.std.specs.Prelude.{map, slice_index_or}
use Rattle.sim_base.specs.declared.numbering.TokenNo.{TokenNo}
use Rattle.sim_scope.specs.Source.{Source}
use Rattle.sim_xref.specs.Rows.{RowOf}
use Rattle.sim_xref.specs.Text.{Adds, after_blank, changes, is_last, lines_of, token_line, unless_last}

pub adds_none : (s : Source) (a : List ℕ) (uses : List TokenNo) → Adds s a uses a None 0
unfolding Adds lines_of
adds_none s a uses = refl

-- the lines from a place on
from_here : (s : Source) (uses : List TokenNo) (last : Option ℕ) (i : ℕ) (t : TokenNo) → i < length uses
    → changes last (map (token_line s) (drop i uses)) ≡ changes last (token_line s (slice_index_or uses i t) ∷ map (token_line s) (drop (i + 1) uses))
from_here s uses last i t lt = ap (λ ts. changes last (map (token_line s) ts)) (drop_more uses i t lt)

last_is : (last : Option ℕ) (line : ℕ) → is_last last line ≡ true → last ≡ Some line
last_is None line is = absurd (cc)
last_is (Some last) line is = let same : last ≡ line = grind (arith, nat_tests) in ap Some same

pub adds_next : (s : Source) (a b new : List ℕ) (uses : List TokenNo) (last : Option ℕ) (i : ℕ) (d : TokenNo) (line : ℕ) → Adds s a uses b last i → i < length uses
    → line ≡ token_line s (slice_index_or uses i d) → new ≡ b ++ unless_last last line → Adds s a uses new (Some line) (i + 1)
unfolding Adds
adds_next s a b new uses last i d line so_far lt is more =
    let rest = map (token_line s) (drop (i + 1) uses) in
    let from : changes last (map (token_line s) (drop i uses)) ≡ changes last (line ∷ rest) = from_here s uses last i d lt ∙ ap (λ l. changes last (l ∷ rest)) (sym is) in
    ap (λ z. z ++ flat_map after_blank (changes (Some line) rest)) more
    ∙ append_assoc b (unless_last last line) (flat_map after_blank (changes (Some line) rest))
    ∙ ap (λ z. b ++ z) (by (is_last last line) refl)
    ∙ ap (λ ls. b ++ flat_map after_blank ls) (sym from)
    ∙ so_far
  where
    rest_of : List ℕ
    rest_of = map (token_line s) (drop (i + 1) uses)

    by : (c : Bool) → is_last last line ≡ c → (if c then [] else after_blank line) ++ flat_map after_blank (changes (Some line) rest_of) ≡ flat_map after_blank (if c then changes last rest_of else line ∷ changes (Some line) rest_of)
    by true shown = ap (λ z. flat_map after_blank (changes z rest_of)) (sym (last_is last line shown))
    by false fresh = refl

pub adds_all : (s : Source) (a b : List ℕ) (uses : List TokenNo) (last : Option ℕ) (i : ℕ) → Adds s a uses b last i → length uses ≤ i → b ≡ a ++ flat_map after_blank (lines_of s uses)
unfolding Adds
adds_all s a b uses last i so_far le = sym (append-nil b) ∙ ap (λ ts. b ++ flat_map after_blank (changes last (map (token_line s) ts))) (sym (drop_all i uses le)) ∙ so_far

pub ruleset adding = (adds_none, adds_next, adds_all)

-- ---- one line

pub same_text : (a : List ℕ) (last : Option ℕ) (line : ℕ) (c : Bool) → c ≡ is_last last line → c ≡ true → a ≡ a ++ unless_last last line
same_text a last line c is shown = sym (append-nil a) ∙ ap (λ b. a ++ (if b then [] else after_blank line)) (sym shown ∙ is)

pub new_text : (a b : List ℕ) (last : Option ℕ) (line : ℕ) (c : Bool) → c ≡ is_last last line → c ≡ false → b ≡ a ++ after_blank line → b ≡ a ++ unless_last last line
new_text a b last line c is fresh more = more ∙ ap (λ d. a ++ (if d then [] else after_blank line)) (sym fresh ∙ is)

pub ruleset one_line = (same_text, new_text)

-- ---- rows

pub rows_more : (f : RowOf → List ℕ) (rows : List RowOf) (a b new : List ℕ) (i : ℕ) (r : RowOf) → i < length rows → b ≡ a ++ flat_map f (take i rows) → r ≡ slice_index_or rows i r → new ≡ b ++ f r
    → new ≡ a ++ flat_map f (take (i + 1) rows)
rows_more f rows a b new i r lt so_far is more =
    let longer : take (i + 1) rows ≡ take i rows ++ r ∷ [] = take_more rows i r lt ∙ ap (λ x. take i rows ++ x ∷ []) (sym is) in
    more ∙ ap (λ z. z ++ f r) so_far ∙ append_assoc a (flat_map f (take i rows)) (f r)
    ∙ ap (λ z. a ++ z) (sym (ap (flat_map f) longer ∙ flat_map-append f (take i rows) (r ∷ []) ∙ ap (λ z. flat_map f (take i rows) ++ z) (append-nil (f r))))
