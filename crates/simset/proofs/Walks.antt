-- the walk over the nodes finds the sets that they keep
use Rattle.std.proofs.Common.{◌≡◌, ℕ, zero, suc, ◌+◌, ◌<◌, ◌≤◌, List, [], ◌∷◌, length, arith, if◌then◌else◌, Bool, true, false, refl, ap, ◌∙◌}
use Rattle.std.specs.Prelude.{slice_get, Option, Some, None}
use Rattle.std.proofs.lemmas.Option.{slice_get_within}
use Rattle.simset.specs.declared.rings.Node.{Node}
use Rattle.simset.specs.Sets.{Linkage, Link, Head, times_among, times_in, IsProper, is_link, is_link_at}
use Rattle.simset.specs.Nodes.{head_at, next_at, links_from, linkages_from, sets_of, Links, HoldsLinkage, KeepsSets}
use Rattle.simset.proofs.Lists.{length_below}

walk_at_head : (nodes : List Node) (steps x : ℕ) → head_at nodes x ≡ true → links_from nodes steps x ≡ []
unfolding links_from
walk_at_head nodes zero x h = refl
walk_at_head nodes (suc steps) x h = rw h refl

walk_at_link : (nodes : List Node) (steps x : ℕ) → head_at nodes x ≡ false
    → links_from nodes (suc steps) x ≡ x ∷ links_from nodes steps (next_at nodes x)
unfolding links_from
walk_at_link nodes steps x h = rw h refl

-- the walk from behind a goes over these links and stops at the head b
pub links_from-Links : (nodes : List Node) (steps a : ℕ) (xs : List ℕ) (b : ℕ) → Links nodes a xs b
    → head_at nodes b ≡ true → length xs ≤ steps → links_from nodes steps (next_at nodes a) ≡ xs
links_from-Links nodes steps a [] b l h fits = rw l.onward (walk_at_head nodes steps b h)
links_from-Links nodes zero a (x ∷ xs) b l h fits = absurd (omega arith)
links_from-Links nodes (suc steps) a (x ∷ xs) b l h fits = rw (l.0.onward, walk_at_link nodes steps x l.1) (ap (λ ys. x ∷ ys) (links_from-Links nodes steps x xs b l.2 h (omega arith)))

-- a list stands in the sets as often as in itself, and more
pub times_in-at : (x : ℕ) (sets : List Linkage) (h : ℕ) (xs : List ℕ) → slice_get sets h ≡ Some (Head xs)
    → times_among x xs ≤ times_in x sets
times_in-at x [] h xs e = absurd (cc)
times_in-at x (Link ∷ rest) zero xs e = absurd (cc)
times_in-at x (Head ys ∷ rest) zero xs e = let same : ys ≡ xs = cc in rw same (omega arith)
times_in-at x (Link ∷ rest) (suc h) xs e = times_in-at x rest h xs e
times_in-at x (Head ys ∷ rest) (suc h) xs e = omega (arith, times_in-at x rest h xs e)

is_link-made : (o : Option Linkage) (x : ℕ) (sets : List Linkage) → slice_get sets x ≡ o → is_link o ≡ true
    → x < length sets
is_link-made None x sets e h = absurd (cc)
is_link-made (Some linkage) x sets e h = slice_get_within sets x linkage e

pub is_link_at-made : (sets : List Linkage) (x : ℕ) → is_link_at sets x ≡ true → x < length sets
is_link_at-made sets x h = is_link-made (slice_get sets x) x sets refl h

at_most_one : (b : Bool) (n : ℕ) → n ≤ (if b then 1 else 0) → n ≤ 1
at_most_one true n h = omega arith
at_most_one false n h = omega arith

none_of : (b : Bool) (n : ℕ) → (b ≡ true → ⊥) → n ≤ (if b then 1 else 0) → n ≡ 0
none_of true n denied h = absurd (denied refl)
none_of false n denied h = omega arith

pub proper-once : (sets : List Linkage) (x : ℕ) → IsProper sets → times_in x sets ≤ 1
proper-once sets x proper = at_most_one (is_link_at sets x) (times_in x sets) (proper x)

pub proper-none : (sets : List Linkage) (x : ℕ) → IsProper sets → (is_link_at sets x ≡ true → ⊥) → times_in x sets ≡ 0
proper-none sets x proper denied = none_of (is_link_at sets x) (times_in x sets) denied (proper x)

pub length-proper : (sets : List Linkage) (h : ℕ) (xs : List ℕ) → IsProper sets → slice_get sets h ≡ Some (Head xs)
    → length xs ≤ length sets
length-proper sets h xs proper e =
    length_below (length sets) xs
    (λ x. omega (arith, times_in-at x sets h xs e, proper-once sets x proper))
    (λ x past. omega (arith, times_in-at x sets h xs e, proper-none sets x proper (λ made. omega (arith, is_link_at-made sets x made))))

-- the linkage that the walk finds at a number
found : List Node → ℕ → Linkage
found nodes k = if head_at nodes k then Head (links_from nodes (length nodes) (next_at nodes k)) else Link

found-held : (nodes : List Node) (k : ℕ) (linkage : Linkage) → HoldsLinkage nodes k linkage
    → ((xs : List ℕ) → linkage ≡ Head xs → length xs ≤ length nodes) → found nodes k ≡ linkage
unfolding found
found-held nodes k Link held fits = rw held refl
found-held nodes k (Head xs) held fits = rw held.0 (ap (λ ys. Head ys) (links_from-Links nodes (length nodes) k xs k held.1 held.0 (fits xs refl)))

linkages_from-held : (nodes : List Node) (k count : ℕ) (sets : List Linkage) → count ≡ length sets
    → ((i : ℕ) (linkage : Linkage) → slice_get sets i ≡ Some linkage → HoldsLinkage nodes (k + i) linkage)
    → ((i : ℕ) (xs : List ℕ) → slice_get sets i ≡ Some (Head xs) → length xs ≤ length nodes)
    → linkages_from nodes k count ≡ sets
unfolding linkages_from found
linkages_from-held nodes k zero [] e held fits = refl
linkages_from-held nodes k (suc count) [] e held fits = absurd (omega arith)
linkages_from-held nodes k zero (linkage ∷ rest) e held fits = absurd (omega arith)
linkages_from-held nodes k (suc count) (linkage ∷ rest) e held fits =
    let here : k + 0 ≡ k = omega arith in
    let first : found nodes k ≡ linkage = found-held nodes k linkage (rw here at (held 0 linkage refl)) (λ xs same. fits 0 xs (ap (λ l. Some l) same)) in
    let others : linkages_from nodes (k + 1) count ≡ rest =
    linkages_from-held nodes (k + 1) count rest (omega arith)
    (λ i l at. let there : k + suc i ≡ (k + 1) + i = omega arith in rw there at (held (suc i) l at))
    (λ i xs at. fits (suc i) xs at)
    in
    ap (λ l. l ∷ linkages_from nodes (k + 1) count) first ∙ ap (λ r. linkage ∷ r) others

-- the nodes stand for the sets that they keep
pub sets_of-kept : (nodes : List Node) (sets : List Linkage) → KeepsSets nodes sets → sets_of nodes ≡ sets
unfolding sets_of
sets_of-kept nodes sets kept =
    linkages_from-held nodes 0 (length nodes) sets kept.made
    (λ i linkage e. let there : 0 + i ≡ i = omega arith in rw there (kept.held i linkage e))
    (λ i xs e. omega (arith, kept.made, length-proper sets i xs kept.proper e))
