-- The link before another one is the next link in the sets read backwards.
use Rattle.std.proofs.Common.{◌≡◌, ◌≢◌, ℕ, ◌+◌, ◌≤◌, ◌==◌, if◌then◌else◌, Bool, true, false, List, [], ◌∷◌, ◌++◌, refl, sym, ap, ◌∙◌, ◌⊎◌, inl, inr, arith}
use Rattle.std.specs.Prelude.{Option, Some, None, reverse, slice_get}
use Rattle.std.proofs.lemmas.Bool.{cases_Bool, cases_eq}
use Rattle.std.proofs.lemmas.Bool.Decides.{nat_tests, eqb_tells}
use Rattle.std.proofs.lemmas.List.{reverse-reverse}
use Rattle.simset.specs.Sets.{Linkage, Link, Head, IsProper, after, backwards, before_or, each_from, first, head_from, head_of, is_head, is_head_at, last_or, link_before, links_in, links_of, next_link, pred_of, suc_of, times_among}
use Rattle.simset.proofs.Becomes.{links_of-becomes}
use Rattle.simset.proofs.Changes.{is_head_at-each_from}
use Rattle.simset.proofs.Lists.{times-push}
use Rattle.simset.proofs.Mirrors.{reverse-cons}
use Rattle.simset.proofs.Neighbours.{StandsIn, head_from-some}
use Rattle.simset.proofs.Placing.{last_or-push, pred_of-at_head, suc_of-at_head}
use Rattle.simset.proofs.Walks.{proper-once, times_in-at}

-- ---- in one list

times-reverse : (z : ℕ) (xs : List ℕ) → times_among z (reverse xs) ≡ times_among z xs
times-reverse z [] = refl
times-reverse z (y ∷ ys) = ap (times_among z) (reverse-cons y ys) ∙ times-push z y (reverse ys) ∙ (let rest = times-reverse z ys in grind (arith, nat_tests))

-- x does not stand in the first part
behind_others : (x : ℕ) (zs ws : List ℕ) → times_among x zs ≡ 0 → after x (zs ++ ws) ≡ after x ws
behind_others x [] ws none = refl
behind_others x (z ∷ zs) ws none =
    let rest : times_among x zs ≡ 0 → after x (zs ++ ws) ≡ after x ws = behind_others x zs ws in grind (arith, nat_tests, eqb_tells z x, rest)

first_stays : (zs : List ℕ) (y a : ℕ) → first ((zs ++ y ∷ []) ++ a ∷ []) ≡ first (zs ++ y ∷ [])
first_stays [] y a = refl
first_stays (z ∷ zs) y a = refl

-- one more behind a number that is not x is not behind x
one_longer : (x : ℕ) (zs : List ℕ) (y a : ℕ) → y ≢ x → after x ((zs ++ y ∷ []) ++ a ∷ []) ≡ after x (zs ++ y ∷ [])
one_longer x [] y a other = grind (arith, nat_tests, eqb_tells y x, eqb_tells a x)
one_longer x (z ∷ zs) y a other = by_first (one_longer x zs y a other) (z == x)
  where
    by_first : after x ((zs ++ y ∷ []) ++ a ∷ []) ≡ after x (zs ++ y ∷ []) → (b : Bool) → (if b then first ((zs ++ y ∷ []) ++ a ∷ []) else after x ((zs ++ y ∷ []) ++ a ∷ [])) ≡ (if b then first (zs ++ y ∷ []) else after x (zs ++ y ∷ []))
    by_first rest true = first_stays zs y a
    by_first rest false = rest

here_once : (x y : ℕ) (ys : List ℕ) → y ≡ x → times_among x (y ∷ ys) ≤ 1 → times_among x ys ≡ 0
here_once x y ys same once = grind (arith, nat_tests, eqb_tells y x)

there_once : (x y : ℕ) (ys : List ℕ) → times_among x (y ∷ ys) ≤ 1 → times_among x ys ≤ 1
there_once x y ys once = omega arith

after_it : (x y : ℕ) (ws : List ℕ) → y ≡ x → after x (y ∷ ws) ≡ first ws
after_it x y ws same = grind (arith, nat_tests, eqb_tells y x)

before_it : (d : Option ℕ) (x y : ℕ) (ys : List ℕ) → y ≡ x → before_or d x (y ∷ ys) ≡ d
before_it d x y ys same = grind (arith, nat_tests, eqb_tells y x)

before_other : (d : Option ℕ) (x y : ℕ) (ys : List ℕ) → y ≢ x → before_or d x (y ∷ ys) ≡ before_or (Some y) x ys
before_other d x y ys other = grind (arith, nat_tests, eqb_tells y x)

-- where x is the first of a list it is the last of it backwards, in front of what stands behind
last_backwards : (x y : ℕ) (ys ws : List ℕ) → y ≡ x → times_among x (y ∷ ys) ≤ 1 → after x (reverse ys ++ y ∷ ws) ≡ first ws
last_backwards x y ys ws same once = behind_others x (reverse ys) (y ∷ ws) (times-reverse x ys ∙ here_once x y ys same once) ∙ after_it x y ws same

joined : (zs : List ℕ) (y a : ℕ) → (zs ++ y ∷ []) ++ a ∷ [] ≡ zs ++ y ∷ a ∷ []
joined [] y a = refl
joined (z ∷ zs) y a = ap (λ xs. z ∷ xs) (joined zs y a)

before_in : (x a : ℕ) (xs : List ℕ) → times_among x xs ≤ 1 → before_or (Some a) x xs ≡ after x (reverse xs ++ a ∷ [])
before_in x a [] once = by_test (a == x)
  where
    by_test : (b : Bool) → None ≡ (if b then first [] else after x [])
    by_test true = refl
    by_test false = refl
before_in x a (y ∷ ys) once = by_first (before_in x y ys (there_once x y ys once)) (cases_eq y x)
  where
    back : after x (reverse (y ∷ ys) ++ a ∷ []) ≡ after x ((reverse ys ++ y ∷ []) ++ a ∷ [])
    back = ap (λ zs. after x (zs ++ a ∷ [])) (reverse-cons y ys)

    by_first : before_or (Some y) x ys ≡ after x (reverse ys ++ y ∷ []) → (y ≡ x) ⊎ (y ≡ x → ⊥) → before_or (Some a) x (y ∷ ys) ≡ after x (reverse (y ∷ ys) ++ a ∷ [])
    by_first rest (inl same) = before_it (Some a) x y ys same ∙ sym (back ∙ ap (after x) (joined (reverse ys) y a) ∙ last_backwards x y ys (a ∷ []) same once)
    by_first rest (inr other) = before_other (Some a) x y ys other ∙ rest ∙ sym (back ∙ one_longer x (reverse ys) y a other)

before_backwards : (x : ℕ) (xs : List ℕ) → times_among x xs ≤ 1 → before_or None x xs ≡ after x (reverse xs)
before_backwards x [] once = refl
before_backwards x (y ∷ ys) once = by_first (cases_eq y x)
  where
    by_first : (y ≡ x) ⊎ (y ≡ x → ⊥) → before_or None x (y ∷ ys) ≡ after x (reverse (y ∷ ys))
    by_first (inl same) = before_it None x y ys same ∙ sym (ap (after x) (reverse-cons y ys) ∙ last_backwards x y ys [] same once)
    by_first (inr other) = before_other None x y ys other ∙ before_in x y ys (there_once x y ys once) ∙ ap (after x) (sym (reverse-cons y ys))

last_of_reverse : (zs : List ℕ) → last_or None (reverse zs) ≡ first zs
last_of_reverse [] = refl
last_of_reverse (z ∷ zs) = ap (last_or None) (reverse-cons z zs) ∙ last_or-push None (reverse zs) z

last_is_first : (xs : List ℕ) → last_or None xs ≡ first (reverse xs)
last_is_first xs = ap (last_or None) (sym (reverse-reverse xs)) ∙ last_of_reverse (reverse xs)

-- ---- in the sets

backwards_head : (sets : List Linkage) (x : ℕ) → is_head_at (backwards sets) x ≡ is_head_at sets x
unfolding backwards
backwards_head sets x = is_head_at-each_from (λ _ xs. reverse xs) sets x

backwards_links : (sets : List Linkage) (h : ℕ) → is_head_at sets h ≡ true → links_of (backwards sets) h ≡ reverse (links_of sets h)
unfolding backwards
backwards_links sets h head = links_of-becomes sets (λ _ xs. reverse xs) h head

same_head_from : (x k : ℕ) (sets : List Linkage) → head_from x k (each_from (λ _ xs. reverse xs) k sets) ≡ head_from x k sets
same_head_from x k [] = refl
same_head_from x k (Link ∷ rest) = same_head_from x (k + 1) rest
same_head_from x k (Head xs ∷ rest) =
    ap (λ (n : ℕ). if n == 0 then head_from x (k + 1) (each_from (λ _ ys. reverse ys) (k + 1) rest) else Some k) (times-reverse x xs)
    ∙ ap (λ (o : Option ℕ). if times_among x xs == 0 then o else Some k) (same_head_from x (k + 1) rest)

same_head : (sets : List Linkage) (x : ℕ) → head_of (backwards sets) x ≡ head_of sets x
unfolding head_of backwards
same_head sets x = same_head_from x 0 sets

pred_of-link : (sets : List Linkage) (x : ℕ) → is_head_at sets x ≡ false → pred_of sets x ≡ link_before sets x (head_of sets x)
unfolding pred_of
pred_of-link sets x link = rw link refl

suc_of-link : (sets : List Linkage) (x : ℕ) → is_head_at sets x ≡ false → suc_of sets x ≡ next_link sets x (head_of sets x)
unfolding suc_of
suc_of-link sets x link = rw link refl

in_a_set : (sets : List Linkage) (x h : ℕ) → IsProper sets → StandsIn x 0 sets h → before_or None x (links_of sets h) ≡ after x (links_of (backwards sets) h)
in_a_set sets x h proper s =
    let number : h ≡ s.at = omega (arith, s.number) in
    let list : slice_get sets h ≡ Some (Head s.links) = ap (slice_get sets) number ∙ s.list in
    let links : links_of sets h ≡ s.links = ap links_in list in
    let once : times_among x (links_of sets h) ≤ 1 = omega (arith, times_in-at x sets h s.links list, proper-once sets x proper, ap (times_among x) links) in
    before_backwards x (links_of sets h) once ∙ ap (after x) (sym (backwards_links sets h (ap is_head list)))

by_set : (sets : List Linkage) (x : ℕ) (o : Option ℕ) → IsProper sets → head_of sets x ≡ o → link_before sets x o ≡ next_link (backwards sets) x o
unfolding head_of
by_set sets x None proper is = refl
by_set sets x (Some h) proper is = in_a_set sets x h proper (head_from-some x 0 sets h is)

pub pred-backwards : (sets : List Linkage) (x : ℕ) → IsProper sets → pred_of sets x ≡ suc_of (backwards sets) x
pred-backwards sets x proper =
    elim (cases_Bool (is_head_at sets x)) [
      | inl head ↦
          pred_of-at_head sets x head
          ∙ last_is_first (links_of sets x)
          ∙ ap first (sym (backwards_links sets x head))
          ∙ sym (suc_of-at_head (backwards sets) x (backwards_head sets x ∙ head))
      | inr link ↦
          pred_of-link sets x link
          ∙ by_set sets x (head_of sets x) proper refl
          ∙ ap (next_link (backwards sets) x) (sym (same_head sets x))
          ∙ sym (suc_of-link (backwards sets) x (backwards_head sets x ∙ link))
    ]
