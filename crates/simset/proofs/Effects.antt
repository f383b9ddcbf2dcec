-- what the changes of the definitions do to the linkages
use Rattle.std.proofs.Common.{◌≡◌, ◌≢◌, ℕ, zero, suc, ◌+◌, ◌<◌, ◌≤◌, List, [], ◌∷◌, length, arith, ◌==◌, if◌then◌else◌, Bool, true, false, refl, ap, ◌∙◌, sym, subst, ◌⊎◌, inl, inr}
use Rattle.std.specs.Prelude.{slice_get, Option, Some, None}
use Rattle.std.proofs.lemmas.Bool.Decides.{nat_tests, eqb_tells}
use Rattle.std.proofs.lemmas.Bool.{cases_eq}
use Rattle.std.proofs.lemmas.Option.{slice_get_within}
use Rattle.simset.specs.Sets.{Linkage, Link, Head, times_among, times_in, places_from, without, insert_before, each_from, is_head, is_link_at, is_head_at, links_in, links_of, put_after, put_before, put_last, emptied, first, after, next_link, head_from, head_of, suc_of, out, clear, IsProper}
use Rattle.simset.proofs.Lists.{without-absent, length-without, insert_after-absent, insert_before-absent}
use Rattle.simset.proofs.Changes.{length-each_from, changed, get-each_from, is_link_at-each_from, is_head_at-each_from, times_in-out_same}
use Rattle.simset.proofs.Walks.{times_in-at, proper-once, proper-none, is_link_at-made}
use Rattle.simset.proofs.Keeps.{link_of}
use Rattle.simset.proofs.Neighbours.{StandsIn, head_from-none, head_from-some}

-- ---- after `out`

pub length-out : (sets : List Linkage) (x : ℕ) → length (out sets x) ≡ length sets
unfolding out
length-out sets x = length-each_from (λ _ xs. without x xs) 0 sets

pub is_link_at-out : (sets : List Linkage) (x y : ℕ) → is_link_at (out sets x) y ≡ is_link_at sets y
unfolding out
is_link_at-out sets x y = is_link_at-each_from (λ _ xs. without x xs) sets y

pub is_head_at-out : (sets : List Linkage) (x y : ℕ) → is_head_at (out sets x) y ≡ is_head_at sets y
unfolding out
is_head_at-out sets x y = is_head_at-each_from (λ _ xs. without x xs) sets y

pub times_in-out : (sets : List Linkage) (x : ℕ) → times_in x (out sets x) ≡ 0
unfolding out
times_in-out sets x = times_in-out_same x 0 sets

head_made : (o : Option Linkage) (x : ℕ) (sets : List Linkage) → slice_get sets x ≡ o → is_head o ≡ true
    → x < length sets
head_made None x sets e is = absurd (cc)
head_made (Some linkage) x sets e is = slice_get_within sets x linkage e

pub is_head_at-made : (sets : List Linkage) (x : ℕ) → is_head_at sets x ≡ true → x < length sets
is_head_at-made sets x is = head_made (slice_get sets x) x sets refl is

-- ---- beside what is no place nothing is put

head_apart : (k p n : ℕ) → (if k == p then 1 else n) ≡ 0 → (k ≢ p) × (n ≡ 0)
head_apart k p n h = (λ same. grind (arith, nat_tests, eqb_tells k p), grind (arith, nat_tests, eqb_tells k p))

pub put_after-nowhere : (x p k : ℕ) (sets : List Linkage) → places_from p k sets ≡ 0
    → each_from (put_after x p) k sets ≡ sets
put_after-nowhere x p k [] h = refl
put_after-nowhere x p k (Link ∷ rest) h = ap (λ s. Link ∷ s) (put_after-nowhere x p (k + 1) rest h)
put_after-nowhere x p k (Head xs ∷ rest) h =
    let none : (k ≢ p) × (times_among p xs ≡ 0) = head_apart k p (times_among p xs) (omega arith) in
    let here : put_after x p k xs ≡ xs = grind (arith, nat_tests, eqb_tells k p, insert_after-absent x p xs none.1, none.0) in
    ap (λ ys. Head ys ∷ each_from (put_after x p) (k + 1) rest) here ∙ ap (λ s. Head xs ∷ s) (put_after-nowhere x p (k + 1) rest (omega arith))

pub put_before-nowhere : (x p k : ℕ) (sets : List Linkage) → places_from p k sets ≡ 0
    → each_from (put_before x p) k sets ≡ sets
put_before-nowhere x p k [] h = refl
put_before-nowhere x p k (Link ∷ rest) h = ap (λ s. Link ∷ s) (put_before-nowhere x p (k + 1) rest h)
put_before-nowhere x p k (Head xs ∷ rest) h =
    let none : (k ≢ p) × (times_among p xs ≡ 0) = head_apart k p (times_among p xs) (omega arith) in
    let here : put_before x p k xs ≡ xs = grind (arith, nat_tests, eqb_tells k p, insert_before-absent x p xs none.1, none.0) in
    ap (λ ys. Head ys ∷ each_from (put_before x p) (k + 1) rest) here ∙ ap (λ s. Head xs ∷ s) (put_before-nowhere x p (k + 1) rest (omega arith))

-- before a head, which stands in no set, is the last place of its set alone
pub put_before-last : (x p k : ℕ) (sets : List Linkage) → times_in p sets ≡ 0
    → each_from (put_before x p) k sets ≡ each_from (put_last x p) k sets
put_before-last x p k [] h = refl
put_before-last x p k (Link ∷ rest) h = ap (λ s. Link ∷ s) (put_before-last x p (k + 1) rest h)
put_before-last x p k (Head xs ∷ rest) h =
    let absent : insert_before x p xs ≡ xs = insert_before-absent x p xs (omega arith) in
    let here : put_before x p k xs ≡ put_last x p k xs = grind (arith, nat_tests, eqb_tells k p, absent) in
    ap (λ ys. Head ys ∷ each_from (put_before x p) (k + 1) rest) here ∙ ap (λ s. Head (put_last x p k xs) ∷ s) (put_before-last x p (k + 1) rest (omega arith))

-- a head is a place, whatever stands in the sets
pub places_from-some : (p k i : ℕ) (sets : List Linkage) → p ≡ k + i → is_head_at sets i ≡ true
    → 0 < places_from p k sets
places_from-some p k i [] e h = absurd (cc)
places_from-some p k zero (Link ∷ rest) e h = absurd (cc)
places_from-some p k zero (Head xs ∷ rest) e h = grind (arith, nat_tests, eqb_tells k p)
places_from-some p k (suc i) (Link ∷ rest) e h = places_from-some p (k + 1) i rest (omega arith) h
places_from-some p k (suc i) (Head xs ∷ rest) e h = omega (arith, places_from-some p (k + 1) i rest (omega arith) h)

-- ---- the links of one head

list_of : (o : Option Linkage) → is_head o ≡ true → o ≡ Some (Head (links_in o))
list_of None is = absurd (cc)
list_of (Some Link) is = absurd (cc)
list_of (Some (Head xs)) is = refl

pub list_of_head : (sets : List Linkage) (h : ℕ) → is_head_at sets h ≡ true
    → slice_get sets h ≡ Some (Head (links_of sets h))
list_of_head sets h is = list_of (slice_get sets h) is

-- what stands in two lists stands twice in the sets
pub two_at : (x : ℕ) (sets : List Linkage) (g h : ℕ) (xs ys : List ℕ) → g ≢ h → slice_get sets g ≡ Some (Head xs)
    → slice_get sets h ≡ Some (Head ys) → times_among x xs + times_among x ys ≤ times_in x sets
two_at x [] g h xs ys apart e f = absurd (cc)
two_at x (linkage ∷ rest) zero zero xs ys apart e f = absurd (apart refl)
two_at x (Link ∷ rest) zero (suc h) xs ys apart e f = absurd (cc)
two_at x (Head zs ∷ rest) zero (suc h) xs ys apart e f = let same : zs ≡ xs = cc in rw same (omega (arith, times_in-at x rest h ys f))
two_at x (Link ∷ rest) (suc g) zero xs ys apart e f = absurd (cc)
two_at x (Head zs ∷ rest) (suc g) zero xs ys apart e f = let same : zs ≡ ys = cc in rw same (omega (arith, times_in-at x rest g xs e))
two_at x (Link ∷ rest) (suc g) (suc h) xs ys apart e f = two_at x rest g h xs ys (λ same. apart (ap (λ n. suc n) same)) e f
two_at x (Head zs ∷ rest) (suc g) (suc h) xs ys apart e f = omega (arith, two_at x rest g h xs ys (λ same. apart (ap (λ n. suc n) same)) e f)

times_at : (x k : ℕ) (xs : List ℕ) → slice_get xs k ≡ Some x → 1 ≤ times_among x xs
times_at x k [] e = absurd (cc)
times_at x zero (y ∷ ys) e = let same : y ≡ x = cc in grind (arith, nat_tests, eqb_tells y x)
times_at x (suc k) (y ∷ ys) e = omega (arith, times_at x k ys e)

member_link_at : (sets : List Linkage) (x : ℕ) (b : Bool) → is_link_at sets x ≡ b → (times_in x sets ≡ 0 → ⊥)
    → IsProper sets → b ≡ true
member_link_at sets x true link some proper = refl
member_link_at sets x false link some proper = absurd (some (proper-none sets x proper (λ is. absurd (cc))))

-- a member of a set is a link that was made
pub member_link : (sets : List Linkage) (h k x : ℕ) → IsProper sets → is_head_at sets h ≡ true
    → slice_get (links_of sets h) k ≡ Some x → is_link_at sets x ≡ true
member_link sets h k x proper is e = member_link_at sets x (is_link_at sets x) refl (λ none. omega (arith, times_at x k (links_of sets h) e, times_in-at x sets h (links_of sets h) (list_of_head sets h is), none)) proper

pub member_made : (sets : List Linkage) (h k x : ℕ) → IsProper sets → is_head_at sets h ≡ true
    → slice_get (links_of sets h) k ≡ Some x → x < length sets
member_made sets h k x proper is e = is_link_at-made sets x (member_link sets h k x proper is e)

-- the others' lists have no member of this one
pub member_alone : (sets : List Linkage) (h k x g : ℕ) (xs : List ℕ) → IsProper sets → is_head_at sets h ≡ true
    → slice_get (links_of sets h) k ≡ Some x → slice_get sets g ≡ Some (Head xs) → g ≢ h → times_among x xs ≡ 0
member_alone sets h k x g xs proper is e list apart =
    omega (arith, times_at x k (links_of sets h) e, two_at x sets g h xs (links_of sets h) apart list (list_of_head sets h is), proper-once sets x proper)

-- ---- the next one along a list

pub first_is : (xs : List ℕ) → first xs ≡ slice_get xs 0
first_is [] = refl
first_is (x ∷ xs) = refl

after-at_more : (x k y : ℕ) (ys : List ℕ) → 1 ≤ times_among x ys → times_among x (y ∷ ys) ≤ 1
    → (times_among x ys ≤ 1 → after x ys ≡ slice_get ys (suc k)) → after x (y ∷ ys) ≡ slice_get ys (suc k)
after-at_more x k y ys some once rest = grind (arith, nat_tests, eqb_tells y x, rest (omega arith))

after-at : (x k : ℕ) (xs : List ℕ) → slice_get xs k ≡ Some x → times_among x xs ≤ 1
    → after x xs ≡ slice_get xs (suc k)
after-at x k [] e once = absurd (cc)
after-at x zero (y ∷ ys) e once = let same : y ≡ x = cc in rw same (grind (arith, nat_tests, eqb_tells x x, first_is ys))
after-at x (suc k) (y ∷ ys) e once = after-at_more x k y ys (times_at x k ys e) once (after-at x k ys e)

head_found_at : (sets : List Linkage) (h k x g : ℕ) → IsProper sets → is_head_at sets h ≡ true
    → slice_get (links_of sets h) k ≡ Some x → StandsIn x 0 sets g → (g ≡ h) ⊎ (g ≡ h → ⊥) → Some g ≡ Some h
head_found_at sets h k x g proper is e s (inl same) = ap (λ n. Some n) same
head_found_at sets h k x g proper is e s (inr apart) =
    let same : g ≡ s.at = omega (arith, s.number) in
    absurd (s.there (member_alone sets h k x s.at s.links proper is e s.list (λ here. apart (same ∙ here))))

head_found : (sets : List Linkage) (h k x : ℕ) (o : Option ℕ) → IsProper sets → is_head_at sets h ≡ true
    → slice_get (links_of sets h) k ≡ Some x → head_from x 0 sets ≡ o → o ≡ Some h
head_found sets h k x None proper is e found =
    absurd (omega (arith, head_from-none x 0 sets found, times_at x k (links_of sets h) e, times_in-at x sets h (links_of sets h) (list_of_head sets h is)))
head_found sets h k x (Some g) proper is e found = head_found_at sets h k x g proper is e (head_from-some x 0 sets g found) (cases_eq g h)

pub suc_of-along : (sets : List Linkage) (h k x : ℕ) → IsProper sets → is_head_at sets h ≡ true
    → slice_get (links_of sets h) k ≡ Some x → suc_of sets x ≡ slice_get (links_of sets h) (suc k)
unfolding suc_of head_of
suc_of-along sets h k x proper is e =
    let link : is_link_at sets x ≡ true = member_link sets h k x proper is e in
    let no_head : is_head_at sets x ≡ false = ap is_head (link_of (slice_get sets x) link) in
    rw no_head (ap (next_link sets x) (head_found sets h k x (head_from x 0 sets) proper is e refl)
    ∙ after-at x k (links_of sets h) e (omega (arith, times_in-at x sets h (links_of sets h) (list_of_head sets h is), proper-once sets x proper)))

pub suc_of-head : (sets : List Linkage) (h : ℕ) → is_head_at sets h ≡ true
    → suc_of sets h ≡ slice_get (links_of sets h) 0
unfolding suc_of head_of
suc_of-head sets h is = rw is (first_is (links_of sets h))

pub none_past : (xs : List ℕ) (k : ℕ) → slice_get xs k ≡ None → length xs ≤ k
none_past [] k e = omega arith
none_past (x ∷ xs) zero e = absurd (cc)
none_past (x ∷ xs) (suc k) e = omega (arith, none_past xs k e)

-- ---- clearing

emptied_list : (h k : ℕ) (xs : List ℕ) → (k ≡ h → xs ≡ []) → (k ≡ h) ⊎ (k ≡ h → ⊥) → emptied h k xs ≡ xs
emptied_list h k xs empty (inl same) = let none : xs ≡ [] = empty same in rw none (grind (arith, nat_tests, eqb_tells k h))
emptied_list h k xs empty (inr apart) = grind (arith, nat_tests, eqb_tells k h)

emptied_without : (h x k : ℕ) (xs : List ℕ) → (k ≢ h → times_among x xs ≡ 0) → (k ≡ h) ⊎ (k ≡ h → ⊥)
    → emptied h k (without x xs) ≡ emptied h k xs
emptied_without h x k xs none (inl same) = grind (arith, nat_tests, eqb_tells k h)
emptied_without h x k xs none (inr apart) = ap (emptied h k) (without-absent x xs (none apart))

empty_list : (xs : List ℕ) → slice_get xs 0 ≡ None → xs ≡ []
empty_list [] e = refl
empty_list (x ∷ xs) e = absurd (cc)

list_empty : (sets : List Linkage) (h i : ℕ) (xs : List ℕ) → slice_get (links_of sets h) 0 ≡ None
    → slice_get sets i ≡ Some (Head xs) → i ≡ h → slice_get xs 0 ≡ None
list_empty sets h i xs e list same =
    let P : ℕ → Type 0 = λ n. slice_get (links_of sets n) 0 ≡ None in
    let there : slice_get (links_of sets i) 0 ≡ None = subst P (sym same) e in
    ap (λ (ys : List ℕ). slice_get ys 0) (sym (ap links_in list)) ∙ there

emptied_same : (h k : ℕ) (sets : List Linkage)
    → ((i : ℕ) (xs : List ℕ) → slice_get sets i ≡ Some (Head xs) → k + i ≡ h → xs ≡ [])
    → each_from (emptied h) k sets ≡ sets
emptied_same h k [] empty = refl
emptied_same h k (Link ∷ rest) empty = ap (λ s. Link ∷ s) (emptied_same h (k + 1) rest (λ i xs e same. empty (suc i) xs e (omega arith)))
emptied_same h k (Head xs ∷ rest) empty =
    ap (λ ys. Head ys ∷ each_from (emptied h) (k + 1) rest) (emptied_list h k xs (λ same. empty 0 xs refl (omega arith)) (cases_eq k h))
    ∙ ap (λ s. Head xs ∷ s) (emptied_same h (k + 1) rest (λ i ys e same. empty (suc i) ys e (omega arith)))

emptied_out : (h x k : ℕ) (sets : List Linkage)
    → ((i : ℕ) (xs : List ℕ) → slice_get sets i ≡ Some (Head xs) → k + i ≢ h → times_among x xs ≡ 0)
    → each_from (emptied h) k (each_from (λ _ xs. without x xs) k sets) ≡ each_from (emptied h) k sets
emptied_out h x k [] others = refl
emptied_out h x k (Link ∷ rest) others = ap (λ s. Link ∷ s) (emptied_out h x (k + 1) rest (λ i xs e apart. others (suc i) xs e (λ same. apart (omega arith))))
emptied_out h x k (Head xs ∷ rest) others =
    ap (λ ys. Head ys ∷ each_from (emptied h) (k + 1) (each_from (λ _ ys. without x ys) (k + 1) rest)) (emptied_without h x k xs (λ apart. others 0 xs refl (λ same. apart (omega arith))) (cases_eq k h))
    ∙ ap (λ s. Head (emptied h k xs) ∷ s) (emptied_out h x (k + 1) rest (λ i ys e apart. others (suc i) ys e (λ same. apart (omega arith))))

pub clear-out : (sets : List Linkage) (h x : ℕ) → IsProper sets → is_head_at sets h ≡ true
    → slice_get (links_of sets h) 0 ≡ Some x → clear (out sets x) h ≡ clear sets h
unfolding clear out
clear-out sets h x proper is e = emptied_out h x 0 sets (λ i xs list apart. member_alone sets h 0 x i xs proper is e list (λ same. apart (omega arith)))

pub clear-empty : (sets : List Linkage) (h : ℕ) → slice_get (links_of sets h) 0 ≡ None → clear sets h ≡ sets
unfolding clear
clear-empty sets h e = emptied_same h 0 sets (λ i xs list same. empty_list xs (list_empty sets h i xs e list (omega arith)))

pub links_of-out : (sets : List Linkage) (h x : ℕ) → is_head_at sets h ≡ true
    → links_of (out sets x) h ≡ without x (links_of sets h)
unfolding out
links_of-out sets h x is = ap links_in (get-each_from (λ _ xs. without x xs) 0 sets h h (omega arith) ∙ ap (changed (without x)) (list_of_head sets h is))

-- one link less in the set
pub fewer : (sets : List Linkage) (h x : ℕ) → is_head_at sets h ≡ true → slice_get (links_of sets h) 0 ≡ Some x
    → length (links_of (out sets x) h) < length (links_of sets h)
fewer sets h x is e = rw (links_of-out sets h x is) (omega (arith, length-without x (links_of sets h), times_at x 0 (links_of sets h) e))
