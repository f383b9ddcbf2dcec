-- laws over the definitions: what stands where after a change
use Rattle.std.proofs.Common.{◌≡◌, ◌≢◌, ℕ, ◌+◌, ◌<◌, ◌≤◌, List, [], ◌∷◌, ◌++◌, length, arith, if◌then◌else◌, Bool, true, false, refl, ap, ◌∙◌, subst, ◌⊎◌, inl, inr}
use Rattle.std.specs.Prelude.{slice_get, Option, Some, None}
use Rattle.std.proofs.lemmas.Bool.Decides.{nat_tests, eqb_tells}
use Rattle.std.proofs.lemmas.Bool.{cases_eq}
use Rattle.simset.specs.Sets.{Linkage, Link, Head, times_among, times_in, places_from, insert_after, insert_before, each_from, is_head, is_link_at, is_head_at, links_in, links_of, put_after, put_before, put_last, emptied, first, last_or, after, before_or, next_link, link_before, head_from, head_of, suc_of, pred_of, cardinal_of, out, clear, IsProper}
use Rattle.simset.proofs.Stepwise.{follow, precede, into}
use Rattle.simset.proofs.Lists.{times-insert_after, times-insert_before}
use Rattle.simset.proofs.Changes.{changed, get-each_from, is_link_at-each_from, is_head_at-each_from, times_in-out_other, PutsBeside, puts-after, puts-before, places_from-head, places_from-link}
use Rattle.simset.proofs.Walks.{times_in-at, proper-once, proper-none}
use Rattle.simset.proofs.Keeps.{head_no_link, head_nowhere, link_of, proper-out, proper-put, unplaced, put_after-other, put_before-other, put_after-head, put_before-head}
use Rattle.simset.proofs.Neighbours.{StandsIn, head_from-none, head_from-some}
use Rattle.simset.proofs.Effects.{is_link_at-out, is_head_at-out, times_in-out, put_after-nowhere, put_before-nowhere, put_before-last, two_at, list_of_head}

-- ---- in one set

places_at_most_one : (sets : List Linkage) (p : ℕ) (b : Bool) → IsProper sets → is_head_at sets p ≡ b
    → places_from p 0 sets ≤ 1
places_at_most_one sets p true proper is = omega (arith, places_from-head p 0 p sets (omega arith) is (head_nowhere sets p proper is))
places_at_most_one sets p false proper is = omega (arith, places_from-link p 0 p sets (omega arith) is, proper-once sets p proper)

proper-put_out : (sets : List Linkage) (change : ℕ → List ℕ → List ℕ) (x p : ℕ) → PutsBeside change x p
    → IsProper sets → is_link_at sets x ≡ true → IsProper (each_from change 0 (out sets x))
proper-put_out sets change x p puts proper link =
    let still : IsProper (out sets x) = proper-out sets x proper in
    proper-put (out sets x) change x p puts still (rw is_link_at-out link) (times_in-out sets x) (places_at_most_one (out sets x) p (is_head_at (out sets x) p) still refl)

pub proper-follow : (sets : List Linkage) (x : ℕ) (p : Option ℕ) → IsProper sets → is_link_at sets x ≡ true
    → IsProper (follow sets x p)
unfolding follow
proper-follow sets x None proper link = proper-out sets x proper
proper-follow sets x (Some p) proper link = proper-put_out sets (put_after x p) x p (puts-after x p) proper link

pub proper-precede : (sets : List Linkage) (x : ℕ) (p : Option ℕ) → IsProper sets → is_link_at sets x ≡ true
    → IsProper (precede sets x p)
unfolding precede
proper-precede sets x None proper link = proper-out sets x proper
proper-precede sets x (Some p) proper link = proper-put_out sets (put_before x p) x p (puts-before x p) proper link

pub proper-into : (sets : List Linkage) (x h : ℕ) → IsProper sets → is_link_at sets x ≡ true
    → is_head_at sets h ≡ true → IsProper (into sets x (Some h))
unfolding into
proper-into sets x h proper link head =
    let nowhere : times_in h (out sets x) ≡ 0 = head_nowhere (out sets x) h (proper-out sets x proper) (rw is_head_at-out head) in
    subst IsProper (put_before-last x h 0 (out sets x) nowhere) (proper-put_out sets (put_before x h) x h (puts-before x h) proper link)

times_in-emptied : (z h k : ℕ) (sets : List Linkage) → times_in z (each_from (emptied h) k sets) ≤ times_in z sets
times_in-emptied z h k [] = omega arith
times_in-emptied z h k (Link ∷ rest) = times_in-emptied z h (k + 1) rest
times_in-emptied z h k (Head xs ∷ rest) = grind (arith, nat_tests, eqb_tells k h, times_in-emptied z h (k + 1) rest)

below : (m n : ℕ) (b : Bool) → m ≤ n → n ≤ (if b then 1 else 0) → m ≤ (if b then 1 else 0)
below m n true le h = omega arith
below m n false le h = omega arith

pub proper-clear : (sets : List Linkage) (h : ℕ) → IsProper sets → IsProper (clear sets h)
unfolding clear
proper-clear sets h proper x = rw (is_link_at-each_from (emptied h) sets x) (below (times_in x (each_from (emptied h) 0 sets)) (times_in x sets) (is_link_at sets x) (times_in-emptied x h 0 sets) (proper x))

-- ---- outside

unplaced_out : (sets : List Linkage) (x p : ℕ) → is_link_at sets p ≡ true → times_in p (out sets x) ≡ 0
    → places_from p 0 (out sets x) ≡ 0
unplaced_out sets x p link nowhere = unplaced (out sets x) p (rw is_link_at-out link) nowhere

pub times_in-out_other_link : (sets : List Linkage) (x p : ℕ) → p ≢ x → times_in p (out sets x) ≡ times_in p sets
unfolding out
times_in-out_other_link sets x p other = times_in-out_other p x 0 sets other

nowhere_out : (sets : List Linkage) (x p : ℕ) → times_in p sets ≡ 0 → (p ≡ x) ⊎ (p ≡ x → ⊥)
    → times_in p (out sets x) ≡ 0
nowhere_out sets x p nowhere (inl same) = rw same (times_in-out sets x)
nowhere_out sets x p nowhere (inr other) = times_in-out_other_link sets x p other ∙ nowhere

pub follow-itself : (sets : List Linkage) (x : ℕ) → is_link_at sets x ≡ true → follow sets x (Some x) ≡ out sets x
unfolding follow
follow-itself sets x link = put_after-nowhere x x 0 (out sets x) (unplaced_out sets x x link (times_in-out sets x))

pub precede-itself : (sets : List Linkage) (x : ℕ) → is_link_at sets x ≡ true → precede sets x (Some x) ≡ out sets x
unfolding precede
precede-itself sets x link = put_before-nowhere x x 0 (out sets x) (unplaced_out sets x x link (times_in-out sets x))

pub follow-outside : (sets : List Linkage) (x p : ℕ) → is_link_at sets p ≡ true → times_in p sets ≡ 0
    → follow sets x (Some p) ≡ out sets x
unfolding follow
follow-outside sets x p link nowhere = put_after-nowhere x p 0 (out sets x) (unplaced_out sets x p link (nowhere_out sets x p nowhere (cases_eq p x)))

pub precede-outside : (sets : List Linkage) (x p : ℕ) → is_link_at sets p ≡ true → times_in p sets ≡ 0
    → precede sets x (Some p) ≡ out sets x
unfolding precede
precede-outside sets x p link nowhere = put_before-nowhere x p 0 (out sets x) (unplaced_out sets x p link (nowhere_out sets x p nowhere (cases_eq p x)))

-- ---- at the ends

pub links_of-put : (sets : List Linkage) (change : ℕ → List ℕ → List ℕ) (x h : ℕ) → is_head_at sets h ≡ true
    → links_of (each_from change 0 (out sets x)) h ≡ change h (links_of (out sets x) h)
links_of-put sets change x h head =
    ap links_in (get-each_from change 0 (out sets x) h h (omega arith) ∙ ap (changed (change h)) (list_of_head (out sets x) h (rw is_head_at-out head)))

head_put : (sets : List Linkage) (change : ℕ → List ℕ → List ℕ) (x h : ℕ) → is_head_at sets h ≡ true
    → is_head_at (each_from change 0 (out sets x)) h ≡ true
head_put sets change x h head = rw (is_head_at-each_from change (out sets x) h, is_head_at-out) head

pub suc_of-at_head : (sets : List Linkage) (h : ℕ) → is_head_at sets h ≡ true
    → suc_of sets h ≡ first (links_of sets h)
unfolding suc_of
suc_of-at_head sets h head = rw head refl

pub pred_of-at_head : (sets : List Linkage) (h : ℕ) → is_head_at sets h ≡ true
    → pred_of sets h ≡ last_or None (links_of sets h)
unfolding pred_of
pred_of-at_head sets h head = rw head refl

pub last_or-push : (d : Option ℕ) (xs : List ℕ) (x : ℕ) → last_or d (xs ++ x ∷ []) ≡ Some x
last_or-push d [] x = refl
last_or-push d (y ∷ ys) x = last_or-push (Some y) ys x

put_last-head : (x p : ℕ) (xs : List ℕ) → put_last x p p xs ≡ xs ++ x ∷ []
put_last-head x p xs = grind (arith, nat_tests, eqb_tells p p)

pub follow-first : (sets : List Linkage) (x h : ℕ) → is_head_at sets h ≡ true
    → suc_of (follow sets x (Some h)) h ≡ Some x
unfolding follow
follow-first sets x h head =
    suc_of-at_head _ h (head_put sets (put_after x h) x h head) ∙ ap first (links_of-put sets (put_after x h) x h head ∙ put_after-head x h (links_of (out sets x) h))

pub precede-last : (sets : List Linkage) (x h : ℕ) → is_head_at sets h ≡ true
    → pred_of (precede sets x (Some h)) h ≡ Some x
unfolding precede
precede-last sets x h head =
    pred_of-at_head _ h (head_put sets (put_before x h) x h head)
    ∙ ap (last_or None) (links_of-put sets (put_before x h) x h head ∙ put_before-head x h (links_of (out sets x) h))
    ∙ last_or-push None (links_of (out sets x) h) x

pub into-last : (sets : List Linkage) (x h : ℕ) → is_head_at sets h ≡ true → pred_of (into sets x (Some h)) h ≡ Some x
unfolding into
into-last sets x h head =
    pred_of-at_head _ h (head_put sets (put_last x h) x h head)
    ∙ ap (last_or None) (links_of-put sets (put_last x h) x h head ∙ put_last-head x h (links_of (out sets x) h))
    ∙ last_or-push None (links_of (out sets x) h) x

links_in-emptied : (h : ℕ) (o : Option Linkage) → links_in (changed (emptied h h) o) ≡ []
links_in-emptied h None = refl
links_in-emptied h (Some Link) = refl
links_in-emptied h (Some (Head xs)) = grind (arith, nat_tests, eqb_tells h h)

pub cardinal_of-clear : (sets : List Linkage) (h : ℕ) → cardinal_of (clear sets h) h ≡ 0
unfolding cardinal_of clear
cardinal_of-clear sets h = ap length (ap links_in (get-each_from (emptied h) 0 sets h h (omega arith)) ∙ links_in-emptied h (slice_get sets h))

-- ---- beside a link

stands_at_one : (x : ℕ) (sets : List Linkage) (i : ℕ) (ys : List ℕ) (g : ℕ) → IsProper sets
    → slice_get sets i ≡ Some (Head ys) → (times_among x ys ≡ 0 → ⊥) → StandsIn x 0 sets g → (g ≡ i) ⊎ (g ≡ i → ⊥)
    → Some g ≡ Some i
stands_at_one x sets i ys g proper list there s (inl same) = ap (λ n. Some n) same
stands_at_one x sets i ys g proper list there s (inr apart) =
    let here : s.at ≢ i = λ same. apart (omega (arith, s.number)) in
    absurd (grind (arith, two_at x sets s.at i s.links ys here s.list list, proper-once sets x proper, there, s.there))

stands_at : (x : ℕ) (sets : List Linkage) (i : ℕ) (ys : List ℕ) (o : Option ℕ) → IsProper sets
    → slice_get sets i ≡ Some (Head ys) → (times_among x ys ≡ 0 → ⊥) → head_from x 0 sets ≡ o → o ≡ Some i
stands_at x sets i ys None proper list there e =
    let none : times_in x sets ≡ 0 = head_from-none x 0 sets e in
    let absent : times_among x ys ≡ 0 = omega (arith, times_in-at x sets i ys list) in
    absurd (there absent)
stands_at x sets i ys (Some g) proper list there e = stands_at_one x sets i ys g proper list there (head_from-some x 0 sets g e) (cases_eq g i)

suc_at_list : (sets : List Linkage) (z i : ℕ) (ys : List ℕ) → IsProper sets → slice_get sets i ≡ Some (Head ys)
    → is_link_at sets z ≡ true → (times_among z ys ≡ 0 → ⊥) → suc_of sets z ≡ after z ys
unfolding suc_of head_of
suc_at_list sets z i ys proper list link there =
    let no_head : is_head_at sets z ≡ false = ap is_head (link_of (slice_get sets z) link) in
    rw no_head (ap (next_link sets z) (stands_at z sets i ys (head_from z 0 sets) proper list there refl) ∙ ap (λ o. after z (links_in o)) list)

pred_at_list : (sets : List Linkage) (z i : ℕ) (ys : List ℕ) → IsProper sets → slice_get sets i ≡ Some (Head ys)
    → is_link_at sets z ≡ true → (times_among z ys ≡ 0 → ⊥) → pred_of sets z ≡ before_or None z ys
unfolding pred_of head_of
pred_at_list sets z i ys proper list link there =
    let no_head : is_head_at sets z ≡ false = ap is_head (link_of (slice_get sets z) link) in
    rw no_head (ap (link_before sets z) (stands_at z sets i ys (head_from z 0 sets) proper list there refl) ∙ ap (λ o. before_or None z (links_in o)) list)

-- the list in which p stands when x is out
record Place (sets : List Linkage) (x p : ℕ) : Type 0 where
  at : ℕ
  links : List ℕ
  list : slice_get (out sets x) at ≡ Some (Head links)
  there : times_among p links ≡ 0 → ⊥
  outside : times_among x links ≡ 0
  apart : at ≢ p
  link : is_link_at sets p ≡ true

some_is_link : (sets : List Linkage) (p : ℕ) (b : Bool) → IsProper sets → 0 < times_in p sets → is_link_at sets p ≡ b
    → b ≡ true
some_is_link sets p true proper some is = refl
some_is_link sets p false proper some is = let none : times_in p sets ≡ 0 = proper-none sets p proper (λ link. cc) in absurd (omega arith)

place_from : (sets : List Linkage) (x p : ℕ) (o : Option ℕ) → IsProper sets → p ≢ x → 0 < times_in p sets
    → head_from p 0 (out sets x) ≡ o → Place sets x p
place_from sets x p None proper other some e = absurd (omega (arith, head_from-none p 0 (out sets x) e, times_in-out_other_link sets x p other))
place_from sets x p (Some h) proper other some e =
    let s : StandsIn p 0 (out sets x) h = head_from-some p 0 (out sets x) h e in
    let link : is_link_at sets p ≡ true = some_is_link sets p (is_link_at sets p) proper some refl in
    record {
      at = s.at;
      links = s.links;
      list = s.list;
      there = s.there;
      outside = omega (arith, times_in-at x (out sets x) s.at s.links s.list, times_in-out sets x);
      apart = λ same. head_no_link (slice_get (out sets x) p) (let P : ℕ → Type 0 = λ n. is_head_at (out sets x) n ≡ true in subst P same (ap is_head s.list)) (rw is_link_at-out link);
      link = link;
    }

place_of : (sets : List Linkage) (x p : ℕ) → IsProper sets → p ≢ x → 0 < times_in p sets → Place sets x p
place_of sets x p proper other some = place_from sets x p (head_from p 0 (out sets x)) proper other some refl

more_there : (p y : ℕ) (ys : List ℕ) → (times_among p (y ∷ ys) ≡ 0 → ⊥) → y ≢ p → times_among p ys ≡ 0 → ⊥
more_there p y ys there other none = there (grind (arith, nat_tests, eqb_tells y p))

after-insert_after_at : (x p y : ℕ) (ys : List ℕ) → (times_among p (y ∷ ys) ≡ 0 → ⊥) → (y ≡ p) ⊎ (y ≡ p → ⊥)
    → ((times_among p ys ≡ 0 → ⊥) → after p (insert_after x p ys) ≡ Some x)
    → after p (insert_after x p (y ∷ ys)) ≡ Some x
after-insert_after_at x p y ys there (inl same) rest = rw same (grind (arith, nat_tests, eqb_tells p p))
after-insert_after_at x p y ys there (inr other) rest = grind (arith, nat_tests, eqb_tells y p, rest (more_there p y ys there other))

before-insert_after_at : (d : Option ℕ) (x p y : ℕ) (ys : List ℕ) → p ≢ x → times_among x (y ∷ ys) ≡ 0
    → (times_among p (y ∷ ys) ≡ 0 → ⊥) → (y ≡ p) ⊎ (y ≡ p → ⊥)
    → ((times_among p ys ≡ 0 → ⊥) → before_or (Some y) x (insert_after x p ys) ≡ Some p)
    → before_or d x (insert_after x p (y ∷ ys)) ≡ Some p
before-insert_after_at d x p y ys other none there (inl same) rest = rw same (grind (arith, nat_tests, eqb_tells p p, eqb_tells p x, eqb_tells x x, other))
before-insert_after_at d x p y ys other none there (inr apart) rest = grind (arith, nat_tests, eqb_tells y p, eqb_tells y x, rest (more_there p y ys there apart))

after-insert_before_at : (x p y : ℕ) (ys : List ℕ) → p ≢ x → times_among x (y ∷ ys) ≡ 0
    → (times_among p (y ∷ ys) ≡ 0 → ⊥) → (y ≡ p) ⊎ (y ≡ p → ⊥)
    → ((times_among p ys ≡ 0 → ⊥) → after x (insert_before x p ys) ≡ Some p)
    → after x (insert_before x p (y ∷ ys)) ≡ Some p
after-insert_before_at x p y ys other none there (inl same) rest = rw same (grind (arith, nat_tests, eqb_tells p p, eqb_tells x x))
after-insert_before_at x p y ys other none there (inr apart) rest = grind (arith, nat_tests, eqb_tells y p, eqb_tells y x, rest (more_there p y ys there apart))

before-insert_before_at : (d : Option ℕ) (x p y : ℕ) (ys : List ℕ) → p ≢ x → (times_among p (y ∷ ys) ≡ 0 → ⊥)
    → (y ≡ p) ⊎ (y ≡ p → ⊥) → ((times_among p ys ≡ 0 → ⊥) → before_or (Some y) p (insert_before x p ys) ≡ Some x)
    → before_or d p (insert_before x p (y ∷ ys)) ≡ Some x
before-insert_before_at d x p y ys other there (inl same) rest = rw same (grind (arith, nat_tests, eqb_tells p p, eqb_tells x p, other))
before-insert_before_at d x p y ys other there (inr apart) rest = grind (arith, nat_tests, eqb_tells y p, rest (more_there p y ys there apart))

after-insert_after : (x p : ℕ) (xs : List ℕ) → (times_among p xs ≡ 0 → ⊥) → after p (insert_after x p xs) ≡ Some x
after-insert_after x p [] there = absurd (there refl)
after-insert_after x p (y ∷ ys) there = after-insert_after_at x p y ys there (cases_eq y p) (λ more. after-insert_after x p ys more)

before-insert_after : (d : Option ℕ) (x p : ℕ) (xs : List ℕ) → p ≢ x → times_among x xs ≡ 0
    → (times_among p xs ≡ 0 → ⊥) → before_or d x (insert_after x p xs) ≡ Some p
before-insert_after d x p [] other none there = absurd (there refl)
before-insert_after d x p (y ∷ ys) other none there = before-insert_after_at d x p y ys other none there (cases_eq y p) (λ more. before-insert_after (Some y) x p ys other (omega arith) more)

after-insert_before : (x p : ℕ) (xs : List ℕ) → p ≢ x → times_among x xs ≡ 0 → (times_among p xs ≡ 0 → ⊥)
    → after x (insert_before x p xs) ≡ Some p
after-insert_before x p [] other none there = absurd (there refl)
after-insert_before x p (y ∷ ys) other none there = after-insert_before_at x p y ys other none there (cases_eq y p) (λ more. after-insert_before x p ys other (omega arith) more)

before-insert_before : (d : Option ℕ) (x p : ℕ) (xs : List ℕ) → p ≢ x → (times_among p xs ≡ 0 → ⊥)
    → before_or d p (insert_before x p xs) ≡ Some x
before-insert_before d x p [] other there = absurd (there refl)
before-insert_before d x p (y ∷ ys) other there = before-insert_before_at d x p y ys other there (cases_eq y p) (λ more. before-insert_before (Some y) x p ys other more)

-- the list in which p stands after the change
list_put : (sets : List Linkage) (change : ℕ → List ℕ → List ℕ) (x p : ℕ) (place : Place sets x p)
    → slice_get (each_from change 0 (out sets x)) place.at ≡ Some (Head (change place.at place.links))
list_put sets change x p place = get-each_from change 0 (out sets x) place.at place.at (omega arith) ∙ ap (changed (change place.at)) place.list

link_put : (sets : List Linkage) (change : ℕ → List ℕ → List ℕ) (x z : ℕ) → is_link_at sets z ≡ true
    → is_link_at (each_from change 0 (out sets x)) z ≡ true
link_put sets change x z link = rw (is_link_at-each_from change (out sets x) z, is_link_at-out) link

list_after : (sets : List Linkage) (x p : ℕ) (place : Place sets x p)
    → slice_get (each_from (put_after x p) 0 (out sets x)) place.at ≡ Some (Head (insert_after x p place.links))
list_after sets x p place = list_put sets (put_after x p) x p place ∙ ap (λ ys. Some (Head ys)) (put_after-other x p place.at place.links place.apart)

list_before : (sets : List Linkage) (x p : ℕ) (place : Place sets x p)
    → slice_get (each_from (put_before x p) 0 (out sets x)) place.at ≡ Some (Head (insert_before x p place.links))
list_before sets x p place = list_put sets (put_before x p) x p place ∙ ap (λ ys. Some (Head ys)) (put_before-other x p place.at place.links place.apart)

pub suc_of-follow : (sets : List Linkage) (x p : ℕ) → IsProper sets → is_link_at sets x ≡ true → p ≢ x
    → 0 < times_in p sets → suc_of (follow sets x (Some p)) p ≡ Some x
unfolding follow
suc_of-follow sets x p proper link other some =
    let place : Place sets x p = place_of sets x p proper other some in
    suc_at_list _ p place.at (insert_after x p place.links) (proper-put_out sets (put_after x p) x p (puts-after x p) proper link) (list_after sets x p place) (link_put sets (put_after x p) x p place.link)
    (λ none. place.there (grind (arith, nat_tests, times-insert_after p x p place.links)))
    ∙ after-insert_after x p place.links place.there

pub pred_of-follow : (sets : List Linkage) (x p : ℕ) → IsProper sets → is_link_at sets x ≡ true → p ≢ x
    → 0 < times_in p sets → pred_of (follow sets x (Some p)) x ≡ Some p
unfolding follow
pred_of-follow sets x p proper link other some =
    let place : Place sets x p = place_of sets x p proper other some in
    pred_at_list _ x place.at (insert_after x p place.links) (proper-put_out sets (put_after x p) x p (puts-after x p) proper link) (list_after sets x p place) (link_put sets (put_after x p) x x link)
    (λ none. place.there (grind (arith, nat_tests, eqb_tells x x, times-insert_after x x p place.links)))
    ∙ before-insert_after None x p place.links other place.outside place.there

pub pred_of-precede : (sets : List Linkage) (x p : ℕ) → IsProper sets → is_link_at sets x ≡ true → p ≢ x
    → 0 < times_in p sets → pred_of (precede sets x (Some p)) p ≡ Some x
unfolding precede
pred_of-precede sets x p proper link other some =
    let place : Place sets x p = place_of sets x p proper other some in
    pred_at_list _ p place.at (insert_before x p place.links) (proper-put_out sets (put_before x p) x p (puts-before x p) proper link) (list_before sets x p place) (link_put sets (put_before x p) x p place.link)
    (λ none. place.there (grind (arith, nat_tests, times-insert_before p x p place.links)))
    ∙ before-insert_before None x p place.links other place.there

pub suc_of-precede : (sets : List Linkage) (x p : ℕ) → IsProper sets → is_link_at sets x ≡ true → p ≢ x
    → 0 < times_in p sets → suc_of (precede sets x (Some p)) x ≡ Some p
unfolding precede
suc_of-precede sets x p proper link other some =
    let place : Place sets x p = place_of sets x p proper other some in
    suc_at_list _ x place.at (insert_before x p place.links) (proper-put_out sets (put_before x p) x p (puts-before x p) proper link) (list_before sets x p place) (link_put sets (put_before x p) x x link)
    (λ none. place.there (grind (arith, nat_tests, eqb_tells x x, times-insert_before x x p place.links)))
    ∙ after-insert_before x p place.links other place.outside place.there
