-- each change of the nodes keeps the sets of the definitions
use Rattle.std.proofs.Common.{◌≡◌, ◌≢◌, ℕ, ◌<◌, ◌≤◌, List, [], ◌∷◌, ◌++◌, length, arith, if◌then◌else◌, true, false, refl, ap, ◌∙◌, sym, subst, ◌⊎◌, inl, inr}
use Rattle.std.specs.Prelude.{slice_get, Option, Some, None}
use Rattle.std.proofs.lemmas.Bool.Decides.{nat_tests, eqb_tells}
use Rattle.std.proofs.lemmas.Bool.{cases_eq}
use Rattle.simset.specs.declared.rings.Node.{Node}
use Rattle.simset.specs.Sets.{Linkage, Link, Head, times_among, times_in, without, insert_after, insert_before, each_from, is_link, is_head, is_link_at, is_head_at, put_after, put_before, places_from, out, IsProper}
use Rattle.simset.specs.Nodes.{head_at, next_at, previous_at, IsNext, Links, HoldsLinkage, IsJoined, KeepsSets, IsTakenOut, IsPutBehind, sets_of}
use Rattle.simset.proofs.Changes.{length-each_from, changed, get-each_from, is_link_at-each_from, times_in-out_same, times_in-out_other, PutsBeside, puts-after, puts-before, times_in-put, places_from-link}
use Rattle.simset.proofs.Walks.{times_in-at, is_link_at-made, proper-once, proper-none, sets_of-kept}
use Rattle.simset.proofs.Joins.{Links-without, joined_when_out, joined_when_put, Grown, Links-insert_after, Links-insert_before, Links-push}

-- ---- where a number stands

pub link_of : (o : Option Linkage) → is_link o ≡ true → o ≡ Some Link
link_of None h = absurd (cc)
link_of (Some Link) h = refl
link_of (Some (Head xs)) h = absurd (cc)

pub link_node : (nodes : List Node) (sets : List Linkage) (x : ℕ) → KeepsSets nodes sets → is_link_at sets x ≡ true
    → head_at nodes x ≡ false
link_node nodes sets x kept h = kept.held x Link (link_of (slice_get sets x) h)

link_no_head : (o : Option Linkage) → is_link o ≡ true → is_head o ≡ false
link_no_head None h = absurd (cc)
link_no_head (Some Link) h = refl
link_no_head (Some (Head xs)) h = absurd (cc)

pub head_no_link : (o : Option Linkage) → is_head o ≡ true → is_link o ≡ true → ⊥
head_no_link None h l = cc
head_no_link (Some Link) h l = cc
head_no_link (Some (Head xs)) h l = cc

-- a head is no link
apart_from_link : (sets : List Linkage) (x h : ℕ) (xs : List ℕ) → is_link_at sets x ≡ true
    → slice_get sets h ≡ Some (Head xs) → h ≢ x
apart_from_link sets x h xs link e same = head_no_link (slice_get sets x) (let P : ℕ → Type 0 = λ n. is_head (slice_get sets n) ≡ true in subst P same (rw e refl)) link

-- a head stands in no set
pub head_nowhere : (sets : List Linkage) (h : ℕ) → IsProper sets → is_head_at sets h ≡ true → times_in h sets ≡ 0
head_nowhere sets h proper head = proper-none sets h proper (λ link. head_no_link (slice_get sets h) head link)

-- ---- what each node holds after a change

changed_back : (o : Option Linkage) (change : List ℕ → List ℕ) (P : Linkage → Type 0) → (o ≡ Some Link → P Link)
    → ((xs : List ℕ) → o ≡ Some (Head xs) → P (Head (change xs))) → (linkage : Linkage)
    → changed change o ≡ Some linkage → P linkage
changed_back None change P link head linkage e = absurd (cc)
changed_back (Some Link) change P link head linkage e = let same : Link ≡ linkage = cc in subst P same (link refl)
changed_back (Some (Head xs)) change P link head linkage e = let same : Head (change xs) ≡ linkage = cc in subst P same (head xs refl)

held_after : (new : List Node) (sets : List Linkage) (change : ℕ → List ℕ → List ℕ)
    → ((i : ℕ) → slice_get sets i ≡ Some Link → HoldsLinkage new i Link)
    → ((i : ℕ) (xs : List ℕ) → slice_get sets i ≡ Some (Head xs) → HoldsLinkage new i (Head (change i xs)))
    → (i : ℕ) (linkage : Linkage) → slice_get (each_from change 0 sets) i ≡ Some linkage → HoldsLinkage new i linkage
held_after new sets change link head i linkage e =
    let P : Linkage → Type 0 = λ l. HoldsLinkage new i l in
    changed_back (slice_get sets i) (change i) P (link i) (head i) linkage (sym (get-each_from change 0 sets i i (omega arith)) ∙ e)

-- ---- taking a link out

proper-out_at : (sets : List Linkage) (x z : ℕ) → IsProper sets → (z ≡ x) ⊎ (z ≡ x → ⊥)
    → times_in z (each_from (λ _ xs. without x xs) 0 sets) ≤ (if is_link_at (each_from (λ _ xs. without x xs) 0 sets) z then 1 else 0)
proper-out_at sets x z proper (inl same) = rw (same, times_in-out_same x 0 sets) (omega arith)
proper-out_at sets x z proper (inr other) = rw (times_in-out_other z x 0 sets other, is_link_at-each_from (λ _ xs. without x xs) sets z) (proper z)

alone-out : (old new : List Node) (sets : List Linkage) (x i : ℕ) → KeepsSets old sets → IsTakenOut old new x
    → is_link_at sets i ≡ true → times_in i (each_from (λ _ xs. without x xs) 0 sets) ≡ 0 → (i ≡ x) ⊎ (i ≡ x → ⊥)
    → next_at new i ≡ i
alone-out old new sets x i kept gone link nowhere (inl same) = rw same gone.alone.onward
alone-out old new sets x i kept gone link nowhere (inr other) =
    let by_itself : next_at old i ≡ i = kept.alone i link (sym (times_in-out_other i x 0 sets other) ∙ nowhere) in
    let joined : IsJoined old i = kept.joined i (omega (arith, kept.made, is_link_at-made sets i link)) in
    (gone.others i i other other (record { onward = by_itself; back = ap (previous_at old) (sym by_itself) ∙ joined.back })).onward

pub proper-out : (sets : List Linkage) (x : ℕ) → IsProper sets → IsProper (out sets x)
unfolding out
proper-out sets x proper z = proper-out_at sets x z proper (cases_eq z x)

pub kept-out : (old new : List Node) (sets : List Linkage) (x : ℕ) → KeepsSets old sets → is_link_at sets x ≡ true
    → IsTakenOut old new x → KeepsSets new (out sets x)
unfolding out
kept-out old new sets x kept link gone = record {
  made = gone.count ∙ kept.made ∙ sym (length-each_from (λ _ xs. without x xs) 0 sets);
  few = rw gone.count kept.few;
  proper = proper-out sets x kept.proper;
  joined = λ i within.
      let made : x < length old = omega (arith, kept.made, is_link_at-made sets x link) in
      joined_when_out old new x i gone made (kept.joined x made) (kept.joined i (rw gone.count at within));
  held = held_after new sets (λ _ xs. without x xs) (λ i e. gone.heads i ∙ kept.held i Link e) (λ i xs e.
      let apart : i ≢ x = apart_from_link sets x i xs link e in
      (gone.heads i ∙ (kept.held i (Head xs) e).0, (Links-without old new x xs i gone apart).along i (kept.held i (Head xs) e).1 apart));
  alone = λ i is_a_link nowhere. alone-out old new sets x i kept gone (rw is_link_at-each_from at is_a_link) nowhere (cases_eq i x);
}

-- ---- putting a link into a set

-- a link that is in no set is no place to be put beside
pub unplaced : (sets : List Linkage) (z : ℕ) → is_link_at sets z ≡ true → times_in z sets ≡ 0
    → places_from z 0 sets ≡ 0
unplaced sets z link nowhere = places_from-link z 0 z sets (omega arith) (link_no_head (slice_get sets z) link) ∙ nowhere

proper-put_at : (sets : List Linkage) (change : ℕ → List ℕ → List ℕ) (x p z : ℕ) → PutsBeside change x p
    → IsProper sets → is_link_at sets x ≡ true → times_in x sets ≡ 0 → places_from p 0 sets ≤ 1
    → (z ≡ x) ⊎ (z ≡ x → ⊥) → times_in z (each_from change 0 sets) ≤ (if is_link_at sets z then 1 else 0)
proper-put_at sets change x p z puts proper link nowhere one (inl same) = rw (same, link) (grind (arith, nat_tests, eqb_tells x x, times_in-put change x x p 0 sets puts))
proper-put_at sets change x p z puts proper link nowhere one (inr other) =
    let kept_count : times_in z (each_from change 0 sets) ≡ times_in z sets = grind (arith, nat_tests, eqb_tells x z, times_in-put change z x p 0 sets puts) in
    rw kept_count (proper z)

pub proper-put : (sets : List Linkage) (change : ℕ → List ℕ → List ℕ) (x p : ℕ) → PutsBeside change x p
    → IsProper sets → is_link_at sets x ≡ true → times_in x sets ≡ 0 → places_from p 0 sets ≤ 1
    → IsProper (each_from change 0 sets)
proper-put sets change x p puts proper link nowhere one z = rw (is_link_at-each_from change sets z) (proper-put_at sets change x p z puts proper link nowhere one (cases_eq z x))

put_count_self : (sets : List Linkage) (change : ℕ → List ℕ → List ℕ) (x p : ℕ) → PutsBeside change x p
    → places_from p 0 sets ≡ 1 → times_in x (each_from change 0 sets) ≡ 0 → ⊥
put_count_self sets change x p puts one nowhere = grind (arith, nat_tests, eqb_tells x x, times_in-put change x x p 0 sets puts)

put_count_other : (sets : List Linkage) (change : ℕ → List ℕ → List ℕ) (x p z : ℕ) → PutsBeside change x p → z ≢ x
    → times_in z (each_from change 0 sets) ≡ 0 → times_in z sets ≡ 0
put_count_other sets change x p z puts other nowhere = grind (arith, nat_tests, eqb_tells x z, times_in-put change z x p 0 sets puts)

-- what holds when x was put behind the node a, and so beside p
record IsPutting (old new : List Node) (sets : List Linkage) (change : ℕ → List ℕ → List ℕ) (a x p : ℕ) : Type 0 where
  kept : KeepsSets old sets
  link : is_link_at sets x ≡ true
  nowhere : times_in x sets ≡ 0
  puts : PutsBeside change x p
  one : places_from p 0 sets ≡ 1
  made : a < length old
  put : IsPutBehind old new a x
  occupied : next_at old a ≡ a → p ≡ a

pub by_itself : (old : List Node) (sets : List Linkage) (z : ℕ) → KeepsSets old sets → is_link_at sets z ≡ true
    → times_in z sets ≡ 0 → IsNext old z z
by_itself old sets z kept link nowhere =
    let e : next_at old z ≡ z = kept.alone z link nowhere in
    record { onward = e; back = ap (previous_at old) (sym e) ∙ (kept.joined z (omega (arith, kept.made, is_link_at-made sets z link))).back }

alone-put : (old new : List Node) (sets : List Linkage) (change : ℕ → List ℕ → List ℕ) (a x p z : ℕ)
    → IsPutting old new sets change a x p → is_link_at sets z ≡ true → times_in z (each_from change 0 sets) ≡ 0
    → (z ≡ x) ⊎ (z ≡ x → ⊥) → next_at new z ≡ z
alone-put old new sets change a x p z d link nowhere (inl same) =
    let P : ℕ → Type 0 = λ n. times_in n (each_from change 0 sets) ≡ 0 in
    absurd (put_count_self sets change x p d.puts d.one (subst P same nowhere))
alone-put old new sets change a x p z d link nowhere (inr other) =
    let before : times_in z sets ≡ 0 = put_count_other sets change x p z d.puts other nowhere in
    let single : IsNext old z z = by_itself old sets z d.kept link before in
    let apart : z ≢ a = λ same.
    let P : ℕ → Type 0 = λ n. next_at old n ≡ n in
    let its_place : p ≡ z = d.occupied (subst P same single.onward) ∙ sym same in
    omega (arith, d.one, ap (λ n. places_from n 0 sets) its_place, unplaced sets z link before)
    in
    (d.put.others z z apart other single).onward

kept-put : (old new : List Node) (sets : List Linkage) (change : ℕ → List ℕ → List ℕ) (a x p : ℕ)
    → IsPutting old new sets change a x p
    → ((i : ℕ) (xs : List ℕ) → slice_get sets i ≡ Some (Head xs) → Links new i (change i xs) i)
    → KeepsSets new (each_from change 0 sets)
kept-put old new sets change a x p d rings = record {
  made = d.put.count ∙ d.kept.made ∙ sym (length-each_from change 0 sets);
  few = rw d.put.count d.kept.few;
  proper = proper-put sets change x p d.puts d.kept.proper d.link d.nowhere (omega (arith, d.one));
  joined = λ i within.
      let made : x < length old = omega (arith, d.kept.made, is_link_at-made sets x d.link) in
      joined_when_put old new a x i d.put d.made made (d.kept.joined a d.made) (by_itself old sets x d.kept d.link d.nowhere) (d.kept.joined i (rw d.put.count at within));
  held = held_after new sets change (λ i e. d.put.heads i ∙ d.kept.held i Link e) (λ i xs e. (d.put.heads i ∙ (d.kept.held i (Head xs) e).0, rings i xs e));
  alone = λ i link nowhere. alone-put old new sets change a x p i d (rw is_link_at-each_from at link) nowhere (cases_eq i x);
}

pub put_after-head : (x p : ℕ) (xs : List ℕ) → put_after x p p xs ≡ x ∷ xs
put_after-head x p xs = grind (arith, nat_tests, eqb_tells p p)

pub put_after-other : (x p i : ℕ) (xs : List ℕ) → i ≢ p → put_after x p i xs ≡ insert_after x p xs
put_after-other x p i xs other = grind (arith, nat_tests, eqb_tells i p)

pub put_before-head : (x p : ℕ) (xs : List ℕ) → put_before x p p xs ≡ xs ++ x ∷ []
put_before-head x p xs = grind (arith, nat_tests, eqb_tells p p)

pub put_before-other : (x p i : ℕ) (xs : List ℕ) → i ≢ p → put_before x p i xs ≡ insert_before x p xs
put_before-other x p i xs other = grind (arith, nat_tests, eqb_tells i p)

nowhere_at : (sets : List Linkage) (x h : ℕ) (xs : List ℕ) → times_in x sets ≡ 0 → slice_get sets h ≡ Some (Head xs)
    → times_among x xs ≡ 0
nowhere_at sets x h xs nowhere e = omega (arith, times_in-at x sets h xs e)

once_at : (sets : List Linkage) (x h : ℕ) (xs : List ℕ) → IsProper sets → slice_get sets h ≡ Some (Head xs)
    → times_among x xs ≤ 1
once_at sets x h xs proper e = omega (arith, times_in-at x sets h xs e, proper-once sets x proper)

head_at_list : (sets : List Linkage) (h : ℕ) (xs : List ℕ) → slice_get sets h ≡ Some (Head xs)
    → is_head_at sets h ≡ true
head_at_list sets h xs e = rw e refl

ring_after : (old new : List Node) (sets : List Linkage) (x p i : ℕ) (xs : List ℕ)
    → IsPutting old new sets (put_after x p) p x p → slice_get sets i ≡ Some (Head xs) → (i ≡ p) ⊎ (i ≡ p → ⊥)
    → Links new i (put_after x p i xs) i
ring_after old new sets x p i xs d e (inl same) =
    let P : ℕ → Type 0 = λ n. slice_get sets n ≡ Some (Head xs) in
    let at : slice_get sets p ≡ Some (Head xs) = subst P same e in
    let link : head_at old x ≡ false = link_node old sets x d.kept d.link in
    let grown : Grown old new x p xs p = Links-insert_after old new x p xs p d.put link (nowhere_at sets x p xs d.nowhere at) (once_at sets p p xs d.kept.proper at) in
    rw (same, put_after-head x p xs)
    (d.put.first, d.put.heads x ∙ link, grown.behind (d.kept.held p (Head xs) at).1 (nowhere_at sets p p xs (head_nowhere sets p d.kept.proper (head_at_list sets p xs at)) at))
ring_after old new sets x p i xs d e (inr other) =
    let link : head_at old x ≡ false = link_node old sets x d.kept d.link in
    let grown : Grown old new x p xs i = Links-insert_after old new x p xs i d.put link (nowhere_at sets x i xs d.nowhere e) (once_at sets p i xs d.kept.proper e) in
    rw (put_after-other x p i xs other) (grown.along i (d.kept.held i (Head xs) e).1 other (apart_from_link sets x i xs d.link e))

pub placed_apart : (sets : List Linkage) (x p : ℕ) → is_link_at sets x ≡ true → times_in x sets ≡ 0
    → places_from p 0 sets ≡ 1 → p ≢ x
placed_apart sets x p link nowhere one same = omega (arith, one, ap (λ n. places_from n 0 sets) same, unplaced sets x link nowhere)

pub kept-put_after : (old new : List Node) (sets : List Linkage) (x p : ℕ) → KeepsSets old sets
    → is_link_at sets x ≡ true → times_in x sets ≡ 0 → places_from p 0 sets ≡ 1 → p < length old
    → IsPutBehind old new p x → KeepsSets new (each_from (put_after x p) 0 sets)
kept-put_after old new sets x p kept link nowhere one made put =
    let d : IsPutting old new sets (put_after x p) p x p = record { kept = kept; link = link; nowhere = nowhere; puts = puts-after x p; one = one; made = made; put = put; occupied = λ _. refl } in
    kept-put old new sets (put_after x p) p x p d (λ i xs e. ring_after old new sets x p i xs d e (cases_eq i p))

ring_before : (old new : List Node) (sets : List Linkage) (a x p i : ℕ) (xs : List ℕ)
    → IsPutting old new sets (put_before x p) a x p → IsNext old a p → slice_get sets i ≡ Some (Head xs)
    → (i ≡ p) ⊎ (i ≡ p → ⊥) → Links new i (put_before x p i xs) i
ring_before old new sets a x p i xs d here e (inl same) =
    let P : ℕ → Type 0 = λ n. slice_get sets n ≡ Some (Head xs) in
    let at : slice_get sets p ≡ Some (Head xs) = subst P same e in
    rw (same, put_before-head x p xs)
    (Links-push old new a x p p xs d.put here (link_node old sets x d.kept d.link) (nowhere_at sets x p xs d.nowhere at) (nowhere_at sets p p xs (head_nowhere sets p d.kept.proper (head_at_list sets p xs at)) at) (d.kept.held p (Head xs) at).1 (apart_from_link sets x p xs d.link at))
ring_before old new sets a x p i xs d here e (inr other) =
    rw (put_before-other x p i xs other)
    (Links-insert_before old new a x p i xs i d.put here (link_node old sets x d.kept d.link) (nowhere_at sets x i xs d.nowhere e) (placed_apart sets x p d.link d.nowhere d.one) other (d.kept.held i (Head xs) e).1 (apart_from_link sets x i xs d.link e))

pub kept-put_before : (old new : List Node) (sets : List Linkage) (a x p : ℕ) → KeepsSets old sets
    → is_link_at sets x ≡ true → times_in x sets ≡ 0 → places_from p 0 sets ≡ 1 → a < length old → IsNext old a p
    → IsPutBehind old new a x → KeepsSets new (each_from (put_before x p) 0 sets)
kept-put_before old new sets a x p kept link nowhere one made here put =
    let d : IsPutting old new sets (put_before x p) a x p = record { kept = kept; link = link; nowhere = nowhere; puts = puts-before x p; one = one; made = made; put = put; occupied = λ itself. sym here.onward ∙ itself } in
    kept-put old new sets (put_before x p) a x p d (λ i xs e. ring_before old new sets a x p i xs d here e (cases_eq i p))

-- ---- the invariant of the nodes

pub kept-sets_of : (nodes : List Node) (sets : List Linkage) → KeepsSets nodes sets → KeepsSets nodes (sets_of nodes)
kept-sets_of nodes sets kept = rw (sets_of-kept nodes sets kept) kept

pub kept-empty : KeepsSets [] []
kept-empty = record {
  made = refl;
  few = omega arith;
  proper = λ x. omega arith;
  joined = λ i within. absurd (omega arith);
  held = λ i linkage e. absurd (cc);
  alone = λ i link nowhere. absurd (cc);
}
