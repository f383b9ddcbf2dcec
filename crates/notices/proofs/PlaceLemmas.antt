-- The place of the first element that passes a test, and the two parts of the list around it.
use Rattle.std.proofs.Common.{◌≡◌, ℕ, ◌+◌, ◌<◌, ◌≤◌, suc, Bool, true, false, not, Some, None, ltb, List, [], ◌∷◌, ◌++◌, length, get_or, take, drop, refl, sym, ap, ◌∙◌, arith}
use Rattle.std.specs.List.{All, filter, find, position, position_or_len, before_first, after_first}
use Rattle.std.proofs.lemmas.Bool.{cond-true, cond-false, ltb-true, ltb-false, not_from_true, not_from_false}
use Rattle.std.proofs.lemmas.List.Folds.{find_at}
use Rattle.std.proofs.lemmas.Option.{slice_get-get_or, slice_get_cases}
use Rattle.std.proofs.lemmas.List.Elements.{All-head, All-tail}
use Rattle.notices.proofs.ListLemmas.{filter-cons_yes, filter-cons_no}

-- ---- the first element passes, or it does not

place_yes : {X : Type 0} (p : X → Bool) (x : X) (xs : List X) → p x ≡ true → position_or_len p (x ∷ xs) ≡ 0
place_yes p x xs e = cond-false (not (p x)) (1 + position_or_len p xs) 0 (not_from_true _ e)

place_no : {X : Type 0} (p : X → Bool) (x : X) (xs : List X) → p x ≡ false → position_or_len p (x ∷ xs) ≡ suc (position_or_len p xs)
place_no p x xs e = cond-true (not (p x)) (1 + position_or_len p xs) 0 (not_from_false _ e) ∙ omega arith

pub find-cons_yes : {X : Type 0} (p : X → Bool) (x : X) (xs : List X) → p x ≡ true → find p (x ∷ xs) ≡ Some x
find-cons_yes p x xs e = cond-true (p x) (Some x) (find p xs) e

pub find-cons_no : {X : Type 0} (p : X → Bool) (x : X) (xs : List X) → p x ≡ false → find p (x ∷ xs) ≡ find p xs
find-cons_no p x xs e = cond-false (p x) (Some x) (find p xs) e

pub before_first-cons_yes : {X : Type 0} (p : X → Bool) (x : X) (xs : List X) → p x ≡ true → before_first p (x ∷ xs) ≡ []
before_first-cons_yes p x xs e = ap (λ n. take n (x ∷ xs)) (place_yes p x xs e)

pub before_first-cons_no : {X : Type 0} (p : X → Bool) (x : X) (xs : List X) → p x ≡ false → before_first p (x ∷ xs) ≡ x ∷ before_first p xs
before_first-cons_no p x xs e = ap (λ n. take n (x ∷ xs)) (place_no p x xs e)

pub after_first-cons_yes : {X : Type 0} (p : X → Bool) (x : X) (xs : List X) → p x ≡ true → after_first p (x ∷ xs) ≡ xs
after_first-cons_yes p x xs e = ap (λ n. drop (n + 1) (x ∷ xs)) (place_yes p x xs e)

pub after_first-cons_no : {X : Type 0} (p : X → Bool) (x : X) (xs : List X) → p x ≡ false → after_first p (x ∷ xs) ≡ after_first p xs
after_first-cons_no p x xs e =
    ap (λ n. drop (n + 1) (x ∷ xs)) (place_no p x xs e)
    ∙ (let step : suc (position_or_len p xs) + 1 ≡ suc (position_or_len p xs + 1) = omega arith in ap (λ n. drop n (x ∷ xs)) step)

-- ---- a list around the element that is found

pub find-passes : {X : Type 0} (p : X → Bool) (xs : List X) (m : X) → find p xs ≡ Some m → p m ≡ true
find-passes p [] m found = absurd (cc)
find-passes p (x ∷ xs) m found = by_test p x xs m found (find-passes p xs m) (p x) refl
  where
    by_test : {X : Type 0} (p : X → Bool) (x : X) (xs : List X) (m : X) → find p (x ∷ xs) ≡ Some m → (find p xs ≡ Some m → p m ≡ true) → (b : Bool) → p x ≡ b → p m ≡ true
    by_test p x xs m found h true e = let same : x ≡ m = cc (find-cons_yes p x xs e) in ap p (sym same) ∙ e
    by_test p x xs m found h false e = h (sym (find-cons_no p x xs e) ∙ found)

pub find-parts : {X : Type 0} (p : X → Bool) (xs : List X) (m : X) → find p xs ≡ Some m → before_first p xs ++ m ∷ after_first p xs ≡ xs
find-parts p [] m found = absurd (cc)
find-parts p (x ∷ xs) m found = by_test p x xs m found (find-parts p xs m) (p x) refl
  where
    by_test : {X : Type 0} (p : X → Bool) (x : X) (xs : List X) (m : X) → find p (x ∷ xs) ≡ Some m → (find p xs ≡ Some m → before_first p xs ++ m ∷ after_first p xs ≡ xs) → (b : Bool) → p x ≡ b → before_first p (x ∷ xs) ++ m ∷ after_first p (x ∷ xs) ≡ x ∷ xs
    by_test p x xs m found h true e =
        let same : m ≡ x = cc (find-cons_yes p x xs e) in
        ap (λ l. l ++ m ∷ after_first p (x ∷ xs)) (before_first-cons_yes p x xs e)
        ∙ ap (λ l. m ∷ l) (after_first-cons_yes p x xs e) ∙ ap (λ y. y ∷ xs) same
    by_test p x xs m found h false e =
        ap (λ l. l ++ m ∷ after_first p (x ∷ xs)) (before_first-cons_no p x xs e)
        ∙ ap (λ l. x ∷ (before_first p xs ++ m ∷ l)) (after_first-cons_no p x xs e)
        ∙ ap (λ l. x ∷ l) (h (sym (find-cons_no p x xs e) ∙ found))

-- what `position` answers
pub record IsPlace {X : Type 0} (p : X → Bool) (xs : List X) (i : ℕ) : Type 0 where
  pub within : i < length xs
  pub front : before_first p xs ≡ take i xs
  pub back : after_first p xs ≡ drop (i + 1) xs
  pub found : (d : X) → find p xs ≡ Some (get_or xs i d)

pub position_found : {X : Type 0} (p : X → Bool) (xs : List X) (i : ℕ) → position p xs ≡ Some i → IsPlace p xs i
position_found p xs i e = by_test p xs i e (ltb (position_or_len p xs) (length xs)) refl
  where
    by_test : {X : Type 0} (p : X → Bool) (xs : List X) (i : ℕ) → position p xs ≡ Some i → (b : Bool) → ltb (position_or_len p xs) (length xs) ≡ b → IsPlace p xs i
    by_test p xs i e true f =
        let is : position_or_len p xs ≡ i = cc (cond-true (ltb (position_or_len p xs) (length xs)) (Some (position_or_len p xs)) None f) in
        let short : position_or_len p xs < length xs = ltb-true _ _ f in
        record {
          within = omega arith;
          front = ap (λ n. take n xs) is;
          back = ap (λ n. drop (n + 1) xs) is;
          found = λ d. find_at p xs ∙ slice_get-get_or xs (position_or_len p xs) d short ∙ ap (λ n. Some (get_or xs n d)) is;
        }
    by_test p xs i e false f = absurd (cc (cond-false (ltb (position_or_len p xs) (length xs)) (Some (position_or_len p xs)) None f))

pub position_none : {X : Type 0} (p : X → Bool) (xs : List X) → position p xs ≡ None → find p xs ≡ None
position_none p xs e = by_test p xs e (ltb (position_or_len p xs) (length xs)) refl
  where
    past : {X : Type 0} (p : X → Bool) (xs : List X) → length xs ≤ position_or_len p xs → find p xs ≡ None
    past p xs l = grind (arith, find_at p xs, slice_get_cases xs (position_or_len p xs))

    by_test : {X : Type 0} (p : X → Bool) (xs : List X) → position p xs ≡ None → (b : Bool) → ltb (position_or_len p xs) (length xs) ≡ b → find p xs ≡ None
    by_test p xs e true f = absurd (cc (cond-true (ltb (position_or_len p xs) (length xs)) (Some (position_or_len p xs)) None f))
    by_test p xs e false f = past p xs (ltb-false _ _ f)

-- ---- a filter that keeps what the test finds

pub find-filter : {X : Type 0} (p keep : X → Bool) → ((x : X) → p x ≡ true → keep x ≡ true) → (xs : List X) → find p (filter keep xs) ≡ find p xs
find-filter p keep kept [] = refl
find-filter p keep kept (x ∷ xs) = by_tests p keep x xs (kept x) (find-filter p keep kept xs) (p x) (keep x) refl refl
  where
    by_tests : {X : Type 0} (p keep : X → Bool) (x : X) (xs : List X) → (p x ≡ true → keep x ≡ true) → find p (filter keep xs) ≡ find p xs → (a b : Bool) → p x ≡ a → keep x ≡ b → find p (filter keep (x ∷ xs)) ≡ find p (x ∷ xs)
    by_tests p keep x xs kept h true b e f =
        ap (find p) (filter-cons_yes keep x xs (kept e)) ∙ find-cons_yes p x (filter keep xs) e ∙ sym (find-cons_yes p x xs e)
    by_tests p keep x xs kept h false true e f =
        ap (find p) (filter-cons_yes keep x xs f) ∙ find-cons_no p x (filter keep xs) e ∙ h ∙ sym (find-cons_no p x xs e)
    by_tests p keep x xs kept h false false e f =
        ap (find p) (filter-cons_no keep x xs f) ∙ h ∙ sym (find-cons_no p x xs e)

pub before_first-filter : {X : Type 0} (p keep : X → Bool) → ((x : X) → p x ≡ true → keep x ≡ true) → (xs : List X) → before_first p (filter keep xs) ≡ filter keep (before_first p xs)
before_first-filter p keep kept [] = refl
before_first-filter p keep kept (x ∷ xs) =
    by_tests p keep x xs (kept x) (before_first-filter p keep kept xs) (p x) (keep x) refl refl
  where
    by_tests : {X : Type 0} (p keep : X → Bool) (x : X) (xs : List X) → (p x ≡ true → keep x ≡ true) → before_first p (filter keep xs) ≡ filter keep (before_first p xs) → (a b : Bool) → p x ≡ a → keep x ≡ b → before_first p (filter keep (x ∷ xs)) ≡ filter keep (before_first p (x ∷ xs))
    by_tests p keep x xs kept h true b e f =
        ap (before_first p) (filter-cons_yes keep x xs (kept e)) ∙ before_first-cons_yes p x (filter keep xs) e
        ∙ sym (ap (filter keep) (before_first-cons_yes p x xs e))
    by_tests p keep x xs kept h false true e f =
        ap (before_first p) (filter-cons_yes keep x xs f) ∙ before_first-cons_no p x (filter keep xs) e ∙ ap (λ l. x ∷ l) h
        ∙ sym (ap (filter keep) (before_first-cons_no p x xs e) ∙ filter-cons_yes keep x (before_first p xs) f)
    by_tests p keep x xs kept h false false e f =
        ap (before_first p) (filter-cons_no keep x xs f) ∙ h
        ∙ sym (ap (filter keep) (before_first-cons_no p x xs e) ∙ filter-cons_no keep x (before_first p xs) f)

pub after_first-filter : {X : Type 0} (p keep : X → Bool) → ((x : X) → p x ≡ true → keep x ≡ true) → (xs : List X) → after_first p (filter keep xs) ≡ filter keep (after_first p xs)
after_first-filter p keep kept [] = refl
after_first-filter p keep kept (x ∷ xs) =
    by_tests p keep x xs (kept x) (after_first-filter p keep kept xs) (p x) (keep x) refl refl
  where
    by_tests : {X : Type 0} (p keep : X → Bool) (x : X) (xs : List X) → (p x ≡ true → keep x ≡ true) → after_first p (filter keep xs) ≡ filter keep (after_first p xs) → (a b : Bool) → p x ≡ a → keep x ≡ b → after_first p (filter keep (x ∷ xs)) ≡ filter keep (after_first p (x ∷ xs))
    by_tests p keep x xs kept h true b e f =
        ap (after_first p) (filter-cons_yes keep x xs (kept e)) ∙ after_first-cons_yes p x (filter keep xs) e
        ∙ sym (ap (filter keep) (after_first-cons_yes p x xs e))
    by_tests p keep x xs kept h false true e f =
        ap (after_first p) (filter-cons_yes keep x xs f) ∙ after_first-cons_no p x (filter keep xs) e ∙ h
        ∙ sym (ap (filter keep) (after_first-cons_no p x xs e))
    by_tests p keep x xs kept h false false e f =
        ap (after_first p) (filter-cons_no keep x xs f) ∙ h ∙ sym (ap (filter keep) (after_first-cons_no p x xs e))

-- ---- a list with the element in a known place

pub before_first-append : {X : Type 0} (p : X → Bool) (xs ys : List X) (y : X) → All (λ x. p x ≡ false) xs → p y ≡ true → before_first p (xs ++ y ∷ ys) ≡ xs
before_first-append p [] ys y none e = before_first-cons_yes p y ys e
before_first-append p (x ∷ xs) ys y none e =
    before_first-cons_no p x (xs ++ y ∷ ys) (All-head (λ z. p z ≡ false) x xs none)
    ∙ ap (λ l. x ∷ l) (before_first-append p xs ys y (All-tail (λ z. p z ≡ false) x xs none) e)

pub after_first-append : {X : Type 0} (p : X → Bool) (xs ys : List X) (y : X) → All (λ x. p x ≡ false) xs → p y ≡ true → after_first p (xs ++ y ∷ ys) ≡ ys
after_first-append p [] ys y none e = after_first-cons_yes p y ys e
after_first-append p (x ∷ xs) ys y none e =
    after_first-cons_no p x (xs ++ y ∷ ys) (All-head (λ z. p z ≡ false) x xs none)
    ∙ after_first-append p xs ys y (All-tail (λ z. p z ≡ false) x xs none) e
