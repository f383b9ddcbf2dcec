-- Lists of which each pair is related, and what two filters that leave nothing out keep.
use Rattle.std.proofs.Common.{◌≡◌, ℕ, zero, suc, Bool, true, false, not, List, [], ◌∷◌, ◌++◌, length, get_or, take, drop, refl, sym, ap, ◌∙◌, arith}
use Rattle.std.specs.List.{All, AllPairs, AllWithin, filter}
use Rattle.std.proofs.lemmas.Bool.{cond-true, cond-false, false_from_ne_true, true≢false, not_from_true, not_from_false}
use Rattle.std.proofs.lemmas.List.Elements.{All-nil, All-cons, All-head, All-tail}
use Rattle.std.proofs.lemmas.List.Kept.{AllPairs-cons}

-- ---- pairs

pub AllPairs-nil : {X : Type 0} (R : X → X → Type 0) → AllPairs R []
AllPairs-nil R i j d l h = absurd (omega arith)

pub AllPairs-head : {X : Type 0} (R : X → X → Type 0) (x : X) (xs : List X) → AllPairs R (x ∷ xs) → All (R x) xs
AllPairs-head R x xs p k d h = p zero (suc k) d (omega arith) (omega arith)

pub AllPairs-tail : {X : Type 0} (R : X → X → Type 0) (x : X) (xs : List X) → AllPairs R (x ∷ xs) → AllPairs R xs
AllPairs-tail R x xs p i j d h k = p (suc i) (suc j) d (omega arith) (omega arith)

-- an element put into a list
pub All-around : {X : Type 0} (P : X → Type 0) (xs ys : List X) (x : X) → All P (xs ++ ys) → P x → All P (xs ++ x ∷ ys)
All-around P [] ys x a p = All-cons P x ys p a
All-around P (z ∷ xs) ys x a p =
    All-cons P z (xs ++ x ∷ ys) (All-head P z (xs ++ ys) a) (All-around P xs ys x (All-tail P z (xs ++ ys) a) p)

-- an element put into a list, related to each element before it and to each behind it
pub AllPairs-around : {X : Type 0} (R : X → X → Type 0) (xs ys : List X) (x : X) → All (λ y. R y x) xs → All (R x) ys → AllPairs R (xs ++ ys) → AllPairs R (xs ++ x ∷ ys)
AllPairs-around R [] ys x before behind p = AllPairs-cons R x ys behind p
AllPairs-around R (z ∷ xs) ys x before behind p =
    AllPairs-cons R z (xs ++ x ∷ ys)
    (All-around (R z) xs ys x (AllPairs-head R z (xs ++ ys) p) (All-head (λ y. R y x) z xs before))
    (AllPairs-around R xs ys x (All-tail (λ y. R y x) z xs before) behind (AllPairs-tail R z (xs ++ ys) p))

-- each element of the front is related to an element of the back
pub AllPairs-across : {X : Type 0} (R : X → X → Type 0) (xs ys : List X) (x : X) → AllPairs R (xs ++ x ∷ ys) → All (λ y. R y x) xs
AllPairs-across R [] ys x p = All-nil (λ y. R y x)
AllPairs-across R (z ∷ xs) ys x p =
    All-cons (λ y. R y x) z xs
    (All-middle (R z) xs ys x (AllPairs-head R z (xs ++ x ∷ ys) p))
    (AllPairs-across R xs ys x (AllPairs-tail R z (xs ++ x ∷ ys) p))
  where
    All-middle : {X : Type 0} (P : X → Type 0) (xs ys : List X) (x : X) → All P (xs ++ x ∷ ys) → P x
    All-middle P [] ys x a = All-head P x ys a
    All-middle P (z ∷ xs) ys x a = All-middle P xs ys x (All-tail P z (xs ++ x ∷ ys) a)

pub AllPairs-back : {X : Type 0} (R : X → X → Type 0) (xs ys : List X) → AllPairs R (xs ++ ys) → AllPairs R ys
AllPairs-back R [] ys p = p
AllPairs-back R (z ∷ xs) ys p = AllPairs-back R xs ys (AllPairs-tail R z (xs ++ ys) p)

-- ---- filters

pub filter-cons_yes : {X : Type 0} (p : X → Bool) (x : X) (xs : List X) → p x ≡ true → filter p (x ∷ xs) ≡ x ∷ filter p xs
filter-cons_yes p x xs e = cond-true (p x) (x ∷ filter p xs) (filter p xs) e

pub filter-cons_no : {X : Type 0} (p : X → Bool) (x : X) (xs : List X) → p x ≡ false → filter p (x ∷ xs) ≡ filter p xs
filter-cons_no p x xs e = cond-false (p x) (x ∷ filter p xs) (filter p xs) e

pub filter-all : {X : Type 0} (p : X → Bool) (xs : List X) → All (λ x. p x ≡ true) xs → filter p xs ≡ xs
filter-all p [] a = refl
filter-all p (x ∷ xs) a =
    filter-cons_yes p x xs (All-head (λ x. p x ≡ true) x xs a) ∙ ap (λ l. x ∷ l) (filter-all p xs (All-tail (λ x. p x ≡ true) x xs a))

pub filter-none : {X : Type 0} (p : X → Bool) (xs : List X) → All (λ x. p x ≡ false) xs → filter p xs ≡ []
filter-none p [] a = refl
filter-none p (x ∷ xs) a =
    filter-cons_no p x xs (All-head (λ x. p x ≡ false) x xs a) ∙ filter-none p xs (All-tail (λ x. p x ≡ false) x xs a)

-- two filters may change places
pub filter-filter : {X : Type 0} (p q : X → Bool) (xs : List X) → filter p (filter q xs) ≡ filter q (filter p xs)
filter-filter p q [] = refl
filter-filter p q (x ∷ xs) = by_tests p q x xs (filter-filter p q xs) (p x) (q x) refl refl
  where
    by_tests : {X : Type 0} (p q : X → Bool) (x : X) (xs : List X) → filter p (filter q xs) ≡ filter q (filter p xs) → (a b : Bool) → p x ≡ a → q x ≡ b → filter p (filter q (x ∷ xs)) ≡ filter q (filter p (x ∷ xs))
    by_tests p q x xs h true true e f =
        ap (filter p) (filter-cons_yes q x xs f) ∙ filter-cons_yes p x (filter q xs) e ∙ ap (λ l. x ∷ l) h
        ∙ sym (ap (filter q) (filter-cons_yes p x xs e) ∙ filter-cons_yes q x (filter p xs) f)
    by_tests p q x xs h true false e f =
        ap (filter p) (filter-cons_no q x xs f) ∙ h
        ∙ sym (ap (filter q) (filter-cons_yes p x xs e) ∙ filter-cons_no q x (filter p xs) f)
    by_tests p q x xs h false true e f =
        ap (filter p) (filter-cons_yes q x xs f) ∙ filter-cons_no p x (filter q xs) e ∙ h
        ∙ sym (ap (filter q) (filter-cons_no p x xs e))
    by_tests p q x xs h false false e f =
        ap (filter p) (filter-cons_no q x xs f) ∙ h ∙ sym (ap (filter q) (filter-cons_no p x xs e))

-- a list in two parts: p holds of each element of the first, and q, which is its contrary, of each of the second
pub filter-front : {X : Type 0} (p : X → Bool) (xs : List X) (i : ℕ) → AllWithin (λ x. p x ≡ true) xs 0 i → AllWithin (λ x. p x ≡ false) xs i (length xs) → filter p xs ≡ take i xs
filter-front p [] zero a b = refl
filter-front p [] (suc i) a b = refl
filter-front p (x ∷ xs) zero a b = filter-none p (x ∷ xs) (λ k d h. b k d (omega arith) h)
filter-front p (x ∷ xs) (suc i) a b =
    filter-cons_yes p x xs (a zero x (omega arith) (omega arith))
    ∙ ap (λ l. x ∷ l) (filter-front p xs i
    (λ k d l h. a (suc k) d (omega arith) (omega arith))
    (λ k d l h. b (suc k) d (omega arith) (omega arith)))

pub filter-back : {X : Type 0} (p q : X → Bool) → ((x : X) → q x ≡ not (p x)) → (xs : List X) (i : ℕ) → AllWithin (λ x. p x ≡ true) xs 0 i → AllWithin (λ x. p x ≡ false) xs i (length xs) → filter q xs ≡ drop i xs
filter-back p q other [] zero a b = refl
filter-back p q other [] (suc i) a b = refl
filter-back p q other (x ∷ xs) zero a b =
    filter-all q (x ∷ xs) (λ k d h. other (get_or (x ∷ xs) k d) ∙ not_from_false _ (b k d (omega arith) h))
filter-back p q other (x ∷ xs) (suc i) a b =
    filter-cons_no q x xs (other x ∙ not_from_true _ (a zero x (omega arith) (omega arith)))
    ∙ filter-back p q other xs i
    (λ k d l h. a (suc k) d (omega arith) (omega arith))
    (λ k d l h. b (suc k) d (omega arith) (omega arith))

-- where p holds of what stands before an element of which it holds, its part stands in front of the other part
pub filter-parts : {X : Type 0} (R : X → X → Type 0) (p q : X → Bool) → ((x : X) → q x ≡ not (p x)) → ((x y : X) → R x y → p y ≡ true → p x ≡ true) → (xs : List X) → AllPairs R xs → filter p xs ++ filter q xs ≡ xs
filter-parts R p q other down [] pairs = refl
filter-parts R p q other down (x ∷ xs) pairs =
    by_test R p q other down x xs (AllPairs-head R x xs pairs)
    (filter-parts R p q other down xs (AllPairs-tail R x xs pairs)) (p x) refl
  where
    below : {X : Type 0} (p : X → Bool) (x y : X) → (p y ≡ true → p x ≡ true) → p x ≡ false → p y ≡ false
    below p x y down e = false_from_ne_true (p y) (λ t. true≢false (sym (down t) ∙ e))

    by_test : {X : Type 0} (R : X → X → Type 0) (p q : X → Bool) → ((x : X) → q x ≡ not (p x)) → ((x y : X) → R x y → p y ≡ true → p x ≡ true) → (x : X) (xs : List X) → All (R x) xs → filter p xs ++ filter q xs ≡ xs → (b : Bool) → p x ≡ b → filter p (x ∷ xs) ++ filter q (x ∷ xs) ≡ x ∷ xs
    by_test R p q other down x xs later h true e =
        ap (λ l. l ++ filter q (x ∷ xs)) (filter-cons_yes p x xs e)
        ∙ ap (λ l. x ∷ (filter p xs ++ l)) (filter-cons_no q x xs (other x ∙ not_from_true _ e))
        ∙ ap (λ l. x ∷ l) h
    by_test R p q other down x xs later h false e =
        let none : All (λ y. p y ≡ false) (x ∷ xs) =
        All-cons (λ y. p y ≡ false) x xs e
        (λ k d l. below p x (get_or xs k d) (down x (get_or xs k d) (later k d l)) e) in
        ap (λ l. l ++ filter q (x ∷ xs)) (filter-none p (x ∷ xs) none)
        ∙ filter-all q (x ∷ xs) (λ k d l. other (get_or (x ∷ xs) k d) ∙ not_from_false _ (none k d l))
