-- What precedes in the sets follows in the sets read backwards.
use Rattle.std.proofs.Common.{◌≡◌, ℕ, ◌==◌, Bool, true, false, cond, List, [], ◌∷◌, ◌++◌, refl, sym, ap, ◌∙◌, append_assoc}
use Rattle.std.specs.Prelude.{Option, Some, None, reverse}
use Rattle.std.proofs.lemmas.List.{reverse-append, reverse-reverse}
use Rattle.simset.specs.Sets.{Linkage, backwards, each_from, follow, following, insert_after, insert_before, precede, preceding, put_after, put_before, without}
use Rattle.simset.proofs.Stepwise.{each_after, each_same}

abbrev one_more : ℕ → ℕ → ℕ → Bool → List ℕ
one_more x p y b = cond b (y ∷ x ∷ []) (y ∷ [])

insert_after-push : (x p y : ℕ) (xs : List ℕ) → insert_after x p (xs ++ y ∷ []) ≡ insert_after x p xs ++ one_more x p y (y == p)
insert_after-push x p y [] = at (y == p)
  where
    at : (b : Bool) → cond b (y ∷ x ∷ []) (y ∷ []) ≡ one_more x p y b
    at true = refl
    at false = refl
insert_after-push x p y (z ∷ zs) = at (insert_after-push x p y zs) (z == p)
  where
    at : insert_after x p (zs ++ y ∷ []) ≡ insert_after x p zs ++ one_more x p y (y == p) → (b : Bool)
        → cond b (z ∷ x ∷ insert_after x p (zs ++ y ∷ [])) (z ∷ insert_after x p (zs ++ y ∷ [])) ≡ cond b (z ∷ x ∷ insert_after x p zs) (z ∷ insert_after x p zs) ++ one_more x p y (y == p)
    at rest true = ap (λ xs. z ∷ x ∷ xs) rest
    at rest false = ap (λ xs. z ∷ xs) rest

without-push : (x y : ℕ) (xs : List ℕ) → without x (xs ++ y ∷ []) ≡ without x xs ++ cond (y == x) [] (y ∷ [])
without-push x y [] = refl
without-push x y (z ∷ zs) = at (without-push x y zs) (z == x)
  where
    at : without x (zs ++ y ∷ []) ≡ without x zs ++ cond (y == x) [] (y ∷ []) → (b : Bool)
        → cond b (without x (zs ++ y ∷ [])) (z ∷ without x (zs ++ y ∷ [])) ≡ cond b (without x zs) (z ∷ without x zs) ++ cond (y == x) [] (y ∷ [])
    at rest true = rest
    at rest false = ap (λ xs. z ∷ xs) rest

pub reverse-cons : (y : ℕ) (ys : List ℕ) → reverse (y ∷ ys) ≡ reverse ys ++ y ∷ []
reverse-cons y ys = reverse-append (y ∷ []) ys

nothing_more : (xs : List ℕ) → xs ++ [] ≡ xs
nothing_more [] = refl
nothing_more (x ∷ xs) = ap (λ ys. x ∷ ys) (nothing_more xs)

reverse-without : (x : ℕ) (ys : List ℕ) → reverse (without x ys) ≡ without x (reverse ys)
reverse-without x [] = refl
reverse-without x (y ∷ ys) =
    at (reverse-without x ys) (y == x) ∙ sym (without-push x y (reverse ys)) ∙ ap (without x) (sym (reverse-cons y ys))
  where
    at : reverse (without x ys) ≡ without x (reverse ys) → (b : Bool) → reverse (cond b (without x ys) (y ∷ without x ys)) ≡ without x (reverse ys) ++ cond b [] (y ∷ [])
    at rest true = rest ∙ sym (nothing_more (without x (reverse ys)))
    at rest false = reverse-cons y (without x ys) ∙ ap (λ zs. zs ++ y ∷ []) rest

reverse-insert_before : (x p : ℕ) (ys : List ℕ) → reverse (insert_before x p ys) ≡ insert_after x p (reverse ys)
reverse-insert_before x p [] = refl
reverse-insert_before x p (y ∷ ys) =
    at (reverse-insert_before x p ys) (y == p) ∙ sym (insert_after-push x p y (reverse ys)) ∙ ap (insert_after x p) (sym (reverse-cons y ys))
  where
    at : reverse (insert_before x p ys) ≡ insert_after x p (reverse ys) → (b : Bool)
        → reverse (cond b (x ∷ y ∷ insert_before x p ys) (y ∷ insert_before x p ys)) ≡ insert_after x p (reverse ys) ++ one_more x p y b
    at rest true =
        reverse-cons x (y ∷ insert_before x p ys)
        ∙ ap (λ zs. zs ++ x ∷ []) (reverse-cons y (insert_before x p ys) ∙ ap (λ zs. zs ++ y ∷ []) rest)
        ∙ append_assoc (insert_after x p (reverse ys)) (y ∷ []) (x ∷ [])
    at rest false = reverse-cons y (insert_before x p ys) ∙ ap (λ zs. zs ++ y ∷ []) rest

reverse-put_before : (x p h : ℕ) (ys : List ℕ) → reverse (put_before x p h ys) ≡ put_after x p h (reverse ys)
reverse-put_before x p h ys = at (h == p)
  where
    at : (b : Bool) → reverse (cond b (ys ++ x ∷ []) (insert_before x p ys)) ≡ cond b (x ∷ reverse ys) (insert_after x p (reverse ys))
    at true = reverse-append ys (x ∷ [])
    at false = reverse-insert_before x p ys

reverse-preceding : (x : ℕ) (p : Option ℕ) (h : ℕ) (xs : List ℕ) → reverse (preceding x p h xs) ≡ following x p h (reverse xs)
reverse-preceding x None h xs = reverse-without x xs
reverse-preceding x (Some p) h xs = reverse-put_before x p h (without x xs) ∙ ap (put_after x p h) (reverse-without x xs)

mirrored : (x : ℕ) (p : Option ℕ) (h : ℕ) (xs : List ℕ) → preceding x p h xs ≡ reverse (following x p h (reverse xs))
mirrored x p h xs = sym (reverse-reverse (preceding x p h xs)) ∙ ap reverse (reverse-preceding x p h xs)

pub precede-backwards : (sets : List Linkage) (x : ℕ) (p : Option ℕ) → precede sets x p ≡ backwards (follow (backwards sets) x p)
unfolding precede follow backwards
precede-backwards sets x p =
    each_same (preceding x p) (λ h xs. reverse (following x p h (reverse xs))) 0 sets (mirrored x p)
    ∙ each_after (λ h xs. reverse xs) (λ h xs. following x p h (reverse xs)) 0 sets
    ∙ ap (each_from (λ h xs. reverse xs) 0) (each_after (following x p) (λ h xs. reverse xs) 0 sets)
