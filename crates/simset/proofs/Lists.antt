-- how often a number stands in a list after a change, and how long a list without repetition can be
use Rattle.std.proofs.Common.{◌≡◌, ◌≢◌, ℕ, zero, suc, ◌+◌, ◌≤◌, List, [], ◌∷◌, ◌++◌, length, arith, ◌==◌, if◌then◌else◌}
use Rattle.std.proofs.lemmas.Bool.Decides.{nat_tests, eqb_tells}
use Rattle.simset.specs.Sets.{times_among, without, insert_after, insert_before}

pub times-without_same : (x : ℕ) (xs : List ℕ) → times_among x (without x xs) ≡ 0
times-without_same x [] = grind arith
times-without_same x (y ∷ ys) = grind (arith, nat_tests, times-without_same x ys)

pub times-without_other : (z x : ℕ) (xs : List ℕ) → z ≢ x → times_among z (without x xs) ≡ times_among z xs
times-without_other z x [] ne = grind arith
times-without_other z x (y ∷ ys) ne = grind (arith, nat_tests, times-without_other z x ys ne)

pub length-without : (x : ℕ) (xs : List ℕ) → length (without x xs) + times_among x xs ≡ length xs
length-without x [] = grind arith
length-without x (y ∷ ys) = grind (arith, nat_tests, length-without x ys)

pub without-absent : (x : ℕ) (xs : List ℕ) → times_among x xs ≡ 0 → without x xs ≡ xs
without-absent x [] h = grind arith
without-absent x (y ∷ ys) h = grind (arith, nat_tests, without-absent x ys)

pub times-insert_after : (z x p : ℕ) (xs : List ℕ)
    → times_among z (insert_after x p xs) ≡ times_among z xs + (if x == z then times_among p xs else 0)
times-insert_after z x p [] = grind (arith, nat_tests)
times-insert_after z x p (y ∷ ys) = grind (arith, nat_tests, times-insert_after z x p ys)

pub insert_after-absent : (x p : ℕ) (xs : List ℕ) → times_among p xs ≡ 0 → insert_after x p xs ≡ xs
insert_after-absent x p [] h = grind arith
insert_after-absent x p (y ∷ ys) h = grind (arith, nat_tests, insert_after-absent x p ys)

pub times-insert_before : (z x p : ℕ) (xs : List ℕ)
    → times_among z (insert_before x p xs) ≡ times_among z xs + (if x == z then times_among p xs else 0)
times-insert_before z x p [] = grind (arith, nat_tests)
times-insert_before z x p (y ∷ ys) = grind (arith, nat_tests, times-insert_before z x p ys)

pub insert_before-absent : (x p : ℕ) (xs : List ℕ) → times_among p xs ≡ 0 → insert_before x p xs ≡ xs
insert_before-absent x p [] h = grind arith
insert_before-absent x p (y ∷ ys) h = grind (arith, nat_tests, insert_before-absent x p ys)

pub times-push : (z x : ℕ) (xs : List ℕ) → times_among z (xs ++ x ∷ []) ≡ times_among z xs + (if x == z then 1 else 0)
times-push z x [] = grind (arith, nat_tests)
times-push z x (y ∷ ys) = grind (arith, nat_tests, times-push z x ys)

times-first : (y : ℕ) (ys : List ℕ) → times_among y (y ∷ ys) ≡ suc (times_among y ys)
times-first y ys = grind (arith, nat_tests, eqb_tells y y)

-- as many numbers as there are below n, and no more
pub length_below : (n : ℕ) (xs : List ℕ) → ((x : ℕ) → times_among x xs ≤ 1) → ((x : ℕ) → n ≤ x → times_among x xs ≡ 0)
    → length xs ≤ n
length_below n [] once small = omega arith
length_below zero (y ∷ ys) once small = omega (arith, small y (omega arith), times-first y ys)
length_below (suc n) (y ∷ ys) once small = omega (arith, length-without n (y ∷ ys), once n, length_below n (without n (y ∷ ys)) (λ x. grind (arith, nat_tests, once x, times-without_same n (y ∷ ys), times-without_other x n (y ∷ ys))) (λ x h. grind (arith, nat_tests, small x, times-without_same n (y ∷ ys), times-without_other x n (y ∷ ys))))
