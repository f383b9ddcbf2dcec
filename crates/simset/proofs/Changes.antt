-- what the numbers of a list of linkages become when each set is changed
use Rattle.std.proofs.Common.{◌≡◌, ◌≢◌, ℕ, zero, suc, ◌+◌, ◌<◌, List, [], ◌∷◌, length, arith, ◌==◌, if◌then◌else◌, true, false, refl, ap, ◌∙◌}
use Rattle.std.specs.Prelude.{slice_get, Option, Some, None}
use Rattle.std.proofs.lemmas.Bool.Decides.{nat_tests}
use Rattle.simset.proofs.Lists.{times-without_same, times-without_other, times-insert_after, times-insert_before, times-push}
use Rattle.simset.specs.Sets.{Linkage, Link, Head, times_among, times_in, without, each_from, is_link, is_head, is_link_at, is_head_at, put_after, put_before, places_in, places_from}

pub length-each_from : (change : ℕ → List ℕ → List ℕ) (k : ℕ) (sets : List Linkage)
    → length (each_from change k sets) ≡ length sets
length-each_from change k [] = refl
length-each_from change k (Link ∷ rest) = ap (λ n. suc n) (length-each_from change (k + 1) rest)
length-each_from change k (Head xs ∷ rest) = ap (λ n. suc n) (length-each_from change (k + 1) rest)

-- the linkage after its list was changed
abbrev pub changed : (List ℕ → List ℕ) → Option Linkage → Option Linkage
changed change None = None
changed change (Some Link) = Some Link
changed change (Some (Head xs)) = Some (Head (change xs))

pub get-each_from : (change : ℕ → List ℕ → List ℕ) (k : ℕ) (sets : List Linkage) (i j : ℕ) → j ≡ k + i
    → slice_get (each_from change k sets) i ≡ changed (change j) (slice_get sets i)
get-each_from change k [] i j e = refl
get-each_from change k (Link ∷ rest) zero j e = refl
get-each_from change k (Head xs ∷ rest) zero j e = grind arith
get-each_from change k (Link ∷ rest) (suc i) j e = get-each_from change (k + 1) rest i j (omega arith)
get-each_from change k (Head xs ∷ rest) (suc i) j e = get-each_from change (k + 1) rest i j (omega arith)

is_link-changed : (change : List ℕ → List ℕ) (o : Option Linkage) → is_link (changed change o) ≡ is_link o
is_link-changed change None = refl
is_link-changed change (Some Link) = refl
is_link-changed change (Some (Head xs)) = refl

is_head-changed : (change : List ℕ → List ℕ) (o : Option Linkage) → is_head (changed change o) ≡ is_head o
is_head-changed change None = refl
is_head-changed change (Some Link) = refl
is_head-changed change (Some (Head xs)) = refl

pub is_link_at-each_from : (change : ℕ → List ℕ → List ℕ) (sets : List Linkage) (x : ℕ)
    → is_link_at (each_from change 0 sets) x ≡ is_link_at sets x
is_link_at-each_from change sets x = ap is_link (get-each_from change 0 sets x x (omega arith)) ∙ is_link-changed (change x) (slice_get sets x)

pub is_head_at-each_from : (change : ℕ → List ℕ → List ℕ) (sets : List Linkage) (x : ℕ)
    → is_head_at (each_from change 0 sets) x ≡ is_head_at sets x
is_head_at-each_from change sets x = ap is_head (get-each_from change 0 sets x x (omega arith)) ∙ is_head-changed (change x) (slice_get sets x)

pub times_in-out_same : (x k : ℕ) (sets : List Linkage) → times_in x (each_from (λ _ xs. without x xs) k sets) ≡ 0
times_in-out_same x k [] = refl
times_in-out_same x k (Link ∷ rest) = times_in-out_same x (k + 1) rest
times_in-out_same x k (Head xs ∷ rest) = omega (arith, times-without_same x xs, times_in-out_same x (k + 1) rest)

pub times_in-out_other : (z x k : ℕ) (sets : List Linkage) → z ≢ x
    → times_in z (each_from (λ _ xs. without x xs) k sets) ≡ times_in z sets
times_in-out_other z x k [] ne = refl
times_in-out_other z x k (Link ∷ rest) ne = times_in-out_other z x (k + 1) rest ne
times_in-out_other z x k (Head xs ∷ rest) ne = omega (arith, times-without_other z x xs ne, times_in-out_other z x (k + 1) rest ne)

-- a change that puts x beside each place of p
pub record PutsBeside (change : ℕ → List ℕ → List ℕ) (x p : ℕ) : Type 0 where
  pub counts : (z h : ℕ) (xs : List ℕ) → times_among z (change h xs) ≡ times_among z xs + (if x == z then places_in p h xs else 0)

pub puts-after : (x p : ℕ) → PutsBeside (put_after x p) x p
puts-after x p = record { counts = λ z h xs. grind (arith, nat_tests, times-insert_after z x p xs) }

pub puts-before : (x p : ℕ) → PutsBeside (put_before x p) x p
puts-before x p = record { counts = λ z h xs. grind (arith, nat_tests, times-insert_before z x p xs, times-push z x xs) }

pub times_in-put : (change : ℕ → List ℕ → List ℕ) (z x p k : ℕ) (sets : List Linkage) → PutsBeside change x p
    → times_in z (each_from change k sets) ≡ times_in z sets + (if x == z then places_from p k sets else 0)
times_in-put change z x p k [] puts = grind (arith, nat_tests)
times_in-put change z x p k (Link ∷ rest) puts = times_in-put change z x p (k + 1) rest puts
times_in-put change z x p k (Head xs ∷ rest) puts = grind (arith, nat_tests, puts.counts z k xs, times_in-put change z x p (k + 1) rest puts)

places_from-past : (p k : ℕ) (sets : List Linkage) → p < k → places_from p k sets ≡ times_in p sets
places_from-past p k [] l = refl
places_from-past p k (Link ∷ rest) l = places_from-past p (k + 1) rest (omega arith)
places_from-past p k (Head xs ∷ rest) l = grind (arith, nat_tests, places_from-past p (k + 1) rest (omega arith))

pub places_from-link : (p k i : ℕ) (sets : List Linkage) → p ≡ k + i → is_head_at sets i ≡ false
    → places_from p k sets ≡ times_in p sets
places_from-link p k i [] e h = refl
places_from-link p k zero (Link ∷ rest) e h = places_from-past p (k + 1) rest (omega arith)
places_from-link p k zero (Head xs ∷ rest) e h = absurd (cc)
places_from-link p k (suc i) (Link ∷ rest) e h = places_from-link p (k + 1) i rest (omega arith) h
places_from-link p k (suc i) (Head xs ∷ rest) e h = grind (arith, nat_tests, places_from-link p (k + 1) i rest (omega arith) h)

pub places_from-head : (p k i : ℕ) (sets : List Linkage) → p ≡ k + i → is_head_at sets i ≡ true → times_in p sets ≡ 0
    → places_from p k sets ≡ 1
places_from-head p k i [] e h none = absurd (cc)
places_from-head p k zero (Link ∷ rest) e h none = absurd (cc)
places_from-head p k zero (Head xs ∷ rest) e h none = grind (arith, nat_tests, places_from-past p (k + 1) rest (omega arith))
places_from-head p k (suc i) (Link ∷ rest) e h none = places_from-head p (k + 1) i rest (omega arith) h none
places_from-head p k (suc i) (Head xs ∷ rest) e h none = grind (arith, nat_tests, places_from-head p (k + 1) i rest (omega arith) h (omega arith))
