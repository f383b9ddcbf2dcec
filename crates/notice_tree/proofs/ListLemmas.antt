-- Counting in the lists of trees and ways.
use Rattle.std.proofs.Common.{◌≡◌, ◌≢◌, ℕ, ◌+◌, ◌≤◌, Bool, true, false, not, cond, Some, None, List, [], ◌∷◌, ◌++◌, length, refl, sym, ap, ◌∙◌, arith, slice_get}
use Rattle.std.specs.List.{All, sum_by, after_first}
use Rattle.std.specs.Option.{option_map}
use Rattle.std.proofs.lemmas.Bool.{cond-false, eqb-true, eq-eqb, ne_eqb, not-true, not_from_false, not_from_true}
use Rattle.std.proofs.lemmas.List.Elements.{All-nil, All-cons, All-head, All-tail, All-weaker, filter-append, filter_passes}
use Rattle.std.proofs.lemmas.List.Sums.{sum_by-cons, sum_by-append}
use Rattle.notices.specs.declared.notice.Notice.{Notice}
use Rattle.notices.specs.Notices.{is_of, notice_of, removed}
use Rattle.notices.specs.Schedule.{IsOnce}
use Rattle.notices.proofs.ListLemmas.{AllPairs-head, AllPairs-tail, filter-all, filter-cons_no}
use Rattle.notices.proofs.PlaceLemmas.{find-cons_yes, find-cons_no, after_first-cons_no}
use Rattle.notice_tree.specs.Trees.{Tree, Empty, Branch, in_order, total, one_of, one, Step, OnLeft, OnRight, before, after, way_total}
use Rattle.notice_tree.specs.Spots.{first_process}

pub one_of-zero : (x : ℕ) (n : Notice) → is_of x n ≡ false → one_of x n ≡ 0
unfolding one_of
one_of-zero x n e = cond-false (is_of x n) 1 0 e

pub one_of-none : (x : ℕ) (n : Notice) → one_of x n ≡ 0 → is_of x n ≡ false
unfolding one_of
one_of-none x n e = by_test (is_of x n) (one_of x n) refl e
  where
    by_test : (b : Bool) (k : ℕ) → cond b 1 0 ≡ k → k ≡ 0 → b ≡ false
    by_test true k is e = absurd (omega arith)
    by_test false k is e = refl

pub one_of-le : (x : ℕ) (n : Notice) → one_of x n ≤ 1
unfolding one_of
one_of-le x n = by_test (is_of x n)
  where
    by_test : (b : Bool) → cond b 1 0 ≤ 1
    by_test true = omega arith
    by_test false = omega arith

pub total-listed : (w : Notice → ℕ) (t : Tree) → total w t ≡ sum_by w (in_order t)
total-listed w Empty = refl
total-listed w (Branch l n r) =
    let both : sum_by w (in_order l ++ n ∷ in_order r) ≡ sum_by w (in_order l) + (w n + sum_by w (in_order r)) =
    sum_by-append w (in_order l) (n ∷ in_order r) ∙ ap (λ k. sum_by w (in_order l) + k) (sum_by-cons w n (in_order r)) in
    omega (arith, total-listed w l, total-listed w r)

pub way_total-listed : (w : Notice → ℕ) (way : List Step) → way_total w way ≡ sum_by w (before way) + sum_by w (after way)
way_total-listed w [] = refl
way_total-listed w (OnLeft n u ∷ way) =
    let back : sum_by w (n ∷ in_order u ++ after way) ≡ w n + (sum_by w (in_order u) + sum_by w (after way)) =
    sum_by-cons w n (in_order u ++ after way) ∙ ap (λ k. w n + k) (sum_by-append w (in_order u) (after way)) in
    omega (arith, way_total-listed w way, total-listed w u)
way_total-listed w (OnRight u n ∷ way) =
    let single : sum_by w (n ∷ []) ≡ w n + 0 = sum_by-cons w n [] in
    let front : sum_by w (before way ++ in_order u ++ n ∷ []) ≡ (sum_by w (before way) + sum_by w (in_order u)) + sum_by w (n ∷ []) =
    sum_by-append w (before way ++ in_order u) (n ∷ []) ∙ ap (λ k. k + sum_by w (n ∷ [])) (sum_by-append w (before way) (in_order u)) in
    omega (arith, way_total-listed w way, total-listed w u)

pub sum_by-one : (l : List Notice) → sum_by one l ≡ length l
unfolding one
sum_by-one [] = refl
sum_by-one (n ∷ l) = omega (arith, sum_by-cons one n l, sum_by-one l)

-- ---- a process that has no notice in a list

pub lacks-from : (x : ℕ) (l : List Notice) → sum_by (one_of x) l ≡ 0 → All (λ m. is_of x m ≡ false) l
lacks-from x [] e = All-nil (λ m. is_of x m ≡ false)
lacks-from x (n ∷ l) e =
    let split = sum_by-cons (one_of x) n l in
    All-cons (λ m. is_of x m ≡ false) n l (one_of-none x n (omega arith)) (lacks-from x l (omega arith))

pub none_from_lacks : (x : ℕ) (l : List Notice) → All (λ m. is_of x m ≡ false) l → sum_by (one_of x) l ≡ 0
none_from_lacks x [] a = refl
none_from_lacks x (n ∷ l) a =
    omega (arith, sum_by-cons (one_of x) n l, one_of-zero x n (All-head (λ m. is_of x m ≡ false) n l a), none_from_lacks x l (All-tail (λ m. is_of x m ≡ false) n l a))

pub none_removed : (x : ℕ) (l : List Notice) → sum_by (one_of x) (removed x l) ≡ 0
none_removed x l =
    none_from_lacks x (removed x l)
    (All-weaker (λ m. not (is_of x m) ≡ true) (λ m. is_of x m ≡ false) (λ m e. not-true _ e) (removed x l) (filter_passes (λ m. not (is_of x m)) l))

pub removed-lacks : (x : ℕ) (l : List Notice) → All (λ m. is_of x m ≡ false) l → removed x l ≡ l
removed-lacks x l a = filter-all (λ m. not (is_of x m)) l (All-weaker (λ m. is_of x m ≡ false) (λ m. not (is_of x m) ≡ true) (λ m e. not_from_false _ e) l a)

pub once_listed : (x : ℕ) (l : List Notice) → IsOnce l → sum_by (one_of x) l ≤ 1
once_listed x [] once = omega arith
once_listed x (n ∷ l) once =
    by_test x n l (AllPairs-head (λ a b. a.process.0 ≢ b.process.0) n l once) (once_listed x l (AllPairs-tail (λ a b. a.process.0 ≢ b.process.0) n l once)) (is_of x n) refl
  where
    by_test : (x : ℕ) (n : Notice) (l : List Notice) → All (λ m. n.process.0 ≢ m.process.0) l → sum_by (one_of x) l ≤ 1 → (b : Bool) → is_of x n ≡ b → sum_by (one_of x) (n ∷ l) ≤ 1
    by_test x n l others h true e =
        let same : n.process.0 ≡ x = eqb-true _ _ e in
        omega (arith, sum_by-cons (one_of x) n l, one_of-le x n, none_from_lacks x l (All-weaker (λ m. n.process.0 ≢ m.process.0) (λ m. is_of x m ≡ false) (λ m d. ne_eqb m.process.0 x (λ k. d (same ∙ sym k))) l others))
    by_test x n l others h false e = omega (arith, sum_by-cons (one_of x) n l, one_of-zero x n e)

-- ---- what a list tells of a process that it has, and of one that it lacks

pub notice_of-lacks : (x : ℕ) (l : List Notice) → All (λ m. is_of x m ≡ false) l → notice_of x l ≡ None
notice_of-lacks x [] a = refl
notice_of-lacks x (n ∷ l) a = find-cons_no (is_of x) n l (All-head (λ m. is_of x m ≡ false) n l a) ∙ notice_of-lacks x l (All-tail (λ m. is_of x m ≡ false) n l a)

pub notice_of-around : (x : ℕ) (front back : List Notice) (n : Notice) → All (λ m. is_of x m ≡ false) front → n.process.0 ≡ x → notice_of x (front ++ n ∷ back) ≡ Some n
notice_of-around x [] back n a e = find-cons_yes (is_of x) n back (eq-eqb _ _ e)
notice_of-around x (m ∷ front) back n a e =
    find-cons_no (is_of x) m (front ++ n ∷ back) (All-head (λ k. is_of x k ≡ false) m front a)
    ∙ notice_of-around x front back n (All-tail (λ k. is_of x k ≡ false) m front a) e

pub after_first-lacks : (x : ℕ) (l : List Notice) → All (λ m. is_of x m ≡ false) l → after_first (is_of x) l ≡ []
after_first-lacks x [] a = refl
after_first-lacks x (n ∷ l) a = after_first-cons_no (is_of x) n l (All-head (λ m. is_of x m ≡ false) n l a) ∙ after_first-lacks x l (All-tail (λ m. is_of x m ≡ false) n l a)

pub removed-around : (x : ℕ) (front back : List Notice) (n : Notice) → All (λ m. is_of x m ≡ false) front → All (λ m. is_of x m ≡ false) back → n.process.0 ≡ x → removed x (front ++ n ∷ back) ≡ front ++ back
removed-around x front back n a b e =
    filter-append (λ m. not (is_of x m)) front (n ∷ back)
    ∙ ap (λ k. k ++ removed x (n ∷ back)) (removed-lacks x front a)
    ∙ ap (λ k. front ++ k) (filter-cons_no (λ m. not (is_of x m)) n back (not_from_true _ (eq-eqb _ _ e)) ∙ removed-lacks x back b)

pub first_process-get : (l : List Notice) → option_map (λ (n : Notice). n.process) (slice_get l 0) ≡ first_process l
first_process-get [] = refl
first_process-get (n ∷ l) = refl
