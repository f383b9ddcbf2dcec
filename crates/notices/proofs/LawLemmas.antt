-- Where a placed notice stands, and that the others stay.
use Rattle.std.proofs.Common.{◌≡◌, ℕ, ℤ, ◌<ℤ◌, ◌≤ℤ◌, Bool, true, false, not, eqb, cond, Option, Some, None, List, [], ◌∷◌, ◌++◌, refl, sym, ap, ◌∙◌, subst, arith}
use Rattle.std.specs.List.{All, filter, before_first, after_first}
use Rattle.std.proofs.lemmas.Bool.{eq-eqb, not-true, not_from_true}
use Rattle.std.proofs.lemmas.Int.{ints}
use Rattle.std.proofs.lemmas.List.{append_assoc}
use Rattle.std.proofs.lemmas.List.Elements.{All-cons, All-weaker, All-filter, filter-append, filter_passes}
use Rattle.notices.specs.declared.notice.Notice.{Notice}
use Rattle.notices.specs.Notices.{is_of, is_earlier_than, is_at_most, is_at_least, is_later_than, notice_of, removed, placed_between, front_at, back_at, placed_at, placed_direct, placed_beside, placed_near}
use Rattle.notices.specs.Schedule.{IsOrdered}
use Rattle.notices.proofs.ListLemmas.{AllPairs-head, filter-all, filter-none, filter-cons_no}
use Rattle.notices.proofs.PlaceLemmas.{before_first-append, after_first-append}
use Rattle.notices.proofs.ScheduleLemmas.{NoLater, front_at-back_at, notice_parts}

-- ---- what stands in front of a placed notice, and behind it

not_of : (x : ℕ) (l : List Notice) → All (λ m. is_of x m ≡ false) (removed x l)
not_of x l =
    All-weaker (λ m. not (is_of x m) ≡ true) (λ m. is_of x m ≡ false) (λ m e. not-true _ e) (removed x l)
    (filter_passes (λ m. not (is_of x m)) l)

pub before_first-placed : (front back : List Notice) (n : Notice) → before_first (is_of n.process.0) (placed_between front n back) ≡ removed n.process.0 front
before_first-placed front back n =
    before_first-append (is_of n.process.0) (removed n.process.0 front) (removed n.process.0 back) n (not_of n.process.0 front) (eq-eqb _ _ refl)

pub after_first-placed : (front back : List Notice) (n : Notice) → after_first (is_of n.process.0) (placed_between front n back) ≡ removed n.process.0 back
after_first-placed front back n =
    after_first-append (is_of n.process.0) (removed n.process.0 front) (removed n.process.0 back) n (not_of n.process.0 front) (eq-eqb _ _ refl)

pub later_behind : (l : List Notice) (x : ℕ) (t : ℤ) → All (λ m. t <ℤ m.time) (after_first (is_of x) (placed_at t false x l))
later_behind l x t =
    let n : Notice = record { time = t; process = record { 0 = x } } in
    let later : All (λ m. t <ℤ m.time) (filter (is_later_than t) l) =
    All-weaker (λ m. is_later_than t m ≡ true) (λ m. t <ℤ m.time) (λ m e. grind (arith, ints)) (filter (is_later_than t) l) (filter_passes (is_later_than t) l) in
    subst (λ k. All (λ m. t <ℤ m.time) k) (sym (after_first-placed (filter (is_at_most t) l) (filter (is_later_than t) l) n))
    (All-filter (λ m. not (is_of x m)) (λ m. t <ℤ m.time) (filter (is_later_than t) l) later)

pub earlier_in_front : (l : List Notice) (x : ℕ) (t : ℤ) → All (λ m. m.time <ℤ t) (before_first (is_of x) (placed_at t true x l))
earlier_in_front l x t =
    let n : Notice = record { time = t; process = record { 0 = x } } in
    let earlier : All (λ m. m.time <ℤ t) (filter (is_earlier_than t) l) =
    All-weaker (λ m. is_earlier_than t m ≡ true) (λ m. m.time <ℤ t) (λ m e. grind (arith, ints)) (filter (is_earlier_than t) l) (filter_passes (is_earlier_than t) l) in
    subst (λ k. All (λ m. m.time <ℤ t) k) (sym (before_first-placed (filter (is_earlier_than t) l) (filter (is_at_least t) l) n))
    (All-filter (λ m. not (is_of x m)) (λ m. m.time <ℤ t) (filter (is_earlier_than t) l) earlier)

pub direct_as_prior : (n : Notice) (l : List Notice) (x : ℕ) → IsOrdered (n ∷ l) → placed_direct x (n ∷ l) ≡ placed_at n.time true x (n ∷ l)
direct_as_prior n l x ordered =
    let m : Notice = record { time = n.time; process = record { 0 = x } } in
    let no_later : All (NoLater n) (n ∷ l) = All-cons (NoLater n) n l (same n.time) (AllPairs-head NoLater n l ordered) in
    let none : filter (is_earlier_than n.time) (n ∷ l) ≡ [] =
    filter-none (is_earlier_than n.time) (n ∷ l)
    (All-weaker (NoLater n) (λ k. is_earlier_than n.time k ≡ false) (λ k h. not_earlier n k h) (n ∷ l) no_later) in
    let all : filter (is_at_least n.time) (n ∷ l) ≡ n ∷ l =
    filter-all (is_at_least n.time) (n ∷ l)
    (All-weaker (NoLater n) (λ k. is_at_least n.time k ≡ true) (λ k h. at_least n k h) (n ∷ l) no_later) in
    sym (ap (λ f. placed_between f m (filter (is_at_least n.time) (n ∷ l))) none ∙ ap (λ b. placed_between [] m b) all)
  where
    same : (t : ℤ) → t ≤ℤ t
    same t = grind (arith, ints)

    not_earlier : (n k : Notice) → NoLater n k → is_earlier_than n.time k ≡ false
    not_earlier n k h = grind (arith, ints)

    at_least : (n k : Notice) → NoLater n k → is_at_least n.time k ≡ true
    at_least n k h = grind (arith, ints)

-- ---- the others

removed-removed : (x : ℕ) (l : List Notice) → removed x (removed x l) ≡ removed x l
removed-removed x l = filter-all (λ m. not (is_of x m)) (removed x l) (filter_passes (λ m. not (is_of x m)) l)

pub removed-placed : (front back l : List Notice) (n : Notice) → front ++ back ≡ l → removed n.process.0 (placed_between front n back) ≡ removed n.process.0 l
removed-placed front back l n parts =
    let x = n.process.0 in
    let keep : Notice → Bool = λ m. not (is_of x m) in
    filter-append keep (removed x front) (n ∷ removed x back)
    ∙ ap (λ k. removed x (removed x front) ++ k) (filter-cons_no keep n (removed x back) (not_from_true _ (eq-eqb _ _ refl)))
    ∙ ap (λ k. k ++ removed x (removed x back)) (removed-removed x front)
    ∙ ap (λ k. removed x front ++ k) (removed-removed x back)
    ∙ sym (filter-append keep front back) ∙ ap (removed x) parts

pub removed-placed_at : (l : List Notice) (x : ℕ) (t : ℤ) (prior : Bool) → IsOrdered l → removed x (placed_at t prior x l) ≡ removed x l
removed-placed_at l x t prior ordered =
    removed-placed (front_at t prior l) (back_at t prior l) l (record { time = t; process = record { 0 = x } }) (front_at-back_at t prior l ordered)

pub removed-placed_direct : (l : List Notice) (x : ℕ) → removed x (placed_direct x l) ≡ removed x l
removed-placed_direct [] x = refl
removed-placed_direct (n ∷ l) x = removed-placed [] (n ∷ l) (n ∷ l) (record { time = n.time; process = record { 0 = x } }) refl

pub removed-placed_near : (l : List Notice) (x y : ℕ) (before : Bool) → removed x (placed_near before y x l) ≡ removed x l
removed-placed_near l x y before = by_test (eqb y x) x l (placed_beside before (notice_of y l) x l) (beside before (notice_of y l) y x l refl)
  where
    by_test : (b : Bool) (x : ℕ) (l k : List Notice) → removed x k ≡ removed x l → removed x (cond b l k) ≡ removed x l
    by_test true x l k e = refl
    by_test false x l k e = e

    beside : (before : Bool) (o : Option Notice) (y x : ℕ) (l : List Notice) → notice_of y l ≡ o → removed x (placed_beside before o x l) ≡ removed x l
    beside before None y x l found = removed-removed x l
    beside true (Some m) y x l found =
        removed-placed (before_first (is_of m.process.0) l) (m ∷ after_first (is_of m.process.0) l) l (record { time = m.time; process = record { 0 = x } }) (notice_parts y l m found)
    beside false (Some m) y x l found =
        removed-placed (before_first (is_of m.process.0) l ++ m ∷ []) (after_first (is_of m.process.0) l) l (record { time = m.time; process = record { 0 = x } })
        (append_assoc (before_first (is_of m.process.0) l) (m ∷ []) (after_first (is_of m.process.0) l) ∙ notice_parts y l m found)
