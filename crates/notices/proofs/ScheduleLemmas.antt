-- Lists of notices stay ordered, with each process at most once, whatever is removed and placed.
use Rattle.std.proofs.Common.{◌≡◌, ◌≢◌, ℕ, ℤ, pos, ◌+◌, ◌<◌, ◌≤◌, ◌≤ℤ◌, suc, Bool, true, false, not, eqb, is_some, Option, Some, None, cond, inl, inr, List, [], ◌∷◌, ◌++◌, length, get_or, take, drop, map, refl, sym, ap, ◌∙◌, subst, arith}
use Rattle.std.specs.List.{All, filter, position, insert, IsDistinct, list_any, before_first, after_first}
use Rattle.std.proofs.Math.Seq.{drop-cons}
use Rattle.std.specs.List.Sorted.{IsPartitionedBy}
use Rattle.std.proofs.lemmas.Bool.{eqb-true, eqb-false, ne_eqb, not-true, not_from_true, not_from_false, cond-false, or_cases, cases_lt}
use Rattle.std.proofs.lemmas.Int.{ints}
use Rattle.std.proofs.lemmas.List.Elements.{All-nil, All-cons, All-head, All-tail, All-weaker, All-filter, All-push, All-map, filter-append, filter_passes, recursion_from_All}
use Rattle.std.proofs.lemmas.List.Kept.{AllPairs-cons, AllPairs-filter}
use Rattle.std.proofs.lemmas.List.{length-map, append_assoc, take_more}
use Rattle.std.proofs.lemmas.Map.Steps.{length-le_from_distinct_below}
use Rattle.notices.specs.declared.notice.Notice.{Notice}
use Rattle.notices.specs.Notices.{is_of, is_earlier_than, is_at_most, is_at_least, is_later_than, notice_of, has_notice, removed, placed_between, front_at, back_at, placed_at, placed_direct, placed_beside, placed_near}
use Rattle.notices.specs.Schedule.{IsOrdered, IsOnce, IsSchedule}
use Rattle.notices.proofs.ListLemmas.{AllPairs-nil, AllPairs-head, AllPairs-tail, All-around, AllPairs-around, AllPairs-across, AllPairs-back, filter-filter, filter-cons_yes, filter-cons_no, filter-all, filter-parts}
use Rattle.notices.proofs.PlaceLemmas.{position_found, position_none, find-passes, find-parts, find-filter, before_first-filter, after_first-filter, find-cons_yes, find-cons_no, before_first-cons_yes, before_first-cons_no, after_first-cons_yes, after_first-cons_no}

-- ---- the relations behind `IsOrdered` and `IsOnce`

abbrev pub NoLater : Notice → Notice → Type 0
NoLater m n = m.time ≤ℤ n.time

abbrev pub OtherProcess : Notice → Notice → Type 0
OtherProcess m n = m.process.0 ≢ n.process.0

-- ---- removal

-- what is left has other processes
pub removed-others : (x : ℕ) (l : List Notice) → All (λ m. m.process.0 ≢ x) (removed x l)
removed-others x l =
    All-weaker (λ m. not (is_of x m) ≡ true) (λ m. m.process.0 ≢ x) (λ m e. eqb-false m.process.0 x (not-true _ e)) (removed x l)
    (filter_passes (λ m. not (is_of x m)) l)

pub IsSchedule-removed : (x : ℕ) (l : List Notice) (room : ℕ) → IsSchedule l room → IsSchedule (removed x l) room
IsSchedule-removed x l room s = record {
  ordered = AllPairs-filter NoLater (λ m. not (is_of x m)) l s.ordered;
  once = AllPairs-filter OtherProcess (λ m. not (is_of x m)) l s.once;
  within = All-filter (λ m. not (is_of x m)) (λ m. m.process.0 < room) l s.within;
}

pub IsSchedule-room : (l : List Notice) (room room' : ℕ) → IsSchedule l room → room ≤ room' → IsSchedule l room'
IsSchedule-room l room room' s more = record {
  ordered = s.ordered;
  once = s.once;
  within = All-weaker (λ m. m.process.0 < room) (λ m. m.process.0 < room') (λ m h. omega arith) l s.within;
}

pub IsSchedule-nil : (room : ℕ) → IsSchedule [] room
IsSchedule-nil room = record {
  ordered = AllPairs-nil NoLater;
  once = AllPairs-nil OtherProcess;
  within = All-nil (λ m. m.process.0 < room);
}

-- a process without a notice
pub removed_none : (x : ℕ) (l : List Notice) → notice_of x l ≡ None → removed x l ≡ l
removed_none x [] none = refl
removed_none x (n ∷ l) none = by_test x n l none (removed_none x l) (is_of x n) refl
  where
    by_test : (x : ℕ) (n : Notice) (l : List Notice) → notice_of x (n ∷ l) ≡ None → (notice_of x l ≡ None → removed x l ≡ l) → (b : Bool) → is_of x n ≡ b → removed x (n ∷ l) ≡ n ∷ l
    by_test x n l none h true e = absurd (cc (find-cons_yes (is_of x) n l e))
    by_test x n l none h false e =
        filter-cons_yes (λ m. not (is_of x m)) n l (not_from_false _ e)
        ∙ ap (λ k. n ∷ k) (h (sym (find-cons_no (is_of x) n l e) ∙ none))

-- a process with a notice has no other
pub removed_found : (x : ℕ) (l : List Notice) → IsOnce l → is_some (notice_of x l) ≡ true → removed x l ≡ before_first (is_of x) l ++ after_first (is_of x) l
removed_found x [] once found = absurd (cc)
removed_found x (n ∷ l) once found =
    by_test x n l (AllPairs-head OtherProcess n l once) found (removed_found x l (AllPairs-tail OtherProcess n l once)) (is_of x n) refl
  where
    by_test : (x : ℕ) (n : Notice) (l : List Notice) → All (OtherProcess n) l → is_some (notice_of x (n ∷ l)) ≡ true → (is_some (notice_of x l) ≡ true → removed x l ≡ before_first (is_of x) l ++ after_first (is_of x) l) → (b : Bool) → is_of x n ≡ b → removed x (n ∷ l) ≡ before_first (is_of x) (n ∷ l) ++ after_first (is_of x) (n ∷ l)
    by_test x n l others found h true e =
        let same : n.process.0 ≡ x = eqb-true _ _ e in
        filter-cons_no (λ m. not (is_of x m)) n l (not_from_true _ e)
        ∙ filter-all (λ m. not (is_of x m)) l
        (All-weaker (OtherProcess n) (λ m. not (is_of x m) ≡ true) (λ m d. not_from_false _ (ne_eqb m.process.0 x (λ k. d (same ∙ sym k)))) l others)
        ∙ sym (ap (λ k. k ++ after_first (is_of x) (n ∷ l)) (before_first-cons_yes (is_of x) n l e) ∙ after_first-cons_yes (is_of x) n l e)
    by_test x n l others found h false e =
        filter-cons_yes (λ m. not (is_of x m)) n l (not_from_false _ e)
        ∙ ap (λ k. n ∷ k) (h (ap is_some (sym (find-cons_no (is_of x) n l e)) ∙ found))
        ∙ sym (ap (λ k. k ++ after_first (is_of x) (n ∷ l)) (before_first-cons_no (is_of x) n l e)
        ∙ ap (λ k. n ∷ (before_first (is_of x) l ++ k)) (after_first-cons_no (is_of x) n l e))

-- ---- the room

IsDistinct-processes : (l : List Notice) → IsOnce l → IsDistinct eqb (map (λ n. n.process.0) l)
unfolding IsDistinct
IsDistinct-processes [] once = tt
IsDistinct-processes (n ∷ l) once = (
  recursion_from_All (λ y. eqb n.process.0 y ≡ false) (map (λ m. m.process.0) l)
      (All-map (λ y. eqb n.process.0 y ≡ false) (λ m. m.process.0) l
      (All-weaker (OtherProcess n) (λ m. eqb n.process.0 m.process.0 ≡ false) (λ m d. ne_eqb _ _ d) l (AllPairs-head OtherProcess n l once))),
  IsDistinct-processes l (AllPairs-tail OtherProcess n l once),
)

below_from_list_any : (xs : List ℕ) (n : ℕ) → All (λ x. x < n) xs → (q : ℕ) → list_any (eqb q) xs ≡ true → q < n
below_from_list_any [] n a q h = absurd (cc)
below_from_list_any (x ∷ xs) n a q h =
    elim (or_cases (eqb q x) (list_any (eqb q) xs) h) [
      | inl e ↦ subst (λ y. y < n) (sym (eqb-true q x e)) (All-head (λ y. y < n) x xs a)
      | inr e ↦ below_from_list_any xs n (All-tail (λ y. y < n) x xs a) q e
    ]

-- there are no more notices than processes
pub length-le_room : (l : List Notice) (room : ℕ) → IsOnce l → All (λ n. n.process.0 < room) l → length l ≤ room
length-le_room l room once within =
    let short = length-le_from_distinct_below (map (λ n. n.process.0) l) room (IsDistinct-processes l once)
    (below_from_list_any (map (λ n. n.process.0) l) room (All-map (λ y. y < room) (λ n. n.process.0) l within)) in
    rw length-map at short

-- without the notice of a process there is room for one
pub length-removed : (x : ℕ) (l : List Notice) (room : ℕ) → IsSchedule l room → x < room → length (removed x l) < room
length-removed x l room s h =
    let n : Notice = record { time = pos 0; process = record { 0 = x } } in
    let left = IsSchedule-removed x l room s in
    let other : All (OtherProcess n) (removed x l) =
    All-weaker (λ m. m.process.0 ≢ x) (OtherProcess n) (λ m d k. d (sym k)) (removed x l) (removed-others x l) in
    let short : length (n ∷ removed x l) ≤ room =
    length-le_room (n ∷ removed x l) room
    (AllPairs-cons OtherProcess n (removed x l) other left.once)
    (All-cons (λ m. m.process.0 < room) n (removed x l) h left.within) in
    omega arith

-- ---- placing

-- a notice between two parts of an ordered list, with a time between theirs
pub IsSchedule-placed : (front back l : List Notice) (n : Notice) (room : ℕ) → front ++ back ≡ l → IsSchedule l room → n.process.0 < room → All (λ m. m.time ≤ℤ n.time) front → All (λ m. n.time ≤ℤ m.time) back → IsSchedule (placed_between front n back) room
IsSchedule-placed front back l n room parts s h before behind =
    let x = n.process.0 in
    let keep : Notice → Bool = λ m. not (is_of x m) in
    let left : IsSchedule (removed x front ++ removed x back) room =
    subst (λ k. IsSchedule k room) (ap (removed x) (sym parts) ∙ filter-append keep front back) (IsSchedule-removed x l room s) in
    record {
      ordered = AllPairs-around NoLater (removed x front) (removed x back) n
          (All-filter keep (λ m. m.time ≤ℤ n.time) front before) (All-filter keep (λ m. n.time ≤ℤ m.time) back behind) left.ordered;
      once = AllPairs-around OtherProcess (removed x front) (removed x back) n
          (removed-others x front)
          (All-weaker (λ m. m.process.0 ≢ x) (OtherProcess n) (λ m d k. d (sym k)) (removed x back) (removed-others x back))
          left.once;
      within = All-around (λ m. m.process.0 < room) (removed x front) (removed x back) n left.within h;
    }

-- ---- the two parts at a time

pub at_most-split : (t : ℤ) (n : Notice) → is_later_than t n ≡ not (is_at_most t n)
at_most-split t n = grind (arith, ints)

pub earlier-split : (t : ℤ) (n : Notice) → is_at_least t n ≡ not (is_earlier_than t n)
earlier-split t n = grind (arith, ints)

pub at_most-down : (t : ℤ) (m n : Notice) → NoLater m n → is_at_most t n ≡ true → is_at_most t m ≡ true
at_most-down t m n h e = grind (arith, ints)

pub earlier-down : (t : ℤ) (m n : Notice) → NoLater m n → is_earlier_than t n ≡ true → is_earlier_than t m ≡ true
earlier-down t m n h e = grind (arith, ints)

pub IsPartitionedBy-down : (p : Notice → Bool) → ((m n : Notice) → NoLater m n → p n ≡ true → p m ≡ true) → (l : List Notice) → IsOrdered l → IsPartitionedBy p l
IsPartitionedBy-down p down l ordered i j d le h e =
    elim (cases_lt i j) [
      | inl lt ↦ down (get_or l i d) (get_or l j d) (ordered i j d lt h) e
      | inr ge ↦ (let same : j ≡ i = omega arith in subst (λ k. p (get_or l k d) ≡ true) same e)
    ]

-- what stands in front of the place at a time, and behind it
pub front_at-back_at : (t : ℤ) (prior : Bool) (l : List Notice) → IsOrdered l → front_at t prior l ++ back_at t prior l ≡ l
front_at-back_at t true l ordered = filter-parts NoLater (is_earlier_than t) (is_at_least t) (earlier-split t) (earlier-down t) l ordered
front_at-back_at t false l ordered = filter-parts NoLater (is_at_most t) (is_later_than t) (at_most-split t) (at_most-down t) l ordered

pub front_at-times : (t : ℤ) (prior : Bool) (l : List Notice) → All (λ m. m.time ≤ℤ t) (front_at t prior l)
front_at-times t true l =
    All-weaker (λ m. is_earlier_than t m ≡ true) (λ m. m.time ≤ℤ t) (λ m e. grind (arith, ints)) (filter (is_earlier_than t) l) (filter_passes (is_earlier_than t) l)
front_at-times t false l =
    All-weaker (λ m. is_at_most t m ≡ true) (λ m. m.time ≤ℤ t) (λ m e. grind (arith, ints)) (filter (is_at_most t) l) (filter_passes (is_at_most t) l)

pub back_at-times : (t : ℤ) (prior : Bool) (l : List Notice) → All (λ m. t ≤ℤ m.time) (back_at t prior l)
back_at-times t true l =
    All-weaker (λ m. is_at_least t m ≡ true) (λ m. t ≤ℤ m.time) (λ m e. grind (arith, ints)) (filter (is_at_least t) l) (filter_passes (is_at_least t) l)
back_at-times t false l =
    All-weaker (λ m. is_later_than t m ≡ true) (λ m. t ≤ℤ m.time) (λ m e. grind (arith, ints)) (filter (is_later_than t) l) (filter_passes (is_later_than t) l)

-- ---- each way of placing keeps the list a schedule

pub IsSchedule-placed_at : (t : ℤ) (prior : Bool) (x : ℕ) (l : List Notice) (room : ℕ) → IsSchedule l room → x < room → IsSchedule (placed_at t prior x l) room
IsSchedule-placed_at t prior x l room s h =
    IsSchedule-placed (front_at t prior l) (back_at t prior l) l (record { time = t; process = record { 0 = x } }) room
    (front_at-back_at t prior l s.ordered) s h (front_at-times t prior l) (back_at-times t prior l)

≤ℤ-same : (t : ℤ) → t ≤ℤ t
≤ℤ-same t = grind (arith, ints)

pub IsSchedule-placed_direct : (x : ℕ) (l : List Notice) (room : ℕ) → IsSchedule l room → x < room → IsSchedule (placed_direct x l) room
IsSchedule-placed_direct x [] room s h = s
IsSchedule-placed_direct x (n ∷ l) room s h =
    IsSchedule-placed [] (n ∷ l) (n ∷ l) (record { time = n.time; process = record { 0 = x } }) room refl s h
    (All-nil (λ m. m.time ≤ℤ n.time))
    (All-cons (λ m. n.time ≤ℤ m.time) n l (≤ℤ-same n.time) (AllPairs-head NoLater n l s.ordered))

-- a notice that is found, as the list around it
pub notice_parts : (y : ℕ) (l : List Notice) (m : Notice) → notice_of y l ≡ Some m → before_first (is_of m.process.0) l ++ m ∷ after_first (is_of m.process.0) l ≡ l
notice_parts y l m found =
    let same : m.process.0 ≡ y = eqb-true _ _ (find-passes (is_of y) l m found) in
    subst (λ z. before_first (is_of z) l ++ m ∷ after_first (is_of z) l ≡ l) (sym same) (find-parts (is_of y) l m found)

pub IsSchedule-placed_beside : (before : Bool) (y x : ℕ) (o : Option Notice) (l : List Notice) (room : ℕ) → notice_of y l ≡ o → IsSchedule l room → x < room → IsSchedule (placed_beside before o x l) room
IsSchedule-placed_beside before y x None l room found s h = IsSchedule-removed x l room s
IsSchedule-placed_beside before y x (Some m) l room found s h =
    let front = before_first (is_of m.process.0) l in
    let back = after_first (is_of m.process.0) l in
    let parts : front ++ m ∷ back ≡ l = notice_parts y l m found in
    let ordered : IsOrdered (front ++ m ∷ back) = subst IsOrdered (sym parts) s.ordered in
    by_side before front back l m x room parts s h
    (AllPairs-across NoLater front back m ordered)
    (AllPairs-head NoLater m back (AllPairs-back NoLater front (m ∷ back) ordered))
  where
    by_side : (before : Bool) (front back l : List Notice) (m : Notice) (x room : ℕ) → front ++ m ∷ back ≡ l → IsSchedule l room → x < room → All (λ n. n.time ≤ℤ m.time) front → All (λ n. m.time ≤ℤ n.time) back → IsSchedule (cond before (placed_between front (record { time = m.time; process = record { 0 = x } }) (m ∷ back)) (placed_between (front ++ m ∷ []) (record { time = m.time; process = record { 0 = x } }) back)) room
    by_side true front back l m x room parts s h earlier later =
        IsSchedule-placed front (m ∷ back) l (record { time = m.time; process = record { 0 = x } }) room parts s h earlier
        (All-cons (λ n. m.time ≤ℤ n.time) m back (≤ℤ-same m.time) later)
    by_side false front back l m x room parts s h earlier later =
        IsSchedule-placed (front ++ m ∷ []) back l (record { time = m.time; process = record { 0 = x } }) room
        (append_assoc front (m ∷ []) back ∙ parts) s h
        (All-push (λ n. n.time ≤ℤ m.time) front m earlier (≤ℤ-same m.time)) later

pub IsSchedule-placed_near : (before : Bool) (y x : ℕ) (l : List Notice) (room : ℕ) → IsSchedule l room → x < room → IsSchedule (placed_near before y x l) room
IsSchedule-placed_near before y x l room s h = by_test (eqb y x) l (placed_beside before (notice_of y l) x l) room s (IsSchedule-placed_beside before y x (notice_of y l) l room refl s h)
  where
    by_test : (b : Bool) (l k : List Notice) (room : ℕ) → IsSchedule l room → IsSchedule k room → IsSchedule (cond b l k) room
    by_test true l k room s r = s
    by_test false l k room s r = r

-- ---- a notice that goes out and comes in again at a place of what is left

-- what the place of a process tells
pub notice_of-none : (x : ℕ) (l : List Notice) → position (is_of x) l ≡ None → notice_of x l ≡ None
notice_of-none x l e = position_none (is_of x) l e

pub has_notice-none : (x : ℕ) (l : List Notice) → position (is_of x) l ≡ None → false ≡ has_notice x l
has_notice-none x l e = let none : notice_of x l ≡ None = notice_of-none x l e in sym (ap (is_some {T = Notice}) none)

pub has_notice-place : (x : ℕ) (l : List Notice) (i : ℕ) → position (is_of x) l ≡ Some i → true ≡ has_notice x l
has_notice-place x [] i e = absurd (let short = (position_found (is_of x) [] i e).within in omega arith)
has_notice-place x (n ∷ l) i e =
    let found : notice_of x (n ∷ l) ≡ Some (get_or (n ∷ l) i n) = (position_found (is_of x) (n ∷ l) i e).found n in
    sym (ap (is_some {T = Notice}) found)

pub has_notice-position : (x : ℕ) (l : List Notice) → is_some (position (is_of x) l) ≡ has_notice x l
has_notice-position x l = by_answer x l (position (is_of x) l) refl
  where
    by_answer : (x : ℕ) (l : List Notice) (o : Option ℕ) → position (is_of x) l ≡ o → is_some o ≡ has_notice x l
    by_answer x l None e = has_notice-none x l e
    by_answer x l (Some i) e = has_notice-place x l i e

pub removed_at : (x : ℕ) (l : List Notice) (i : ℕ) → IsOnce l → position (is_of x) l ≡ Some i → take i l ++ drop (i + 1) l ≡ removed x l
removed_at x l i once e =
    let place = position_found (is_of x) l i e in
    ap (λ k. k ++ drop (i + 1) l) (sym place.front) ∙ ap (λ k. before_first (is_of x) l ++ k) (sym place.back)
    ∙ sym (removed_found x l once (sym (has_notice-place x l i e)))

pub insert-placed_direct : (x : ℕ) (l : List Notice) (m : Notice) → l ≢ [] → m ≡ get_or l 0 m → insert (removed x l) 0 (record { time = m.time; process = record { 0 = x } }) ≡ placed_direct x l
insert-placed_direct x [] m begun read = absurd (begun refl)
insert-placed_direct x (n ∷ l) m begun read =
    let add : Notice → List Notice = λ z. record { time = z.time; process = record { 0 = x } } ∷ removed x (n ∷ l) in ap add read

pub insert-placed_at : (t : ℤ) (prior : Bool) (x : ℕ) (l : List Notice) (i : ℕ) → take i (removed x l) ≡ front_at t prior (removed x l) → drop i (removed x l) ≡ back_at t prior (removed x l) → insert (removed x l) i (record { time = t; process = record { 0 = x } }) ≡ placed_at t prior x l
insert-placed_at t prior x l i front back =
    let n : Notice = record { time = t; process = record { 0 = x } } in
    ap (λ k. k ++ n ∷ drop i (removed x l)) (front ∙ front_at-removed t prior x l)
    ∙ ap (λ k. removed x (front_at t prior l) ++ n ∷ k) (back ∙ back_at-removed t prior x l)
  where
    front_at-removed : (t : ℤ) (prior : Bool) (x : ℕ) (l : List Notice) → front_at t prior (removed x l) ≡ removed x (front_at t prior l)
    front_at-removed t true x l = filter-filter (is_earlier_than t) (λ m. not (is_of x m)) l
    front_at-removed t false x l = filter-filter (is_at_most t) (λ m. not (is_of x m)) l

    back_at-removed : (t : ℤ) (prior : Bool) (x : ℕ) (l : List Notice) → back_at t prior (removed x l) ≡ removed x (back_at t prior l)
    back_at-removed t true x l = filter-filter (is_at_least t) (λ m. not (is_of x m)) l
    back_at-removed t false x l = filter-filter (is_later_than t) (λ m. not (is_of x m)) l

-- the notices of the other processes are not touched by a removal
others_kept : (x y : ℕ) → x ≢ y → (m : Notice) → is_of y m ≡ true → not (is_of x m) ≡ true
others_kept x y other m e = not_from_false _ (ne_eqb m.process.0 x (λ k. other (sym k ∙ eqb-true _ _ e)))

pub notice_of-removed : (x y : ℕ) → x ≢ y → (l : List Notice) → notice_of y (removed x l) ≡ notice_of y l
notice_of-removed x y other l = find-filter (is_of y) (λ m. not (is_of x m)) (others_kept x y other) l

pub placed_near-other : (before : Bool) (x y : ℕ) → x ≢ y → (l : List Notice) → placed_near before y x l ≡ placed_beside before (notice_of y l) x l
placed_near-other before x y other l = cond-false (eqb y x) l (placed_beside before (notice_of y l) x l) (ne_eqb y x (λ k. other (sym k)))

pub insert-placed_near : (before : Bool) (x y : ℕ) → x ≢ y → (l : List Notice) (i : ℕ) (m : Notice) → position (is_of y) (removed x l) ≡ Some i → m ≡ get_or (removed x l) i m → insert (removed x l) (cond before i (i + 1)) (record { time = m.time; process = record { 0 = x } }) ≡ placed_near before y x l
insert-placed_near before x y other l i m e read =
    let left = removed x l in
    let place = position_found (is_of y) left i e in
    let found : notice_of y l ≡ Some m = sym (notice_of-removed x y other l) ∙ place.found m ∙ ap Some (sym read) in
    let same : y ≡ m.process.0 = sym (eqb-true _ _ (find-passes (is_of y) l m found)) in
    let front : take i left ≡ removed x (before_first (is_of m.process.0) l) =
    sym place.front ∙ before_first-filter (is_of y) (λ n. not (is_of x n)) (others_kept x y other) l
    ∙ ap (λ z. removed x (before_first (is_of z) l)) same in
    let back : drop (i + 1) left ≡ removed x (after_first (is_of m.process.0) l) =
    sym place.back ∙ after_first-filter (is_of y) (λ n. not (is_of x n)) (others_kept x y other) l
    ∙ ap (λ z. removed x (after_first (is_of z) l)) same in
    let this : drop i left ≡ m ∷ drop (i + 1) left =
    drop-cons left i m place.within ∙ ap (λ z. z ∷ drop (suc i) left) (sym read) ∙ ap (λ k. m ∷ drop k left) (suc_is i) in
    let through : take (i + 1) left ≡ take i left ++ m ∷ [] =
    take_more left i m place.within ∙ ap (λ z. take i left ++ z ∷ []) (sym read) in
    let kept : not (is_of x m) ≡ true = others_kept x y other m (find-passes (is_of y) l m found) in
    by_side before x m left i (before_first (is_of m.process.0) l) (after_first (is_of m.process.0) l) kept front back this through
    ∙ sym (placed_near-other before x y other l ∙ ap (λ o. placed_beside before o x l) found)
  where
    suc_is : (i : ℕ) → suc i ≡ i + 1
    suc_is i = omega arith

    by_side : (before : Bool) (x : ℕ) (m : Notice) (left : List Notice) (i : ℕ) (front back : List Notice) → not (is_of x m) ≡ true → take i left ≡ removed x front → drop (i + 1) left ≡ removed x back → drop i left ≡ m ∷ drop (i + 1) left → take (i + 1) left ≡ take i left ++ m ∷ [] → insert left (cond before i (i + 1)) (record { time = m.time; process = record { 0 = x } }) ≡ cond before (placed_between front (record { time = m.time; process = record { 0 = x } }) (m ∷ back)) (placed_between (front ++ m ∷ []) (record { time = m.time; process = record { 0 = x } }) back)
    by_side true x m left i front back kept f b this through =
        let n : Notice = record { time = m.time; process = record { 0 = x } } in
        ap (λ k. k ++ n ∷ drop i left) f
        ∙ ap (λ k. removed x front ++ n ∷ k) (this ∙ ap (λ k. m ∷ k) b ∙ sym (filter-cons_yes (λ p. not (is_of x p)) m back kept))
    by_side false x m left i front back kept f b this through =
        let n : Notice = record { time = m.time; process = record { 0 = x } } in
        let more : take (i + 1) left ≡ removed x (front ++ m ∷ []) =
        through ∙ ap (λ k. k ++ m ∷ []) f
        ∙ ap (λ k. removed x front ++ k) (sym (filter-cons_yes (λ p. not (is_of x p)) m [] kept))
        ∙ sym (filter-append (λ p. not (is_of x p)) front (m ∷ [])) in
        ap (λ k. k ++ n ∷ drop (i + 1) left) more ∙ ap (λ k. removed x (front ++ m ∷ []) ++ n ∷ k) b
