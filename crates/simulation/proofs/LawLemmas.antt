-- No procedure leaves a notice before the present time; what the answers tell.
use Rattle.std.proofs.Common.{◌≡◌, ℕ, ℤ, pos, ◌+◌, ◌≤ℤ◌, ◌↔◌, Bool, true, false, not, eqb, cond, Option, Some, None, List, [], ◌∷◌, ◌++◌, Result, Ok, Err, refl, sym, ap, ◌∙◌, subst, arith, zero, suc}
use Rattle.std.specs.Prelude.{◌||◌}
use Rattle.std.specs.Int.{int_max}
use Rattle.std.specs.List.{All, filter, before_first, after_first, position_or_len}
use Rattle.std.proofs.lemmas.Bool.{eq-eqb, eqb-true, cond-true, cond-false}
use Rattle.std.proofs.lemmas.Int.{ints, clamps}
use Rattle.std.proofs.lemmas.List.Elements.{All-nil, All-cons, All-head, All-tail, All-append, All-filter, All-push, All-take, All-drop}
use Rattle.sim_base.specs.declared.run_error.RunError.{RunError}
use Rattle.sim_base.specs.declared.run_error.RunError.TheVariants.{NoNoticeLeft, TimeTooLarge, OutsideQualification, OtherSimulation}
use Rattle.notices.specs.declared.notice.Notice.{Notice}
use Rattle.notices.specs.declared.notice.ProcessNo.{ProcessNo}
use Rattle.notices.specs.Notices.{is_of, is_earlier_than, is_at_most, is_at_least, is_later_than, notice_of, removed, placed_between, placed_at, placed_direct, placed_beside}
use Rattle.notices.specs.Schedule.{IsOrdered, IsOnce}
use Rattle.notices.specs.declared.activation.Activation.{Activation}
use Rattle.notices.specs.declared.activation.Placement.{Placement}
use Rattle.notices.specs.declared.activation.Placement.TheVariants.{Direct, At, Delay, Before, After}
use Rattle.notices.specs.declared.next.Next.{Next}
use Rattle.notices.specs.declared.next.Next.TheVariants.{Stay, Resume}
use Rattle.notices.specs.declared.activation.ProcessRef.{ProcessRef}
use Rattle.notices.specs.declared.activation.ProcessRef.TheVariants.{NoProcess, OfAnother, OfThis}
use Rattle.notices.specs.Scheduling.{time, number_of, is_no_process, is_of_another, tested, after_tests, later_by, is_too_late, scheduled_at, held, passivated, without_process, cancelled, placed_beside_process, scheduled, operand_of, does_nothing, activated_process, activated, next_of}
use Rattle.simulation.proofs.SchedulingLemmas.{removed-first}

-- ---- no notice before a time

abbrev NotBefore : ℤ → Notice → Type 0
NotBefore t m = t ≤ℤ m.time

same_time : (t : ℤ) → t ≤ℤ t
same_time t = grind (arith, ints)

-- the first notice of an ordered list is the earliest
from_present : (l : List Notice) → IsOrdered l → All (NotBefore (time l)) l
from_present [] ordered = All-nil (NotBefore (pos 0))
from_present (n ∷ l) ordered =
    All-cons (NotBefore n.time) n l (same_time n.time) (λ k d h. ordered zero (suc k) d (omega arith) (omega arith))

after_removed : (t : ℤ) (x : ℕ) (l : List Notice) → All (NotBefore t) l → All (NotBefore t) (removed x l)
after_removed t x l all = All-filter (λ m. not (is_of x m)) (NotBefore t) l all

after_placed : (t : ℤ) (front back : List Notice) (n : Notice) → All (NotBefore t) front → All (NotBefore t) back → t ≤ℤ n.time → All (NotBefore t) (placed_between front n back)
after_placed t front back n before behind here =
    All-append (NotBefore t) (removed n.process.0 front) (n ∷ removed n.process.0 back)
    (after_removed t n.process.0 front before)
    (All-cons (NotBefore t) n (removed n.process.0 back) here (after_removed t n.process.0 back behind))

after_placed_at : (t moment : ℤ) (prior : Bool) (x : ℕ) (l : List Notice) → All (NotBefore t) l → t ≤ℤ moment → All (NotBefore t) (placed_at moment prior x l)
after_placed_at t moment true x l all h =
    after_placed t (filter (is_earlier_than moment) l) (filter (is_at_least moment) l) (record { time = moment; process = record { 0 = x } })
    (All-filter (is_earlier_than moment) (NotBefore t) l all) (All-filter (is_at_least moment) (NotBefore t) l all) h
after_placed_at t moment false x l all h =
    after_placed t (filter (is_at_most moment) l) (filter (is_later_than moment) l) (record { time = moment; process = record { 0 = x } })
    (All-filter (is_at_most moment) (NotBefore t) l all) (All-filter (is_later_than moment) (NotBefore t) l all) h

after_scheduled_at : (t moment : ℤ) (prior : Bool) (x : ℕ) (l new : List Notice) → scheduled_at moment prior x l ≡ Ok new → All (NotBefore t) l → t ≤ℤ moment → All (NotBefore t) new
after_scheduled_at t moment prior x l new done all h = by_test (is_too_late moment) t (placed_at moment prior x l) new done (after_placed_at t moment prior x l all h)
  where
    by_test : (late : Bool) (t : ℤ) (placed new : List Notice) → ◌≡◌ {A = Result (List Notice) RunError} (cond late (Err TimeTooLarge) (Ok placed)) (Ok new) → All (NotBefore t) placed → All (NotBefore t) new
    by_test true t placed new done all = absurd (cc)
    by_test false t placed new done all = let same : placed ≡ new = cc in subst (λ k. All (NotBefore t) k) same all

later_by-not_before : (t now : ℤ) → now ≤ℤ later_by t now
later_by-not_before t now = omega (arith, ints, clamps)

max-not_before : (t now : ℤ) → now ≤ℤ int_max t now
max-not_before t now = omega (arith, ints, clamps)

-- ---- the procedures

after_list : (t : ℤ) (k new : List Notice) → ◌≡◌ {A = Result (List Notice) RunError} (Ok k) (Ok new) → All (NotBefore t) k → All (NotBefore t) new
after_list t k new done all = let same : k ≡ new = cc in subst (λ z. All (NotBefore t) z) same all

pub held-no_earlier : (l new : List Notice) (t : ℤ) → IsOrdered l → held t l ≡ Ok new → All (λ m. time l ≤ℤ m.time) new
held-no_earlier [] new t ordered done = let same : [] ≡ new = cc in subst (λ k. All (NotBefore (pos 0)) k) same (All-nil (NotBefore (pos 0)))
held-no_earlier (n ∷ l) new t ordered done =
    after_scheduled_at n.time (later_by t n.time) false n.process.0 (n ∷ l) new done (from_present (n ∷ l) ordered) (later_by-not_before t n.time)

pub passivated-no_earlier : (l : List Notice) → IsOrdered l → All (λ m. time l ≤ℤ m.time) (passivated l)
passivated-no_earlier [] ordered = All-nil (NotBefore (pos 0))
passivated-no_earlier (n ∷ l) ordered = All-tail (NotBefore n.time) n l (from_present (n ∷ l) ordered)

pub cancelled-no_earlier : (l new : List Notice) (x : Option ProcessRef) → IsOrdered l → cancelled x l ≡ Ok new → All (λ m. time l ≤ℤ m.time) new
cancelled-no_earlier l new x ordered done = by_tests (tested x None) l (without_process (number_of x) l) new done (without (number_of x) l ordered)
  where
    without : (y : Option ProcessNo) (l : List Notice) → IsOrdered l → All (NotBefore (time l)) (without_process y l)
    without None l ordered = from_present l ordered
    without (Some y) l ordered = after_removed (time l) y.0 l (from_present l ordered)

    by_tests : (r : Result (Unit {0}) RunError) (l k new : List Notice) → after_tests r (Ok k) ≡ Ok new → All (NotBefore (time l)) k → All (NotBefore (time l)) new
    by_tests (Ok u) l k new done all = after_list (time l) k new done all
    by_tests (Err e) l k new done all = absurd (cc)

-- what holds of each notice holds of the one that is found
of_found : (P : Notice → Type 0) (y : ℕ) (l : List Notice) (m : Notice) → All P l → notice_of y l ≡ Some m → P m
of_found P y [] m all found = absurd (cc)
of_found P y (n ∷ l) m all found =
    by_test P y n l m (All-head P n l all) (of_found P y l m (All-tail P n l all)) found (is_of y n) refl
  where
    by_test : (P : Notice → Type 0) (y : ℕ) (n : Notice) (l : List Notice) (m : Notice) → P n → (notice_of y l ≡ Some m → P m) → notice_of y (n ∷ l) ≡ Some m → (b : Bool) → is_of y n ≡ b → P m
    by_test P y n l m here later found true e =
        let same : n ≡ m = cc (cond-true (is_of y n) (Some n) (notice_of y l) e) in subst P same here
    by_test P y n l m here later found false e = later (sym (cond-false (is_of y n) (Some n) (notice_of y l) e) ∙ found)

after_beside : (t : ℤ) (before : Bool) (y x : ℕ) (l : List Notice) (o : Option Notice) → notice_of y l ≡ o → All (NotBefore t) l → All (NotBefore t) (placed_beside before o x l)
after_beside t before y x l None found all = after_removed t x l all
after_beside t true y x l (Some m) found all =
    let here : t ≤ℤ m.time = of_found (NotBefore t) y l m all found in
    let front = All-take (NotBefore t) (position_or_len (is_of m.process.0) l) l all in
    let back = All-drop (NotBefore t) (position_or_len (is_of m.process.0) l + 1) l all in
    after_placed t (before_first (is_of m.process.0) l) (m ∷ after_first (is_of m.process.0) l) (record { time = m.time; process = record { 0 = x } })
    front (All-cons (NotBefore t) m (after_first (is_of m.process.0) l) here back) here
after_beside t false y x l (Some m) found all =
    let here : t ≤ℤ m.time = of_found (NotBefore t) y l m all found in
    let front = All-take (NotBefore t) (position_or_len (is_of m.process.0) l) l all in
    let back = All-drop (NotBefore t) (position_or_len (is_of m.process.0) l + 1) l all in
    after_placed t (before_first (is_of m.process.0) l ++ m ∷ []) (after_first (is_of m.process.0) l) (record { time = m.time; process = record { 0 = x } })
    (All-push (NotBefore t) (before_first (is_of m.process.0) l) m front here) back here

after_beside_process : (t : ℤ) (before : Bool) (y : Option ProcessNo) (x : ℕ) (l : List Notice) → All (NotBefore t) l → All (NotBefore t) (placed_beside_process before y x l)
after_beside_process t before None x l all = after_removed t x l all
after_beside_process t before (Some y) x l all =
    by_test (eqb y.0 x) t l (placed_beside before (notice_of y.0 l) x l) all (after_beside t before y.0 x l (notice_of y.0 l) refl all)
  where
    by_test : (b : Bool) (t : ℤ) (l k : List Notice) → All (NotBefore t) l → All (NotBefore t) k → All (NotBefore t) (cond b l k)
    by_test true t l k old new = old
    by_test false t l k old new = new

scheduled-no_earlier : (form : Placement) (x : ℕ) (l new : List Notice) → IsOrdered l → scheduled form x l ≡ Ok new → All (NotBefore (time l)) new
scheduled-no_earlier Direct x [] new ordered done = after_list (pos 0) [] new done (All-nil (NotBefore (pos 0)))
scheduled-no_earlier Direct x (n ∷ l) new ordered done =
    after_list n.time (placed_direct x (n ∷ l)) new done
    (after_placed n.time [] (n ∷ l) (record { time = n.time; process = record { 0 = x } }) (All-nil (NotBefore n.time)) (from_present (n ∷ l) ordered) (same_time n.time))
scheduled-no_earlier (At moment prior) x l new ordered done =
    after_list (time l) (placed_at (int_max moment (time l)) prior x l) new done
    (after_placed_at (time l) (int_max moment (time l)) prior x l (from_present l ordered) (max-not_before moment (time l)))
scheduled-no_earlier (Delay moment prior) x l new ordered done =
    after_scheduled_at (time l) (later_by moment (time l)) prior x l new done (from_present l ordered) (later_by-not_before moment (time l))
scheduled-no_earlier (Before y) x l new ordered done =
    after_list (time l) (placed_beside_process true (number_of y) x l) new done (after_beside_process (time l) true (number_of y) x l (from_present l ordered))
scheduled-no_earlier (After y) x l new ordered done =
    after_list (time l) (placed_beside_process false (number_of y) x l) new done (after_beside_process (time l) false (number_of y) x l (from_present l ordered))

activated_process-no_earlier : (process : Option ProcessRef) (again : Bool) (placement : Placement) (l new : List Notice) → IsOrdered l → activated_process process again placement l ≡ Ok new → All (NotBefore (time l)) new
activated_process-no_earlier None again placement l new ordered done = after_list (time l) l new done (from_present l ordered)
activated_process-no_earlier (Some NoProcess) again placement l new ordered done = after_list (time l) l new done (from_present l ordered)
activated_process-no_earlier (Some OfAnother) again placement l new ordered done = after_list (time l) l new done (from_present l ordered)
activated_process-no_earlier (Some (OfThis x ended)) again placement l new ordered done =
    by_test (does_nothing x.0 ended again l) l new (scheduled placement x.0 l) done
    (λ done. after_list (time l) l new done (from_present l ordered))
    (λ done. scheduled-no_earlier placement x.0 l new ordered done)
  where
    by_test : (nothing : Bool) (l new : List Notice) (r : Result (List Notice) RunError) → cond nothing (Ok l) r ≡ Ok new → (◌≡◌ {A = Result (List Notice) RunError} (Ok l) (Ok new) → All (NotBefore (time l)) new) → (r ≡ Ok new → All (NotBefore (time l)) new) → All (NotBefore (time l)) new
    by_test true l new r done same placed = same done
    by_test false l new r done same placed = placed done

pub activated-no_earlier : (l new : List Notice) (a : Activation) → IsOrdered l → activated a l ≡ Ok new → All (λ m. time l ≤ℤ m.time) new
activated-no_earlier l new a ordered done =
    by_tests (tested a.process (operand_of a.placement)) (activated_process a.process a.again a.placement l) done
    (activated_process-no_earlier a.process a.again a.placement l new ordered)
  where
    by_tests : (r : Result (Unit {0}) RunError) (k : Result (List Notice) RunError) → after_tests r k ≡ Ok new → (k ≡ Ok new → All (NotBefore (time l)) new) → All (NotBefore (time l)) new
    by_tests (Ok u) k done all = all done
    by_tests (Err e) k done all = absurd (cc)

pub cancelled-current : (n : Notice) (l : List Notice) (ended : Bool) → IsOnce (n ∷ l) → cancelled (Some (OfThis n.process ended)) (n ∷ l) ≡ Ok (passivated (n ∷ l))
cancelled-current n l ended once = ap (λ (k : List Notice). Ok k) (removed-first (n ∷ l) (n.time, n.process) once refl)

-- ---- the tests of references

either_true : (a : Bool) → (a || true) ≡ true
either_true true = refl
either_true false = refl

tested_no_process : (process other : Option ProcessRef) → other ≡ Some NoProcess → tested process other ≡ Err OutsideQualification
tested_no_process process other is =
    ap (λ (o : Option ProcessRef). tested process o) is
    ∙ ap (λ (b : Bool). cond b (Err OutsideQualification) (cond (is_of_another process || false) (Err OtherSimulation) (Ok tt))) (either_true (is_no_process process))

pub activated-operand : (l : List Notice) (process : Option ProcessRef) (again : Bool) (placement : Placement) → operand_of placement ≡ Some NoProcess → activated (record { process = process; again = again; placement = placement }) l ≡ Err OutsideQualification
activated-operand l process again placement is =
    ap (λ (r : Result (Unit {0}) RunError). after_tests r (activated_process process again placement l)) (tested_no_process process (operand_of placement) is)

pub activated-of_another : (l : List Notice) (again : Bool) (placement : Placement) → is_no_process (operand_of placement) ≡ false → activated (record { process = Some OfAnother; again = again; placement = placement }) l ≡ Err OtherSimulation
activated-of_another l again placement is =
    ap (λ (b : Bool). after_tests (cond b (Err OutsideQualification) (Err OtherSimulation)) (Ok l)) is

pub activated-operand_of_another : (l : List Notice) (process : Option ProcessRef) (again : Bool) (placement : Placement) → operand_of placement ≡ Some OfAnother → is_no_process process ≡ false → activated (record { process = process; again = again; placement = placement }) l ≡ Err OtherSimulation
activated-operand_of_another l process again placement is plain =
    ap (λ (r : Result (Unit {0}) RunError). after_tests r (activated_process process again placement l))
    (ap (λ (o : Option ProcessRef). tested process o) is ∙ ap (λ (b : Bool). cond (b || false) (Err OutsideQualification) (cond (is_of_another process || true) (Err OtherSimulation) (Ok tt))) plain
    ∙ ap (λ (b : Bool). cond b (Err OtherSimulation) (Ok tt)) (either_true (is_of_another process)))

-- ---- the answers

pub answer-empty : (old new : List Notice) → (next_of old new ≡ Err NoNoticeLeft) ↔ (new ≡ [])
answer-empty old [] = (λ _. refl, λ _. refl)
answer-empty old (n ∷ new) = (λ e. absurd (cc), λ e. absurd (cc))

pub answer-stay : (m n : Notice) (old new : List Notice) → (next_of (m ∷ old) (n ∷ new) ≡ Ok Stay) ↔ (n.process.0 ≡ m.process.0)
answer-stay m n old new = (
  by_test n.process m.process.0 (eqb n.process.0 m.process.0) refl,
  λ e. ap (λ b. Ok (cond b Stay (Resume n.process))) (eq-eqb n.process.0 m.process.0 e),
)
  where
    by_test : (x : ProcessNo) (y : ℕ) (b : Bool) → eqb x.0 y ≡ b → ◌≡◌ {A = Result Next RunError} (Ok (cond b Stay (Resume x))) (Ok Stay) → x.0 ≡ y
    by_test x y true e stay = eqb-true x.0 y e
    by_test x y false e stay = absurd (cc)
