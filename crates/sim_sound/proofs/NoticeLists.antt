-- What holds of the process of each event notice goes on holding where notices are placed and removed.
use Rattle.std.proofs.Common.{◌≡◌, ℕ, zero, suc, ℤ, Bool, true, false, List, [], ◌∷◌, ◌++◌, Option, Some, None, Result, Ok, Err, refl, subst}
use Rattle.std.specs.List.{after_first, before_first, filter, find, position_or_len}
use Rattle.std.specs.Prelude.{◌==◌, ◌+◌, drop, if◌then◌else◌, not, slice_get, take}
use Rattle.std.specs.Int.{int_max}
use Rattle.std.specs.Option.{option_map}
use Rattle.sim_base.specs.declared.run_error.RunError.{RunError}
use Rattle.sim_base.specs.declared.run_error.RunError.TheVariants.{TimeTooLarge}
use Rattle.notices.specs.declared.activation.Activation.{Activation}
use Rattle.notices.specs.declared.activation.Placement.{Placement}
use Rattle.notices.specs.declared.activation.Placement.TheVariants as place
use Rattle.notices.specs.declared.activation.ProcessRef.{ProcessRef}
use Rattle.notices.specs.declared.activation.ProcessRef.TheVariants.{NoProcess, OfAnother, OfThis}
use Rattle.notices.specs.declared.notice.Notice.{Notice}
use Rattle.notices.specs.declared.notice.ProcessNo.{ProcessNo}
use Rattle.notices.specs.Notices.{back_at, front_at, is_at_least, is_at_most, is_earlier_than, is_later_than, is_of, notice_of, placed_at, placed_beside, placed_between, placed_direct, placed_near, removed}
use Rattle.notices.specs.Scheduling.{current, nextev, activated, activated_process, activated_reference, after_tests, cancelled, does_nothing, held, is_too_late, later_by, number_of, operand_of, passivated, placed_beside_process, scheduled, scheduled_at, tested, time, without_process}
use Rattle.sim_sound.proofs.Lists.{same_some}
use Rattle.sim_sound.proofs.Simulated.{EachNotice, SomeNotice}

module _ (P : ℕ → Type 0) where
  abbrev All : List Notice → Type 0
  All ns = EachNotice P ns

  if_all : (b : Bool) (xs ys : List Notice) → All xs → All ys → All (if b then xs else ys)
  if_all true xs ys a c = a
  if_all false xs ys a c = c

  filtered : (test : Notice → Bool) (ns : List Notice) → All ns → All (filter test ns)
  filtered test [] a = a
  filtered test (n ∷ ns) a = if_all (test n) (n ∷ filter test ns) (filter test ns) (a.0, filtered test ns a.1) (filtered test ns a.1)

  joined : (xs ys : List Notice) → All xs → All ys → All (xs ++ ys)
  joined [] ys a c = c
  joined (x ∷ xs) ys a c = (a.0, joined xs ys a.1 c)

  taken_all : (k : ℕ) (ns : List Notice) → All ns → All (take k ns)
  taken_all zero ns a = tt
  taken_all (suc k) [] a = tt
  taken_all (suc k) (n ∷ ns) a = (a.0, taken_all k ns a.1)

  dropped_all : (k : ℕ) (ns : List Notice) → All ns → All (drop k ns)
  dropped_all zero ns a = a
  dropped_all (suc k) [] a = tt
  dropped_all (suc k) (n ∷ ns) a = dropped_all k ns a.1

  before_all : (test : Notice → Bool) (ns : List Notice) → All ns → All (before_first test ns)
  before_all test ns a = taken_all (position_or_len test ns) ns a

  after_all : (test : Notice → Bool) (ns : List Notice) → All ns → All (after_first test ns)
  after_all test ns a = dropped_all (position_or_len test ns + 1) ns a

  -- ---- the list of notices

  pub removed_all : (x : ℕ) (ns : List Notice) → All ns → All (removed x ns)
  removed_all x ns a = filtered (λ n. not (is_of x n)) ns a

  between_all : (front : List Notice) (n : Notice) (back : List Notice) → All front → P n.process.0 → All back → All (placed_between front n back)
  between_all front n back a p c = joined (removed n.process.0 front) (n ∷ removed n.process.0 back) (removed_all n.process.0 front a) (p, removed_all n.process.0 back c)

  at_all : (t : ℤ) (prior : Bool) (x : ℕ) (ns : List Notice) → P x → All ns → All (placed_at t prior x ns)
  at_all t prior x ns p a =
      between_all (front_at t prior ns) (record { time = t; process = record { 0 = x } }) (back_at t prior ns) (if_all prior (filter (is_earlier_than t) ns) (filter (is_at_most t) ns) (filtered (is_earlier_than t) ns a) (filtered (is_at_most t) ns a)) p (if_all prior (filter (is_at_least t) ns) (filter (is_later_than t) ns) (filtered (is_at_least t) ns a) (filtered (is_later_than t) ns a))

  direct_all : (x : ℕ) (ns : List Notice) → P x → All ns → All (placed_direct x ns)
  direct_all x [] p a = a
  direct_all x (n ∷ ns) p a = between_all [] (record { time = n.time; process = record { 0 = x } }) (n ∷ ns) tt p a

  found_is : (test : Notice → Bool) (ns : List Notice) (m : Notice) → All ns → find test ns ≡ Some m → P m.process.0
  found_is test [] m a e = absurd (cc)
  found_is test (n ∷ ns) m a e = by_test (test n) e (λ f. found_is test ns m a.1 f)
    where
      by_test : (b : Bool) → (if b then Some n else find test ns) ≡ Some m → (find test ns ≡ Some m → P m.process.0) → P m.process.0
      by_test true e go = subst (λ z. P z.process.0) (same_some (Some n) n m refl e) a.0
      by_test false e go = go e

  beside_all : (before : Bool) (m : Option Notice) (x : ℕ) (ns : List Notice) → P x → ((n : Notice) → m ≡ Some n → P n.process.0) → All ns → All (placed_beside before m x ns)
  beside_all before None x ns p q a = removed_all x ns a
  beside_all before (Some m) x ns p q a =
      let n : Notice = record { time = m.time; process = record { 0 = x } } in
      let front = before_first (is_of m.process.0) ns in
      let back = after_first (is_of m.process.0) ns in
      let fronts = before_all (is_of m.process.0) ns a in
      let backs = after_all (is_of m.process.0) ns a in
      let own = q m refl in
      if_all before (placed_between front n (m ∷ back)) (placed_between (front ++ m ∷ []) n back) (between_all front n (m ∷ back) fronts p (own, backs)) (between_all (front ++ m ∷ []) n back (joined front (m ∷ []) fronts (own, tt)) p backs)

  near_all : (before : Bool) (y x : ℕ) (ns : List Notice) → P x → All ns → All (placed_near before y x ns)
  near_all before y x ns p a = if_all (y == x) ns (placed_beside before (notice_of y ns) x ns) a (beside_all before (notice_of y ns) x ns p (λ n e. found_is (is_of y) ns n a e) a)

  -- ---- the procedures

  ok_is : {a b : List Notice} → ◌≡◌ {A = Result (List Notice) RunError} (Ok a) (Ok b) → a ≡ b
  ok_is e = cc

  no_ok : {a : List Notice} {e : RunError} → ◌≡◌ {A = Result (List Notice) RunError} (Err e) (Ok a) → ⊥
  no_ok e = cc

  scheduled_all : (t : ℤ) (prior : Bool) (x : ℕ) (ns : List Notice) → P x → All ns → (out : List Notice) → scheduled_at t prior x ns ≡ Ok out → All out
  scheduled_all t prior x ns p a out e = by_late (is_too_late t) e
    where
      by_late : (b : Bool) → (if b then Err TimeTooLarge else Ok (placed_at t prior x ns)) ≡ Ok out → All out
      by_late true e = absurd (no_ok e)
      by_late false e = subst All (ok_is e) (at_all t prior x ns p a)

  pub held_all : (t : ℤ) (ns : List Notice) → All ns → (out : List Notice) → held t ns ≡ Ok out → All out
  held_all t [] a out e = subst All (ok_is e) tt
  held_all t (n ∷ ns) a out e = scheduled_all (later_by t n.time) false n.process.0 (n ∷ ns) a.0 a out e

  pub passivated_all : (ns : List Notice) → All ns → All (passivated ns)
  passivated_all [] a = a
  passivated_all (n ∷ ns) a = a.1

  after_tests_all : (t : Result (Unit {0}) RunError) (new : Result (List Notice) RunError) (out : List Notice) → after_tests t new ≡ Ok out → new ≡ Ok out
  after_tests_all (Ok u) new out e = e
  after_tests_all (Err x) new out e = absurd (no_ok e)

  without_all : (x : Option ProcessNo) (ns : List Notice) → All ns → All (without_process x ns)
  without_all None ns a = a
  without_all (Some x) ns a = removed_all x.0 ns a

  pub cancelled_all : (x : Option ProcessRef) (ns : List Notice) → All ns → (out : List Notice) → cancelled x ns ≡ Ok out → All out
  cancelled_all x ns a out e = subst All (ok_is (after_tests_all (tested x None) (Ok (without_process (number_of x) ns)) out e)) (without_all (number_of x) ns a)

  process_all : (before : Bool) (y : Option ProcessNo) (x : ℕ) (ns : List Notice) → P x → All ns → All (placed_beside_process before y x ns)
  process_all before None x ns p a = removed_all x ns a
  process_all before (Some y) x ns p a = near_all before y.0 x ns p a

  forms_all : (where_to : Placement) (x : ℕ) (ns : List Notice) → P x → All ns → (out : List Notice) → scheduled where_to x ns ≡ Ok out → All out
  forms_all place.Direct x ns p a out e = subst All (ok_is e) (direct_all x ns p a)
  forms_all (place.At t prior) x ns p a out e = subst All (ok_is e) (at_all (int_max t (time ns)) prior x ns p a)
  forms_all (place.Delay t prior) x ns p a out e = scheduled_all (later_by t (time ns)) prior x ns p a out e
  forms_all (place.Before y) x ns p a out e = subst All (ok_is e) (process_all true (number_of y) x ns p a)
  forms_all (place.After y) x ns p a out e = subst All (ok_is e) (process_all false (number_of y) x ns p a)

  -- the process that is to be scheduled, if it is one of the block
  abbrev pub OwnIs : Option ProcessRef → Type 0
  OwnIs (Some (OfThis x ended)) = P x.0
  OwnIs (Some NoProcess) = Unit {0}
  OwnIs (Some OfAnother) = Unit {0}
  OwnIs None = Unit {0}

  reference_all : (r : ProcessRef) (again : Bool) (where_to : Placement) (ns : List Notice) → OwnIs (Some r) → All ns → (out : List Notice) → activated_reference r again where_to ns ≡ Ok out → All out
  reference_all NoProcess again where_to ns p a out e = subst All (ok_is e) a
  reference_all OfAnother again where_to ns p a out e = subst All (ok_is e) a
  reference_all (OfThis x ended) again where_to ns p a out e = by_test (does_nothing x.0 ended again ns) e
    where
      by_test : (b : Bool) → (if b then Ok ns else scheduled where_to x.0 ns) ≡ Ok out → All out
      by_test true e = subst All (ok_is e) a
      by_test false e = forms_all where_to x.0 ns p a out e

  activates_all : (r : Option ProcessRef) (again : Bool) (where_to : Placement) (ns : List Notice) → OwnIs r → All ns → (out : List Notice) → activated_process r again where_to ns ≡ Ok out → All out
  activates_all None again where_to ns p a out e = subst All (ok_is e) a
  activates_all (Some r) again where_to ns p a out e = reference_all r again where_to ns p a out e

  pub activated_all : (x : Activation) (ns : List Notice) → OwnIs x.process → All ns → (out : List Notice) → activated x ns ≡ Ok out → All out
  activated_all x ns p a out e = activates_all x.process x.again x.placement ns p a out (after_tests_all (tested x.process (operand_of x.placement)) (activated_process x.process x.again x.placement ns) out e)

  -- the process of the notice behind that of a process, and the first one
  pub next_is : (x : ℕ) (ns : List Notice) (p : ProcessNo) → All ns → nextev x ns ≡ Some p → P p.0
  next_is x ns p a e = at_first (after_first (is_of x) ns) (after_all (is_of x) ns a) e
    where
      at_first : (xs : List Notice) → All xs → option_map (λ n. n.process) (slice_get xs 0) ≡ Some p → P p.0
      at_first [] a e = absurd (cc)
      at_first (n ∷ xs) a e = subst (λ z. P z.0) (same_some (Some n.process) n.process p refl e) a.0

  pub first_is : (ns : List Notice) → SomeNotice ns → All ns → (p : ProcessNo) × (current ns ≡ Some p) × P p.0
  first_is [] some a = absurd some
  first_is (n ∷ ns) some a = (n.process, refl, a.0)
