-- The transfers of control are refused exactly as the tests say.
use Rattle.std.proofs.Common.{◌≡◌, ◌<◌, ◌≤◌, ◌+◌, ◌∷◌, ◌++◌, ℕ, zero, suc, Bool, true, false, List, [], Option, Some, None, Result, Ok, Err, refl, sym, ap, ◌∙◌, arith, length, inl, inr, if◌then◌else◌}
use Rattle.std.specs.Prelude.{◌||◌, slice_set}
use Rattle.std.proofs.lemmas.Bool.{cases_lt}
use Rattle.std.proofs.lemmas.List.{append_assoc, set-get_or, set-set}
use Rattle.sim_base.specs.declared.run_error.RunError.{RunError}
use Rattle.sim_base.specs.declared.run_error.RunError.TheVariants.{ObjectNotOperating}
use Rattle.sim_chains.specs.declared.refusals.Transfer.TheVariants.{Stay, Leave, Resume, ResumeMain}
use Rattle.sim_chains.specs.declared.refusals.Transfer.{Transfer}
use Rattle.sim_chains.specs.declared.state.State.{State}
use Rattle.sim_chains.specs.declared.state.State.TheVariants.{Attached, Resumed}
use Rattle.sim_chains.specs.Chains.{Cut, cut_at, is_instance, joined, once_if, stands_on, times_on, upper}
use Rattle.sim_chains.specs.Components.{Standing, NoObject, AttachedObject, DetachedObject, ResumedObject, TerminatedObject, Components, standing_of, state_in, state_of, waits_in, with_operating, with_standing, call, call_by, resume, resume_by, resume_at, resume_main, main_by, main_at, detach, detach_by, leave_at, give_up_at}
use Rattle.sim_chains.specs.Heads.{head_of, head_within}
use Rattle.sim_chains.specs.Refusals.{answer_to_call, answer_to_detach, answer_to_main, answer_to_resume, error_of, where_operating}
use Rattle.sim_chains.proofs.Cuts.{cuts, is_itself, no_some, none, some, some_is}
use Rattle.sim_chains.proofs.Counts.{is_set, past, times-append}

module _ {A : Type 0} (owner : A → Option ℕ) where
  -- a chain that is cut at an instance has that instance on it
  stands_true : (x : ℕ) (l : List A) (k : Cut A) → cut_at owner x l ≡ Some k → stands_on owner x l ≡ true
  stands_true x l k is = go (stands_on owner x l) refl
    where
      go : (b : Bool) → stands_on owner x l ≡ b → stands_on owner x l ≡ true
      go true e = e
      go false e = absurd (no_some (sym (none owner x l e) ∙ is))

  pub resume_refused : (head : ℕ → ℕ) (c : Components A) (y : ℕ) → error_of (resume owner head c (Some y)) ≡ error_of (answer_to_resume (state_of c y) (stands_on owner (head y) c.operating))
  resume_refused head c y = go (standing_of c y)
    where
      at_cut : (chain : List A) (o : Option (Cut A)) → cut_at owner (head y) c.operating ≡ o → error_of (resume_at owner o chain c (head y) y) ≡ error_of (where_operating Resume (stands_on owner (head y) c.operating))
      at_cut chain None is = sym (ap (λ (b : Bool). error_of (where_operating Resume b)) (some owner (head y) c.operating is))
      at_cut chain (Some k) is = sym (ap (λ (b : Bool). error_of (where_operating Resume b)) (stands_true (head y) c.operating k is))

      go : (s : Standing A) → error_of (resume_by owner s c (head y) y) ≡ error_of (answer_to_resume (state_in s) (stands_on owner (head y) c.operating))
      go (NoObject main) = refl
      go AttachedObject = refl
      go TerminatedObject = refl
      go ResumedObject = refl
      go (DetachedObject chain) = at_cut chain (cut_at owner (head y) c.operating) refl

  pub main_refused : (c : Components A) (s : ℕ) → error_of (resume_main owner c s) ≡ error_of (answer_to_main (waits_in (standing_of c s)) (stands_on owner s c.operating))
  main_refused c s = go (standing_of c s)
    where
      at_cut : (waits : List A) (o : Option (Cut A)) → cut_at owner s c.operating ≡ o → error_of (main_at owner o waits c s) ≡ error_of (where_operating ResumeMain (stands_on owner s c.operating))
      at_cut waits None is = sym (ap (λ (b : Bool). error_of (where_operating ResumeMain b)) (some owner s c.operating is))
      at_cut waits (Some k) is = sym (ap (λ (b : Bool). error_of (where_operating ResumeMain b)) (stands_true s c.operating k is))

      go : (r : Standing A) → error_of (main_by owner r c s) ≡ error_of (answer_to_main (waits_in r) (stands_on owner s c.operating))
      go (NoObject None) = refl
      go (NoObject (Some waits)) = at_cut waits (cut_at owner s c.operating) refl
      go AttachedObject = refl
      go (DetachedObject chain) = refl
      go ResumedObject = refl
      go TerminatedObject = refl

  -- what `detach` does, by the test
  abbrev Answer : Components A → ℕ → Standing A → Result Transfer RunError
  Answer c x s = answer_to_detach (state_in s) (stands_on owner x c.operating)

  err_is : {X : Type 0} {d e : RunError} → ◌≡◌ {A = Result X RunError} (Err d) (Err e) → d ≡ e
  err_is same = cc

  pub detach_refused : (head : ℕ → ℕ) (c : Components A) (x : ℕ) (e : RunError) → answer_to_detach (state_of c x) (stands_on owner x c.operating) ≡ Err e → detach owner head c x ≡ Err e
  detach_refused head c x e is = go (standing_of c x) (cut_at owner x c.operating) refl is
    where
      not_there : (s : Option State) → answer_to_detach s false ≡ Err ObjectNotOperating → cut_at owner x c.operating ≡ None → answer_to_detach s (stands_on owner x c.operating) ≡ Err e → ◌≡◌ {A = Result (Components A) RunError} (Err ObjectNotOperating) (Err e)
      not_there s test cut is = ap (λ (d : RunError). Err d) (err_is (sym test ∙ sym (ap (answer_to_detach s) (some owner x c.operating cut)) ∙ is))

      go : (s : Standing A) (o : Option (Cut A)) → cut_at owner x c.operating ≡ o → Answer c x s ≡ Err e → detach_by owner s c (head x) x ≡ Err e
      go (NoObject main) o cut is = absurd (cc)
      go AttachedObject None cut is = ap (λ (o : Option (Cut A)). leave_at owner o c x) cut ∙ not_there (Some Attached) refl cut is
      go AttachedObject (Some k) cut is = absurd (let f = sym (ap (answer_to_detach (Some Attached)) (stands_true x c.operating k cut)) ∙ is in cc)
      go ResumedObject None cut is = ap (λ (o : Option (Cut A)). give_up_at owner o c (head x)) cut ∙ not_there (Some Resumed) refl cut is
      go ResumedObject (Some k) cut is = absurd (let f = sym (ap (answer_to_detach (Some Resumed)) (stands_true x c.operating k cut)) ∙ is in cc)
      go (DetachedObject chain) o cut is = ap (λ (d : RunError). Err d) (err_is is)
      go TerminatedObject o cut is = ap (λ (d : RunError). Err d) (err_is is)

  pub detach_stays : (head : ℕ → ℕ) (c : Components A) (x : ℕ) → answer_to_detach (state_of c x) (stands_on owner x c.operating) ≡ Ok Stay → detach owner head c x ≡ Ok c
  detach_stays head c x is = go (standing_of c x) (stands_on owner x c.operating) is
    where
      go : (s : Standing A) (b : Bool) → answer_to_detach (state_in s) b ≡ Ok Stay → detach_by owner s c (head x) x ≡ Ok c
      go (NoObject main) b is = refl
      go AttachedObject true is = absurd (cc)
      go AttachedObject false is = absurd (cc)
      go ResumedObject true is = absurd (cc)
      go ResumedObject false is = absurd (cc)
      go (DetachedObject chain) b is = absurd (cc)
      go TerminatedObject b is = absurd (cc)

  pub detach_leaves : (head : ℕ → ℕ) (c : Components A) (x : ℕ) → answer_to_detach (state_of c x) (stands_on owner x c.operating) ≡ Ok Leave → error_of (detach owner head c x) ≡ None
  detach_leaves head c x is = go (standing_of c x) (cut_at owner x c.operating) refl is
    where
      resumed : (b : Bool) → answer_to_detach (Some Resumed) b ≡ Ok Leave → ⊥
      resumed true is = cc
      resumed false is = cc

      go : (s : Standing A) (o : Option (Cut A)) → cut_at owner x c.operating ≡ o → Answer c x s ≡ Ok Leave → error_of (detach_by owner s c (head x) x) ≡ None
      go (NoObject main) o cut is = absurd (cc)
      go AttachedObject None cut is = absurd (let f = sym (ap (answer_to_detach (Some Attached)) (some owner x c.operating cut)) ∙ is in cc)
      go AttachedObject (Some k) cut is = ap (λ (o : Option (Cut A)). error_of (leave_at owner o c x)) cut
      go ResumedObject o cut is = absurd (resumed (stands_on owner x c.operating) is)
      go (DetachedObject chain) o cut is = absurd (cc)
      go TerminatedObject o cut is = absurd (cc)

  pub detach_gives_up : (head : ℕ → ℕ) (c : Components A) (x : ℕ) → answer_to_detach (state_of c x) (stands_on owner x c.operating) ≡ Ok ResumeMain → detach owner head c x ≡ resume_main owner c (head x)
  detach_gives_up head c x is = go (standing_of c x) (cut_at owner x c.operating) refl is
    where
      attached : (b : Bool) → answer_to_detach (Some Attached) b ≡ Ok ResumeMain → ⊥
      attached true is = cc
      attached false is = cc

      go : (s : Standing A) (o : Option (Cut A)) → cut_at owner x c.operating ≡ o → Answer c x s ≡ Ok ResumeMain → detach_by owner s c (head x) x ≡ resume_main owner c (head x)
      go (NoObject main) o cut is = absurd (cc)
      go AttachedObject o cut is = absurd (attached (stands_on owner x c.operating) is)
      go ResumedObject None cut is = absurd (let f = sym (ap (answer_to_detach (Some Resumed)) (some owner x c.operating cut)) ∙ is in cc)
      go ResumedObject (Some k) cut is = ap (λ (o : Option (Cut A)). give_up_at owner o c (head x)) cut
      go (DetachedObject chain) o cut is = absurd (cc)
      go TerminatedObject o cut is = absurd (cc)

  -- ---- one cut

  pub free_times : (x : ℕ) (l : List A) → times_on owner x l ≡ 0 → stands_on owner x l ≡ false
  free_times x [] e = refl
  free_times x (a ∷ l) e = go (is_instance x (owner a)) (free_times x l) e
    where
      go : (b : Bool) → (times_on owner x l ≡ 0 → stands_on owner x l ≡ false) → once_if b + times_on owner x l ≡ 0 → (b || stands_on owner x l) ≡ false
      go true rest e = absurd (omega arith)
      go false rest e = rest (omega arith)

  only_once : (x : ℕ) (k : Cut A) → owner k.here ≡ Some x → times_on owner x (joined k) ≡ 1 → stands_on owner x k.above ≡ false
  only_once x k is n =
      let one : once_if (is_instance x (owner k.here)) ≡ 1 = ap (λ (o : Option ℕ). once_if (is_instance x o)) is ∙ ap once_if (is_itself x) in
      free_times x k.above (omega (arith, n, one, times-append owner x k.above (k.here ∷ k.below)))

  pub one_cut : (x : ℕ) (k m : Cut A) → owner k.here ≡ Some x → owner m.here ≡ Some x → times_on owner x (joined k) ≡ 1 → joined k ≡ joined m → k ≡ m
  one_cut x k m at_k at_m n same =
      some_is (sym (cuts owner x k at_k (only_once x k at_k n)) ∙ ap (cut_at owner x) same ∙ cuts owner x m at_m (only_once x m at_m (ap (times_on owner x) (sym same) ∙ n)))

  -- ---- a call and a detach

  pub no_ok : {a : Components A} {e : RunError} → ◌≡◌ {A = Result (Components A) RunError} (Err e) (Ok a) → ⊥
  no_ok e = cc

  pub ok_is : {a b : Components A} → ◌≡◌ {A = Result (Components A) RunError} (Ok a) (Ok b) → a ≡ b
  ok_is e = cc

  pub call_then_detach : (head : ℕ → ℕ) (c called after : Components A) (y : ℕ) (above : List A) (a : A) → standing_of c y ≡ DetachedObject (above ++ a ∷ []) → owner a ≡ Some y → stands_on owner y above ≡ false
      → call c (Some y) ≡ Ok called → detach owner head called y ≡ Ok after → after ≡ c
  call_then_detach head c called after y above a is own free calls detaches =
      let chain : List A = above ++ a ∷ [] in
      let d : Components A = with_standing y AttachedObject (with_operating (chain ++ c.operating) c) in
      let d_is : d ≡ called = ok_is (sym (ap (λ (s : Standing A). call_by s c y) is) ∙ calls) in
      let h : y < length c.standings = elim (cases_lt y (length c.standings)) [ inl h ↦ h | inr h ↦ absurd (let f = sym (past c.standings y h) ∙ is in cc) ] in
      let k : Cut A = record { above = above; here = a; below = c.operating } in
      let cut : cut_at owner y d.operating ≡ Some k = ap (cut_at owner y) (append_assoc above (a ∷ []) c.operating) ∙ cuts owner y k own free in
      let left : detach owner head d y ≡ Ok (with_standing y (DetachedObject chain) (with_operating c.operating d)) =
      ap (λ (s : Standing A). detach_by owner s d (head y) y) ((is_set c.standings y AttachedObject h).here) ∙ ap (λ (o : Option (Cut A)). leave_at owner o d y) cut in
      let after_is : with_standing y (DetachedObject chain) (with_operating c.operating d) ≡ after = ok_is (sym left ∙ ap (λ (z : Components A). detach owner head z y) d_is ∙ detaches) in
      let back : slice_set (slice_set c.standings y AttachedObject) y (DetachedObject chain) ≡ c.standings =
      set-set c.standings y AttachedObject (DetachedObject chain) ∙ ap (slice_set c.standings y) (sym is) ∙ set-get_or c.standings y (NoObject None) in
      sym after_is ∙ ap (λ (l : List (Standing A)). record { operating = c.operating; standings = l }) back

pub call_refused : {A : Type 0} (c : Components A) (y : ℕ) → error_of (call c (Some y)) ≡ error_of (answer_to_call (state_of c y))
call_refused {A} c y = go (standing_of c y)
  where
    go : (s : Standing A) → error_of (call_by s c y) ≡ error_of (answer_to_call (state_in s))
    go (NoObject main) = refl
    go AttachedObject = refl
    go TerminatedObject = refl
    go ResumedObject = refl
    go (DetachedObject chain) = refl

pub whole_cut : {A : Type 0} (k : Cut A) → upper k ++ k.below ≡ joined k
whole_cut k = append_assoc k.above (k.here ∷ []) k.below

-- ---- system heads

module _ (parent : ℕ → Option ℕ) (is_object : ℕ → Bool) where
  pub head_none : (x : ℕ) → parent x ≡ None → head_of parent is_object x ≡ None
  head_none x e = ap (head_within parent is_object x) e

  pub head_encloser : (x p : ℕ) → parent x ≡ Some p → p < x → is_object p ≡ false → head_of parent is_object x ≡ Some p
  head_encloser zero p e h plain = absurd (omega arith)
  head_encloser (suc n) p e h plain =
      ap (head_within parent is_object (suc n)) e ∙ ap (λ (b : Bool). if b then head_within parent is_object n (parent p) else Some p) plain

  -- more enclosers than there are make no difference
  enough : ((i j : ℕ) → parent i ≡ Some j → j < i) → (n m p : ℕ) (o : Option ℕ) → parent p ≡ o → p ≤ n → p ≤ m → head_within parent is_object n o ≡ head_within parent is_object m o
  enough fewer n m p None is hn hm = refl
  enough fewer zero m p (Some q) is hn hm = absurd (let f = fewer p q is in omega (arith, f, hn))
  enough fewer (suc n) zero p (Some q) is hn hm = absurd (let f = fewer p q is in omega (arith, f, hm))
  enough fewer (suc n) (suc m) p (Some q) is hn hm =
      let f = fewer p q is in
      ap (λ (o : Option ℕ). if is_object q then o else Some q) (enough fewer n m q (parent q) refl (omega (arith, f, hn)) (omega (arith, f, hm)))

  pub head_further : (x p : ℕ) → ((i j : ℕ) → parent i ≡ Some j → j < i) → parent x ≡ Some p → is_object p ≡ true → head_of parent is_object x ≡ head_of parent is_object p
  head_further zero p fewer e object = absurd (let f = fewer zero p e in omega (arith, f))
  head_further (suc n) p fewer e object =
      let f = fewer (suc n) p e in
      ap (head_within parent is_object (suc n)) e ∙ ap (λ (b : Bool). if b then head_within parent is_object n (parent p) else Some p) object
      ∙ enough fewer n p p (parent p) refl (omega (arith, f)) (omega arith)
