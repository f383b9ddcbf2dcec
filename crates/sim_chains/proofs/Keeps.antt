-- Each transfer of control keeps what is well formed.
use Rattle.std.proofs.Common.{◌≡◌, ◌≢◌, ◌<◌, ◌≤◌, ◌+◌, ◌⊎◌, ℕ, Bool, true, false, List, [], ◌∷◌, ◌++◌, Option, Some, None, Result, Ok, Err, refl, sym, ap, ◌∙◌, subst, inl, inr, arith, length}
use Rattle.std.specs.Prelude.{◌&&◌, ◌||◌, slice_set}
use Rattle.std.proofs.lemmas.Bool.{cases_eq, cases_lt, ne_eqb, false≢true}
use Rattle.std.proofs.lemmas.List.{length-set}
use Rattle.sim_base.specs.declared.run_error.RunError.{RunError}
use Rattle.sim_chains.specs.Chains.{Cut, cut_at, is_first, is_instance, once_if, outermost, times_above, times_on, upper}
use Rattle.sim_chains.specs.Components.{Standing, NoObject, AttachedObject, DetachedObject, ResumedObject, TerminatedObject, Components, standing_of, with_operating, with_standing, call_by, call, leave_at, resume, resume_by, resume_main, main_by, detach, detach_by, give_up_at, finish, finish_by, kept, kept_as, kept_by, resume_at, main_at, returned, dropped}
use Rattle.sim_chains.specs.WellFormed.{chain_in, over_all, is_object, times_in, times_above_in, IsInPlace, IsWellFormed}
use Rattle.sim_chains.proofs.Cuts.{IsCut, cut_is, cuts, instance_is, is_itself, some_is}
use Rattle.sim_chains.proofs.Counts.{times-append, seam, above-append, above_le, above_le_times, seam_is, outermost-append, at, kept_le, kept-set, past, is_set}

pub not_instance : (x y : ℕ) → y ≢ x → is_instance x (Some y) ≡ false
not_instance x y apart = ne_eqb y x apart

module _ {A : Type 0} where
  -- how an instance stood before another one, or itself, was set
  abbrev Was : List (Standing A) → ℕ → Standing A → ℕ → Standing A → Type 0
  Was l i s x v = ((x ≡ i) × (s ≡ v)) ⊎ ((x ≢ i) × (at l x ≡ v))

  from_set : (l : List (Standing A)) (i : ℕ) (s : Standing A) (x : ℕ) (v : Standing A) → i < length l → at (slice_set l i s) x ≡ v → Was l i s x v
  from_set l i s x v h e =
      let set = is_set l i s h in
      elim (cases_eq x i) [
        | inl same ↦ inl (same, sym set.here ∙ ap (at (slice_set l i s)) (sym same) ∙ e)
        | inr apart ↦ inr (apart, sym (set.others x apart) ∙ e)
      ]

  pub to_set : (l : List (Standing A)) (i : ℕ) (s : Standing A) (x : ℕ) (v : Standing A) → i < length l → x ≢ i → at l x ≡ v → at (slice_set l i s) x ≡ v
  to_set l i s x v h apart e = (is_set l i s h).others x apart ∙ e

  -- two instances that stand otherwise are two
  pub differ : (l : List (Standing A)) (x y : ℕ) (v w : Standing A) → at l x ≡ v → at l y ≡ w → (v ≡ w → ⊥) → x ≢ y
  differ l x y v w at_x at_y other same = other (sym at_x ∙ ap (at l) same ∙ at_y)

  pub entered_one : (l : List (Standing A)) (x : ℕ) (v : Standing A) → at l x ≡ v → (NoObject None ≡ v → ⊥) → x < length l
  entered_one l x v is other = elim (cases_lt x (length l)) [ inl h ↦ h | inr h ↦ absurd (other (sym (past l x h) ∙ is)) ]

  -- what a count comes to where one standing was set
  moved : (f : List A → ℕ) (c : Components A) (l : List A) (i : ℕ) (s : Standing A) → i < length c.standings
      → over_all f (with_standing i s (with_operating l c)) + f c.operating + f (chain_in (standing_of c i)) ≡ over_all f c + f l + f (chain_in s)
  moved f c l i s h = omega (arith, kept-set f c.standings i s h)

  -- and where two were
  moved_two : (f : List A → ℕ) (c : Components A) (l : List A) (i j : ℕ) (s t : Standing A) → i < length c.standings → j < length c.standings → j ≢ i
      → over_all f (with_standing j t (with_operating l (with_standing i s c))) + f c.operating + f (chain_in (standing_of c i)) + f (chain_in (standing_of c j)) ≡ over_all f c + f l + f (chain_in s) + f (chain_in t)
  moved_two f c l i j s t hi hj apart =
      let hj2 : j < length (slice_set c.standings i s) = subst (λ n. j < n) (sym (length-set c.standings i s)) hj in
      let same = ap (λ (z : Standing A). f (chain_in z)) ((is_set c.standings i s hi).others j apart) in
      omega (arith, kept-set f c.standings i s hi, kept-set f (slice_set c.standings i s) j t hj2, same)

module _ {A : Type 0} (owner : A → Option ℕ) (head : ℕ → ℕ) where
  -- what a change of the chains has to keep in any case
  record IsChange (c d : Components A) : Type 0 where
    count : length d.standings ≡ length c.standings
    fewer : (x : ℕ) → times_in owner x d ≤ times_in owner x c
    kinds : (x : ℕ) → is_object (standing_of d x) ≡ is_object (standing_of c x)

  once_after : (c d : Components A) → IsWellFormed owner head c → IsChange c d → (x : ℕ) → times_in owner x d ≤ 1
  once_after c d w change x = omega (arith, w.once x, change.fewer x)

  made_after : (c d : Components A) → IsWellFormed owner head c → IsChange c d → (x : ℕ) → length d.standings ≤ x → times_in owner x d ≡ 0
  made_after c d w change x h = omega (arith, w.made x (omega (arith, h, change.count)), change.fewer x)

  heads_after : (c d : Components A) → IsWellFormed owner head c → IsChange c d → (x : ℕ) → is_object (standing_of d x) ≡ true → is_object (standing_of d (head x)) ≡ false
  heads_after c d w change x is = change.kinds (head x) ∙ w.heads x (sym (change.kinds x) ∙ is)

  -- one standing is set, which stays that of an object or of none
  kinds_set : (l : List (Standing A)) (i : ℕ) (s : Standing A) → i < length l → is_object s ≡ is_object (at l i) → (x : ℕ) → is_object (at (slice_set l i s) x) ≡ is_object (at l x)
  kinds_set l i s h same x =
      let set = is_set l i s h in
      elim (cases_eq x i) [
        | inl is ↦ ap (λ (k : ℕ). is_object (at (slice_set l i s) k)) is ∙ ap (λ (z : Standing A). is_object z) set.here ∙ same ∙ ap (λ (k : ℕ). is_object (at l k)) (sym is)
        | inr apart ↦ ap (λ (z : Standing A). is_object z) (set.others x apart)
      ]

  -- ---- call

  pub call_keeps : (c : Components A) (y : ℕ) (chain : List A) → IsWellFormed owner head c → standing_of c y ≡ DetachedObject chain
      → IsWellFormed owner head (with_standing y AttachedObject (with_operating (chain ++ c.operating) c))
  call_keeps c y chain w is =
      let h : y < length c.standings = entered_one c.standings y (DetachedObject chain) is (λ e. cc) in
      let d : Components A = with_standing y AttachedObject (with_operating (chain ++ c.operating) c) in
      let kept_chain : chain_in (standing_of c y) ≡ chain = ap (λ (z : Standing A). chain_in z) is in
      let same : (x : ℕ) → times_in owner x d ≡ times_in owner x c =
      λ x. omega (arith, moved (times_on owner x) c (chain ++ c.operating) y AttachedObject h, times-append owner x chain c.operating, ap (times_on owner x) kept_chain) in
      let more : (x z : ℕ) → times_above_in owner x z c ≤ times_above_in owner x z d =
      λ x z. omega (arith, moved (times_above owner x z) c (chain ++ c.operating) y AttachedObject h, above-append owner x z chain c.operating, ap (times_above owner x z) kept_chain) in
      let change : IsChange c d = record {
        count = length-set c.standings y AttachedObject;
        fewer = λ x. omega (arith, same x);
        kinds = kinds_set c.standings y AttachedObject h (ap (λ (z : Standing A). is_object z) (sym is));
      } in
      record {
        once = once_after c d w change;
        made = made_after c d w change;
        terminated = λ x e. elim (from_set c.standings y AttachedObject x TerminatedObject h e) [ inl old ↦ absurd (let f = old.1 in cc) | inr old ↦ same x ∙ w.terminated x old.1 ];
        detached = λ x kept e. elim (from_set c.standings y AttachedObject x (DetachedObject kept) h e) [ inl old ↦ absurd (let f = old.1 in cc) | inr old ↦ w.detached x kept old.1 ];
        heads = heads_after c d w change;
        resumed = λ x e. elim (from_set c.standings y AttachedObject x ResumedObject h e) [
          | inl old ↦ absurd (let f = old.1 in cc)
          | inr old ↦ let p = w.resumed x old.1 in record {
            above = omega (arith, p.above, more x (head x));
            main = p.main;
            keeps = to_set c.standings y AttachedObject (head x) (NoObject (Some p.main)) h (differ c.standings (head x) y _ _ p.keeps is (λ e. cc)) p.keeps;
          }
        ];
        main = λ s main e. elim (from_set c.standings y AttachedObject s (NoObject (Some main)) h e) [
          | inl old ↦ absurd (let f = old.1 in cc)
          | inr old ↦ let r = w.main s main old.1 in record {
            object = r.object;
            resumed = to_set c.standings y AttachedObject r.object ResumedObject h (differ c.standings r.object y _ _ r.resumed is (λ e. cc)) r.resumed;
            its_head = r.its_head;
          }
        ];
      }

  ok_is : {P Q : Type 0} {a b : P} → ◌≡◌ {A = Result P Q} (Ok a) (Ok b) → a ≡ b
  ok_is e = cc

  no_ok : {P : Type 0} {a : P} {e : RunError} → ◌≡◌ {A = Result P RunError} (Err e) (Ok a) → ⊥
  no_ok e = cc

  pub call_law : (c after : Components A) (y : Option ℕ) → IsWellFormed owner head c → call c y ≡ Ok after → IsWellFormed owner head after
  call_law c after None w e = absurd (no_ok e)
  call_law c after (Some y) w e = go (standing_of c y) refl e
    where
      go : (s : Standing A) → standing_of c y ≡ s → call_by s c y ≡ Ok after → IsWellFormed owner head after
      go (NoObject main) is e = absurd (no_ok e)
      go AttachedObject is e = absurd (no_ok e)
      go TerminatedObject is e = absurd (no_ok e)
      go ResumedObject is e = absurd (no_ok e)
      go (DetachedObject chain) is e = subst (λ (d : Components A). IsWellFormed owner head d) (ok_is e) (call_keeps c y chain w is)

  -- ---- detach of an attached object

  -- the counts of the parts of a chain that is cut
  pub record IsParted (x : ℕ) (l : List A) (k : Cut A) : Type 0 where
    pub times : (z : ℕ) → times_on owner z l ≡ times_on owner z k.above + once_if (is_instance z (owner k.here)) + times_on owner z k.below
    pub upper_times : (z : ℕ) → times_on owner z (upper k) ≡ times_on owner z k.above + once_if (is_instance z (owner k.here))
    pub here_itself : once_if (is_instance x (owner k.here)) ≡ 1
    pub here_other : (z : ℕ) → x ≢ z → is_instance z (owner k.here) ≡ false

  pub parted : (x : ℕ) (l : List A) (k : Cut A) → IsCut owner x l k → IsParted x l k
  parted x l k cut = record {
    times = λ z. omega (arith, ap (times_on owner z) (sym cut.chain), times-append owner z k.above (k.here ∷ k.below));
    upper_times = λ z. omega (arith, times-append owner z k.above (k.here ∷ []));
    here_itself = ap (λ (o : Option ℕ). once_if (is_instance x o)) cut.here ∙ ap once_if (is_itself x);
    here_other = λ z apart. ap (is_instance z) cut.here ∙ not_instance z x apart;
  }

  leave_keeps : (c : Components A) (x : ℕ) (k : Cut A) → IsWellFormed owner head c → standing_of c x ≡ AttachedObject → IsCut owner x c.operating k
      → IsWellFormed owner head (with_standing x (DetachedObject (upper k)) (with_operating k.below c))
  leave_keeps c x k w is cut =
      let h : x < length c.standings = entered_one c.standings x AttachedObject is (λ e. cc) in
      let s : Standing A = DetachedObject (upper k) in
      let d : Components A = with_standing x s (with_operating k.below c) in
      let parts = parted x c.operating k cut in
      let kept_chain : chain_in (standing_of c x) ≡ [] = ap (λ (z : Standing A). chain_in z) is in
      let same : (z : ℕ) → times_in owner z d ≡ times_in owner z c =
      λ z. omega (arith, moved (times_on owner z) c k.below x s h, parts.times z, parts.upper_times z, ap (times_on owner z) kept_chain) in
      let more : (z u : ℕ) → x ≢ z → times_above_in owner z u c ≤ times_above_in owner z u d =
      λ z u apart. omega (
        arith,
        moved (times_above owner z u) c k.below x s h,
        ap (times_above owner z u) kept_chain,
        ap (times_above owner z u) (sym cut.chain),
        above-append owner z u k.above (k.here ∷ k.below),
        above-append owner z u k.above (k.here ∷ []),
        ap (λ (b : Bool). once_if (b && is_first owner u k.below)) (parts.here_other z apart),
      ) in
      let change : IsChange c d = record {
        count = length-set c.standings x s;
        fewer = λ z. omega (arith, same z);
        kinds = kinds_set c.standings x s h (ap (λ (z : Standing A). is_object z) (sym is));
      } in
      record {
        once = once_after c d w change;
        made = made_after c d w change;
        terminated = λ z e. elim (from_set c.standings x s z TerminatedObject h e) [ inl old ↦ absurd (let f = old.1 in cc) | inr old ↦ same z ∙ w.terminated z old.1 ];
        detached = λ z chain e. elim (from_set c.standings x s z (DetachedObject chain) h e) [
          | inl old ↦ let f : upper k ≡ chain = (let g = old.1 in cc) in ap (outermost owner) (sym f) ∙ outermost-append owner k.above k.here ∙ cut.here ∙ ap (λ (n : ℕ). Some n) (sym old.0)
          | inr old ↦ w.detached z chain old.1
        ];
        heads = heads_after c d w change;
        resumed = λ z e. elim (from_set c.standings x s z ResumedObject h e) [
          | inl old ↦ absurd (let f = old.1 in cc)
          | inr old ↦ let p = w.resumed z old.1 in record {
            above = omega (arith, p.above, more z (head z) (λ e. old.0 (sym e)));
            main = p.main;
            keeps = to_set c.standings x s (head z) (NoObject (Some p.main)) h (differ c.standings (head z) x _ _ p.keeps is (λ e. cc)) p.keeps;
          }
        ];
        main = λ z main e. elim (from_set c.standings x s z (NoObject (Some main)) h e) [
          | inl old ↦ absurd (let f = old.1 in cc)
          | inr old ↦ let r = w.main z main old.1 in record {
            object = r.object;
            resumed = to_set c.standings x s r.object ResumedObject h (differ c.standings r.object x _ _ r.resumed is (λ e. cc)) r.resumed;
            its_head = r.its_head;
          }
        ];
      }

  -- ---- resume, and the main component

  -- Who stands directly above a system head where the chain is cut at it: every resumed object of the system.
  pub directly : (c : Components A) (s : ℕ) (k : Cut A) (z : ℕ) → IsWellFormed owner head c → IsCut owner s c.operating k → standing_of c z ≡ ResumedObject → head z ≡ s → outermost owner k.above ≡ Some z
  directly c s k z w cut is its_head =
      let parts = parted s c.operating k cut in
      let above : 0 < times_above_in owner z s c = subst (λ n. 0 < times_above_in owner z n c) its_head ((w.resumed z is).above) in
      let once = w.once s in
      let whole : times_above owner z s c.operating ≡ times_above owner z s k.above + times_above owner z s (k.here ∷ k.below) + seam owner z s k.above (k.here ∷ k.below) =
      ap (times_above owner z s) (sym cut.chain) ∙ above-append owner z s k.above (k.here ∷ k.below) in
      seam_is owner z s k.above (k.here ∷ k.below)
      (omega (
        arith,
        above,
        once,
        whole,
        parts.times s,
        parts.here_itself,
        above_le_times owner z s k.above,
        above_le owner z s k.here k.below,
        kept_le (times_above owner z s) (times_on owner s) c.standings (above_le_times owner z s),
      ))

  -- what the chain of a resumed component and the seams come to
  record IsReplaced (c : Components A) (s : ℕ) (k : Cut A) (l : List A) : Type 0 where
    times : (z : ℕ) → times_on owner z (l ++ k.here ∷ k.below) + times_on owner z k.above ≡ times_on owner z c.operating + times_on owner z l
    pairs : (z u : ℕ) → times_above owner z u (l ++ k.here ∷ k.below) + times_above owner z u k.above + seam owner z u k.above (k.here ∷ k.below) ≡ times_above owner z u c.operating + times_above owner z u l + seam owner z u l (k.here ∷ k.below)
    seam_before : (z u : ℕ) → seam owner z u k.above (k.here ∷ k.below) ≤ times_above owner z u c.operating

  replaced : (c : Components A) (s : ℕ) (k : Cut A) (l : List A) → IsCut owner s c.operating k → IsReplaced c s k l
  replaced c s k l cut =
      let parts = parted s c.operating k cut in
      let whole : (z u : ℕ) → times_above owner z u c.operating ≡ times_above owner z u k.above + times_above owner z u (k.here ∷ k.below) + seam owner z u k.above (k.here ∷ k.below) =
      λ z u. ap (times_above owner z u) (sym cut.chain) ∙ above-append owner z u k.above (k.here ∷ k.below) in
      record {
        times = λ z. omega (arith, parts.times z, times-append owner z l (k.here ∷ k.below));
        pairs = λ z u. omega (arith, whole z u, above-append owner z u l (k.here ∷ k.below));
        seam_before = λ z u. omega (arith, whole z u);
      }

  -- at another instance than the one of the cut there is no seam
  no_seam : (s : ℕ) (k : Cut A) (l m : List A) (z u : ℕ) → owner k.here ≡ Some s → s ≢ u → seam owner z u m (k.here ∷ k.below) ≡ 0
  no_seam s k l m z u is apart = ap (λ (b : Bool). once_if (is_instance z (outermost owner m) && b)) (ap (is_instance u) is ∙ not_instance u s apart) ∙ nothing (is_instance z (outermost owner m))
    where
      nothing : (b : Bool) → once_if (b && false) ≡ 0
      nothing true = refl
      nothing false = refl

  the_seam : (s : ℕ) (k : Cut A) (l : List A) (y : ℕ) → owner k.here ≡ Some s → outermost owner l ≡ Some y → seam owner y s l (k.here ∷ k.below) ≡ 1
  the_seam s k l y is last =
      ap (λ (o : Option ℕ). once_if (is_instance y o && is_instance s (owner k.here))) last
      ∙ ap (λ (o : Option ℕ). once_if (is_instance y (Some y) && is_instance s o)) is
      ∙ ap (λ (b : Bool). once_if (b && is_instance s (Some s))) (is_itself y) ∙ ap once_if (is_itself s)

  -- The object y is resumed, and the main component of its system is kept.
  resume_keeps_main : (c : Components A) (y s : ℕ) (chain : List A) (k : Cut A) → IsWellFormed owner head c → standing_of c y ≡ DetachedObject chain → head y ≡ s → standing_of c s ≡ NoObject None → IsCut owner s c.operating k
      → IsWellFormed owner head (with_standing y ResumedObject (with_operating (chain ++ k.here ∷ k.below) (with_standing s (NoObject (Some k.above)) c)))
  resume_keeps_main c y s chain k w is its_head at_s cut =
      let hy : y < length c.standings = entered_one c.standings y (DetachedObject chain) is (λ e. cc) in
      let parts = parted s c.operating k cut in
      let once = w.once s in
      let hs : s < length c.standings = elim (cases_lt s (length c.standings)) [ inl h ↦ h | inr h ↦ absurd (let none = w.made s h in omega (arith, none, parts.times s, parts.here_itself)) ] in
      let apart : y ≢ s = differ c.standings y s _ _ is at_s (λ e. cc) in
      let t : Standing A = NoObject (Some k.above) in
      let mid : List (Standing A) = slice_set c.standings s t in
      let hy2 : y < length mid = subst (λ n. y < n) (sym (length-set c.standings s t)) hy in
      let l : List A = chain ++ k.here ∷ k.below in
      let d : Components A = with_standing y ResumedObject (with_operating l (with_standing s t c)) in
      let chain_y : chain_in (standing_of c y) ≡ chain = ap (λ (z : Standing A). chain_in z) is in
      let chain_s : chain_in (standing_of c s) ≡ [] = ap (λ (z : Standing A). chain_in z) at_s in
      let new = replaced c s k chain cut in
      let same : (z : ℕ) → times_in owner z d ≡ times_in owner z c =
      λ z. omega (arith, moved_two (times_on owner z) c l s y t ResumedObject hs hy apart, ap (times_on owner z) chain_y, ap (times_on owner z) chain_s, new.times z) in
      let pairs : (z u : ℕ) → times_above_in owner z u d + seam owner z u k.above (k.here ∷ k.below) ≡ times_above_in owner z u c + seam owner z u chain (k.here ∷ k.below) =
      λ z u. omega (arith, moved_two (times_above owner z u) c l s y t ResumedObject hs hy apart, ap (times_above owner z u) chain_y, ap (times_above owner z u) chain_s, new.pairs z u) in
      let change : IsChange c d = record {
        count = length-set mid y ResumedObject ∙ length-set c.standings s t;
        fewer = λ z. omega (arith, same z);
        kinds = λ z. kinds_set mid y ResumedObject hy2 (ap (λ (r : Standing A). is_object r) (sym (to_set c.standings s t y _ hs apart is))) z ∙ kinds_set c.standings s t hs (ap (λ (r : Standing A). is_object r) (sym at_s)) z;
      } in
      record {
        once = once_after c d w change;
        made = made_after c d w change;
        terminated = λ z e. elim (from_set mid y ResumedObject z TerminatedObject hy2 e) [
          | inl old ↦ absurd (let f = old.1 in cc)
          | inr mid_z ↦ elim (from_set c.standings s t z TerminatedObject hs mid_z.1) [ inl old ↦ absurd (let f = old.1 in cc) | inr old ↦ same z ∙ w.terminated z old.1 ]
        ];
        detached = λ z kept e. elim (from_set mid y ResumedObject z (DetachedObject kept) hy2 e) [
          | inl old ↦ absurd (let f = old.1 in cc)
          | inr mid_z ↦ elim (from_set c.standings s t z (DetachedObject kept) hs mid_z.1) [ inl old ↦ absurd (let f = old.1 in cc) | inr old ↦ w.detached z kept old.1 ]
        ];
        heads = heads_after c d w change;
        resumed = λ z e. elim (from_set mid y ResumedObject z ResumedObject hy2 e) [
          | inl old ↦ subst (λ n. IsInPlace owner head d n) (sym old.0) (record {
            above = subst (λ n. 0 < times_above_in owner y n d) (sym its_head) (omega (arith, pairs y s, the_seam s k chain y cut.here (w.detached y chain is), new.seam_before y s));
            main = k.above;
            keeps = ap (λ (n : ℕ). standing_of d n) its_head ∙ to_set mid y ResumedObject s t hy2 (λ e. apart (sym e)) (is_set c.standings s t hs).here;
          })
          | inr mid_z ↦ elim (from_set c.standings s t z ResumedObject hs mid_z.1) [
            | inl old ↦ absurd (let f = old.1 in cc)
            | inr old ↦ let p = w.resumed z old.1 in
                let other : head z ≢ s = differ c.standings (head z) s _ _ p.keeps at_s (λ e. cc) in
                record {
                  above = omega (arith, p.above, pairs z (head z), no_seam s k chain chain z (head z) cut.here (λ e. other (sym e)), no_seam s k chain k.above z (head z) cut.here (λ e. other (sym e)));
                  main = p.main;
                  keeps = to_set mid y ResumedObject (head z) _ hy2 (differ c.standings (head z) y _ _ p.keeps is (λ e. cc)) (to_set c.standings s t (head z) _ hs other p.keeps);
                }
          ]
        ];
        main = λ u main e. elim (from_set mid y ResumedObject u (NoObject (Some main)) hy2 e) [
          | inl old ↦ absurd (let f = old.1 in cc)
          | inr mid_u ↦ elim (from_set c.standings s t u (NoObject (Some main)) hs mid_u.1) [
            | inl old ↦ record { object = y; resumed = (is_set mid y ResumedObject hy2).here; its_head = its_head ∙ sym old.0 }
            | inr old ↦ let r = w.main u main old.1 in record {
              object = r.object;
              resumed = to_set mid y ResumedObject r.object _ hy2 (differ c.standings r.object y _ _ r.resumed is (λ e. cc)) (to_set c.standings s t r.object _ hs (differ c.standings r.object s _ _ r.resumed at_s (λ e. cc)) r.resumed);
              its_head = r.its_head;
            }
          ]
        ];
      }

  -- The object y is resumed in place of the object z, which is detached.
  resume_keeps_object : (c : Components A) (y s z : ℕ) (chain waits : List A) (k : Cut A) → IsWellFormed owner head c → standing_of c y ≡ DetachedObject chain → head y ≡ s → standing_of c s ≡ NoObject (Some waits) → IsCut owner s c.operating k
      → standing_of c z ≡ ResumedObject → head z ≡ s → IsWellFormed owner head (with_standing y ResumedObject (with_operating (chain ++ k.here ∷ k.below) (with_standing z (DetachedObject k.above) c)))
  resume_keeps_object c y s z chain waits k w is its_head at_s cut at_z z_head =
      let hy : y < length c.standings = entered_one c.standings y (DetachedObject chain) is (λ e. cc) in
      let hz : z < length c.standings = entered_one c.standings z ResumedObject at_z (λ e. cc) in
      let last : outermost owner k.above ≡ Some z = directly c s k z w cut at_z z_head in
      let apart : y ≢ z = differ c.standings y z _ _ is at_z (λ e. cc) in
      let s_y : s ≢ y = differ c.standings s y _ _ at_s is (λ e. cc) in
      let s_z : s ≢ z = differ c.standings s z _ _ at_s at_z (λ e. cc) in
      let t : Standing A = DetachedObject k.above in
      let mid : List (Standing A) = slice_set c.standings z t in
      let hy2 : y < length mid = subst (λ n. y < n) (sym (length-set c.standings z t)) hy in
      let l : List A = chain ++ k.here ∷ k.below in
      let d : Components A = with_standing y ResumedObject (with_operating l (with_standing z t c)) in
      let chain_y : chain_in (standing_of c y) ≡ chain = ap (λ (z : Standing A). chain_in z) is in
      let chain_z : chain_in (standing_of c z) ≡ [] = ap (λ (z : Standing A). chain_in z) at_z in
      let new = replaced c s k chain cut in
      let same : (x : ℕ) → times_in owner x d ≡ times_in owner x c =
      λ x. omega (arith, moved_two (times_on owner x) c l z y t ResumedObject hz hy apart, ap (times_on owner x) chain_y, ap (times_on owner x) chain_z, new.times x) in
      let pairs : (x u : ℕ) → times_above_in owner x u d + seam owner x u k.above (k.here ∷ k.below) ≡ times_above_in owner x u c + seam owner x u chain (k.here ∷ k.below) =
      λ x u. omega (arith, moved_two (times_above owner x u) c l z y t ResumedObject hz hy apart, ap (times_above owner x u) chain_y, ap (times_above owner x u) chain_z, new.pairs x u) in
      let change : IsChange c d = record {
        count = length-set mid y ResumedObject ∙ length-set c.standings z t;
        fewer = λ x. omega (arith, same x);
        kinds = λ x. kinds_set mid y ResumedObject hy2 (ap (λ (r : Standing A). is_object r) (sym (to_set c.standings z t y _ hz apart is))) x ∙ kinds_set c.standings z t hz (ap (λ (r : Standing A). is_object r) (sym at_z)) x;
      } in
      record {
        once = once_after c d w change;
        made = made_after c d w change;
        terminated = λ x e. elim (from_set mid y ResumedObject x TerminatedObject hy2 e) [
          | inl old ↦ absurd (let f = old.1 in cc)
          | inr mid_x ↦ elim (from_set c.standings z t x TerminatedObject hz mid_x.1) [ inl old ↦ absurd (let f = old.1 in cc) | inr old ↦ same x ∙ w.terminated x old.1 ]
        ];
        detached = λ x kept e. elim (from_set mid y ResumedObject x (DetachedObject kept) hy2 e) [
          | inl old ↦ absurd (let f = old.1 in cc)
          | inr mid_x ↦ elim (from_set c.standings z t x (DetachedObject kept) hz mid_x.1) [
            | inl old ↦ let f : k.above ≡ kept = (let g = old.1 in cc) in ap (outermost owner) (sym f) ∙ last ∙ ap (λ (n : ℕ). Some n) (sym old.0)
            | inr old ↦ w.detached x kept old.1
          ]
        ];
        heads = heads_after c d w change;
        resumed = λ x e. elim (from_set mid y ResumedObject x ResumedObject hy2 e) [
          | inl old ↦ subst (λ n. IsInPlace owner head d n) (sym old.0) (record {
            above = subst (λ n. 0 < times_above_in owner y n d) (sym its_head) (omega (arith, pairs y s, the_seam s k chain y cut.here (w.detached y chain is), new.seam_before y s));
            main = waits;
            keeps = ap (λ (n : ℕ). standing_of d n) its_head ∙ to_set mid y ResumedObject s _ hy2 s_y (to_set c.standings z t s _ hz s_z at_s);
          })
          | inr mid_x ↦ elim (from_set c.standings z t x ResumedObject hz mid_x.1) [
            | inl old ↦ absurd (let f = old.1 in cc)
            | inr old ↦ let p = w.resumed x old.1 in
                let other : head x ≢ s = λ same_head. old.0 (some_is (sym (directly c s k x w cut old.1 same_head) ∙ last)) in
                record {
                  above = omega (arith, p.above, pairs x (head x), no_seam s k chain chain x (head x) cut.here (λ e. other (sym e)), no_seam s k chain k.above x (head x) cut.here (λ e. other (sym e)));
                  main = p.main;
                  keeps = to_set mid y ResumedObject (head x) _ hy2 (differ c.standings (head x) y _ _ p.keeps is (λ e. cc)) (to_set c.standings z t (head x) _ hz (differ c.standings (head x) z _ _ p.keeps at_z (λ e. cc)) p.keeps);
                }
          ]
        ];
        main = λ u main e. elim (from_set mid y ResumedObject u (NoObject (Some main)) hy2 e) [
          | inl old ↦ absurd (let f = old.1 in cc)
          | inr mid_u ↦ elim (from_set c.standings z t u (NoObject (Some main)) hz mid_u.1) [
            | inl old ↦ absurd (let f = old.1 in cc)
            | inr old ↦ elim (cases_eq u s) [
              | inl here ↦ record { object = y; resumed = (is_set mid y ResumedObject hy2).here; its_head = its_head ∙ sym here }
              | inr there ↦ let r = w.main u main old.1 in
                  let not_z : r.object ≢ z = λ e. there (sym r.its_head ∙ ap head e ∙ z_head) in
                  record {
                    object = r.object;
                    resumed = to_set mid y ResumedObject r.object _ hy2 (differ c.standings r.object y _ _ r.resumed is (λ e. cc)) (to_set c.standings z t r.object _ hz not_z r.resumed);
                    its_head = r.its_head;
                  }
            ]
          ]
        ];
      }

  -- The main component of s gets control in place of the object z, which is detached.
  main_keeps : (c : Components A) (s z : ℕ) (waits : List A) (k : Cut A) → IsWellFormed owner head c → standing_of c s ≡ NoObject (Some waits) → IsCut owner s c.operating k
      → standing_of c z ≡ ResumedObject → head z ≡ s → IsWellFormed owner head (with_standing s (NoObject None) (with_operating (waits ++ k.here ∷ k.below) (with_standing z (DetachedObject k.above) c)))
  main_keeps c s z waits k w at_s cut at_z z_head =
      let hs : s < length c.standings = entered_one c.standings s (NoObject (Some waits)) at_s (λ e. cc) in
      let hz : z < length c.standings = entered_one c.standings z ResumedObject at_z (λ e. cc) in
      let last : outermost owner k.above ≡ Some z = directly c s k z w cut at_z z_head in
      let apart : s ≢ z = differ c.standings s z _ _ at_s at_z (λ e. cc) in
      let t : Standing A = DetachedObject k.above in
      let v : Standing A = NoObject None in
      let mid : List (Standing A) = slice_set c.standings z t in
      let hs2 : s < length mid = subst (λ n. s < n) (sym (length-set c.standings z t)) hs in
      let l : List A = waits ++ k.here ∷ k.below in
      let d : Components A = with_standing s v (with_operating l (with_standing z t c)) in
      let chain_s : chain_in (standing_of c s) ≡ waits = ap (λ (z : Standing A). chain_in z) at_s in
      let chain_z : chain_in (standing_of c z) ≡ [] = ap (λ (z : Standing A). chain_in z) at_z in
      let new = replaced c s k waits cut in
      let same : (x : ℕ) → times_in owner x d ≡ times_in owner x c =
      λ x. omega (arith, moved_two (times_on owner x) c l z s t v hz hs apart, ap (times_on owner x) chain_s, ap (times_on owner x) chain_z, new.times x) in
      let pairs : (x u : ℕ) → times_above_in owner x u d + seam owner x u k.above (k.here ∷ k.below) ≡ times_above_in owner x u c + seam owner x u waits (k.here ∷ k.below) =
      λ x u. omega (arith, moved_two (times_above owner x u) c l z s t v hz hs apart, ap (times_above owner x u) chain_s, ap (times_above owner x u) chain_z, new.pairs x u) in
      let change : IsChange c d = record {
        count = length-set mid s v ∙ length-set c.standings z t;
        fewer = λ x. omega (arith, same x);
        kinds = λ x. kinds_set mid s v hs2 (ap (λ (r : Standing A). is_object r) (sym (to_set c.standings z t s _ hz apart at_s))) x ∙ kinds_set c.standings z t hz (ap (λ (r : Standing A). is_object r) (sym at_z)) x;
      } in
      record {
        once = once_after c d w change;
        made = made_after c d w change;
        terminated = λ x e. elim (from_set mid s v x TerminatedObject hs2 e) [
          | inl old ↦ absurd (let f = old.1 in cc)
          | inr mid_x ↦ elim (from_set c.standings z t x TerminatedObject hz mid_x.1) [ inl old ↦ absurd (let f = old.1 in cc) | inr old ↦ same x ∙ w.terminated x old.1 ]
        ];
        detached = λ x kept e. elim (from_set mid s v x (DetachedObject kept) hs2 e) [
          | inl old ↦ absurd (let f = old.1 in cc)
          | inr mid_x ↦ elim (from_set c.standings z t x (DetachedObject kept) hz mid_x.1) [
            | inl old ↦ let f : k.above ≡ kept = (let g = old.1 in cc) in ap (outermost owner) (sym f) ∙ last ∙ ap (λ (n : ℕ). Some n) (sym old.0)
            | inr old ↦ w.detached x kept old.1
          ]
        ];
        heads = heads_after c d w change;
        resumed = λ x e. elim (from_set mid s v x ResumedObject hs2 e) [
          | inl old ↦ absurd (let f = old.1 in cc)
          | inr mid_x ↦ elim (from_set c.standings z t x ResumedObject hz mid_x.1) [
            | inl old ↦ absurd (let f = old.1 in cc)
            | inr old ↦ let p = w.resumed x old.1 in
                let other : head x ≢ s = λ same_head. old.0 (some_is (sym (directly c s k x w cut old.1 same_head) ∙ last)) in
                record {
                  above = omega (arith, p.above, pairs x (head x), no_seam s k waits waits x (head x) cut.here (λ e. other (sym e)), no_seam s k waits k.above x (head x) cut.here (λ e. other (sym e)));
                  main = p.main;
                  keeps = to_set mid s v (head x) _ hs2 other (to_set c.standings z t (head x) _ hz (differ c.standings (head x) z _ _ p.keeps at_z (λ e. cc)) p.keeps);
                }
          ]
        ];
        main = λ u main e. elim (from_set mid s v u (NoObject (Some main)) hs2 e) [
          | inl old ↦ absurd (let f = old.1 in cc)
          | inr mid_u ↦ elim (from_set c.standings z t u (NoObject (Some main)) hz mid_u.1) [
            | inl old ↦ absurd (let f = old.1 in cc)
            | inr old ↦ let r = w.main u main old.1 in
                let not_z : r.object ≢ z = λ e. mid_u.0 (sym r.its_head ∙ ap head e ∙ z_head) in
                record {
                  object = r.object;
                  resumed = to_set mid s v r.object _ hs2 (differ c.standings r.object s _ _ r.resumed at_s (λ e. cc)) (to_set c.standings z t r.object _ hz not_z r.resumed);
                  its_head = r.its_head;
                }
          ]
        ];
      }

  -- ---- the laws of resume, of the main component and of detach

  pub kept_object : (c : Components A) (s z : ℕ) (waits u : List A) → standing_of c s ≡ NoObject (Some waits) → outermost owner u ≡ Some z → kept owner s u c ≡ with_standing z (DetachedObject u) c
  kept_object c s z waits u at_s last = ap (λ (r : Standing A). kept_by owner r s u c) at_s ∙ ap (λ (o : Option ℕ). kept_as owner o u c) last

  pub resume_law : (c after : Components A) (y : Option ℕ) → IsWellFormed owner head c → resume owner head c y ≡ Ok after → IsWellFormed owner head after
  resume_law c after None w e = absurd (no_ok e)
  resume_law c after (Some y) w e = go (standing_of c y) refl e
    where
      no_head : {chain : List A} {r : Standing A} → standing_of c y ≡ DetachedObject chain → standing_of c (head y) ≡ r → is_object r ≡ true → ⊥
      no_head is at_s object = false≢true (sym (w.heads y (ap (λ (z : Standing A). is_object z) is)) ∙ ap (λ (z : Standing A). is_object z) at_s ∙ object)

      in_system : (chain : List A) (k : Cut A) → standing_of c y ≡ DetachedObject chain → IsCut owner (head y) c.operating k → (r : Standing A) → standing_of c (head y) ≡ r
          → IsWellFormed owner head (with_standing y ResumedObject (with_operating (chain ++ k.here ∷ k.below) (kept owner (head y) k.above c)))
      in_system chain k is cut (NoObject None) at_s =
          subst (λ (d : Components A). IsWellFormed owner head (with_standing y ResumedObject (with_operating (chain ++ k.here ∷ k.below) d)))
          (sym (ap (λ (r : Standing A). kept_by owner r (head y) k.above c) at_s)) (resume_keeps_main c y (head y) chain k w is refl at_s cut)
      in_system chain k is cut (NoObject (Some waits)) at_s =
          let r = w.main (head y) waits at_s in
          subst (λ (d : Components A). IsWellFormed owner head (with_standing y ResumedObject (with_operating (chain ++ k.here ∷ k.below) d)))
          (sym (kept_object c (head y) r.object waits k.above at_s (directly c (head y) k r.object w cut r.resumed r.its_head))) (resume_keeps_object c y (head y) r.object chain waits k w is refl at_s cut r.resumed r.its_head)
      in_system chain k is cut AttachedObject at_s = absurd (no_head is at_s refl)
      in_system chain k is cut (DetachedObject other) at_s = absurd (no_head is at_s refl)
      in_system chain k is cut ResumedObject at_s = absurd (no_head is at_s refl)
      in_system chain k is cut TerminatedObject at_s = absurd (no_head is at_s refl)

      at_cut : (chain : List A) → standing_of c y ≡ DetachedObject chain → (o : Option (Cut A)) → cut_at owner (head y) c.operating ≡ o → resume_at owner o chain c (head y) y ≡ Ok after → IsWellFormed owner head after
      at_cut chain is None cut e = absurd (no_ok e)
      at_cut chain is (Some k) cut e = subst (λ (d : Components A). IsWellFormed owner head d) (ok_is e) (in_system chain k is (cut_is owner (head y) c.operating k cut) (standing_of c (head y)) refl)

      go : (r : Standing A) → standing_of c y ≡ r → resume_by owner r c (head y) y ≡ Ok after → IsWellFormed owner head after
      go (NoObject main) is e = absurd (no_ok e)
      go AttachedObject is e = absurd (no_ok e)
      go TerminatedObject is e = absurd (no_ok e)
      go ResumedObject is e = subst (λ (d : Components A). IsWellFormed owner head d) (ok_is e) w
      go (DetachedObject chain) is e = at_cut chain is (cut_at owner (head y) c.operating) refl e

  pub main_law : (c after : Components A) (s : ℕ) → IsWellFormed owner head c → resume_main owner c s ≡ Ok after → IsWellFormed owner head after
  main_law c after s w e = go (standing_of c s) refl e
    where
      same : ◌≡◌ {A = Result (Components A) RunError} (Ok c) (Ok after) → IsWellFormed owner head after
      same e = subst (λ (d : Components A). IsWellFormed owner head d) (ok_is e) w

      in_system : (waits : List A) (k : Cut A) → standing_of c s ≡ NoObject (Some waits) → IsCut owner s c.operating k
          → IsWellFormed owner head (with_standing s (NoObject None) (with_operating (waits ++ k.here ∷ k.below) (kept owner s k.above c)))
      in_system waits k at_s cut =
          let r = w.main s waits at_s in
          subst (λ (d : Components A). IsWellFormed owner head (with_standing s (NoObject None) (with_operating (waits ++ k.here ∷ k.below) d)))
          (sym (kept_object c s r.object waits k.above at_s (directly c s k r.object w cut r.resumed r.its_head))) (main_keeps c s r.object waits k w at_s cut r.resumed r.its_head)

      at_cut : (waits : List A) → standing_of c s ≡ NoObject (Some waits) → (o : Option (Cut A)) → cut_at owner s c.operating ≡ o → main_at owner o waits c s ≡ Ok after → IsWellFormed owner head after
      at_cut waits at_s None cut e = absurd (no_ok e)
      at_cut waits at_s (Some k) cut e = subst (λ (d : Components A). IsWellFormed owner head d) (ok_is e) (in_system waits k at_s (cut_is owner s c.operating k cut))

      go : (r : Standing A) → standing_of c s ≡ r → main_by owner r c s ≡ Ok after → IsWellFormed owner head after
      go (NoObject None) at_s e = same e
      go (NoObject (Some waits)) at_s e = at_cut waits at_s (cut_at owner s c.operating) refl e
      go AttachedObject at_s e = same e
      go (DetachedObject chain) at_s e = same e
      go ResumedObject at_s e = same e
      go TerminatedObject at_s e = same e

  pub detach_law : (c after : Components A) (x : ℕ) → IsWellFormed owner head c → detach owner head c x ≡ Ok after → IsWellFormed owner head after
  detach_law c after x w e = go (standing_of c x) refl e
    where
      leaves : standing_of c x ≡ AttachedObject → (o : Option (Cut A)) → cut_at owner x c.operating ≡ o → leave_at owner o c x ≡ Ok after → IsWellFormed owner head after
      leaves is None cut e = absurd (no_ok e)
      leaves is (Some k) cut e = subst (λ (d : Components A). IsWellFormed owner head d) (ok_is e) (leave_keeps c x k w is (cut_is owner x c.operating k cut))

      gives_up : (o : Option (Cut A)) → give_up_at owner o c (head x) ≡ Ok after → IsWellFormed owner head after
      gives_up None e = absurd (no_ok e)
      gives_up (Some k) e = main_law c after (head x) w e

      go : (r : Standing A) → standing_of c x ≡ r → detach_by owner r c (head x) x ≡ Ok after → IsWellFormed owner head after
      go (NoObject main) is e = subst (λ (d : Components A). IsWellFormed owner head d) (ok_is e) w
      go AttachedObject is e = leaves is (cut_at owner x c.operating) refl e
      go ResumedObject is e = gives_up (cut_at owner x c.operating) e
      go (DetachedObject chain) is e = absurd (no_ok e)
      go TerminatedObject is e = absurd (no_ok e)

  -- ---- the end of an object on top

  end_of_attached : (c : Components A) (x : ℕ) (a : A) (rest : List A) → IsWellFormed owner head c → standing_of c x ≡ AttachedObject → c.operating ≡ a ∷ rest → owner a ≡ Some x
      → IsWellFormed owner head (with_standing x TerminatedObject (with_operating rest c))
  end_of_attached c x a rest w is top own =
      let h : x < length c.standings = entered_one c.standings x AttachedObject is (λ e. cc) in
      let d : Components A = with_standing x TerminatedObject (with_operating rest c) in
      let kept_chain : chain_in (standing_of c x) ≡ [] = ap (λ (z : Standing A). chain_in z) is in
      let count : (z : ℕ) → times_in owner z d + once_if (is_instance z (owner a)) ≡ times_in owner z c =
      λ z. omega (arith, moved (times_on owner z) c rest x TerminatedObject h, ap (times_on owner z) top, ap (times_on owner z) kept_chain) in
      let itself : once_if (is_instance x (owner a)) ≡ 1 = ap (λ (o : Option ℕ). once_if (is_instance x o)) own ∙ ap once_if (is_itself x) in
      let more : (z u : ℕ) → z ≢ x → times_above_in owner z u c ≤ times_above_in owner z u d =
      λ z u apart. omega (
        arith,
        moved (times_above owner z u) c rest x TerminatedObject h,
        ap (times_above owner z u) kept_chain,
        ap (times_above owner z u) top,
        ap (λ (b : Bool). once_if (b && is_first owner u rest)) (ap (is_instance z) own ∙ not_instance z x (λ e. apart (sym e))),
      ) in
      let change : IsChange c d = record {
        count = length-set c.standings x TerminatedObject;
        fewer = λ z. omega (arith, count z);
        kinds = kinds_set c.standings x TerminatedObject h (ap (λ (z : Standing A). is_object z) (sym is));
      } in
      record {
        once = once_after c d w change;
        made = made_after c d w change;
        terminated = λ z e. elim (from_set c.standings x TerminatedObject z TerminatedObject h e) [
          | inl old ↦ ap (λ n. times_in owner n d) old.0 ∙ (let one = w.once x in omega (arith, count x, itself, one))
          | inr old ↦ (let none = w.terminated z old.1 in omega (arith, count z, none))
        ];
        detached = λ z chain e. elim (from_set c.standings x TerminatedObject z (DetachedObject chain) h e) [ inl old ↦ absurd (let f = old.1 in cc) | inr old ↦ w.detached z chain old.1 ];
        heads = heads_after c d w change;
        resumed = λ z e. elim (from_set c.standings x TerminatedObject z ResumedObject h e) [
          | inl old ↦ absurd (let f = old.1 in cc)
          | inr old ↦ let p = w.resumed z old.1 in record {
            above = omega (arith, p.above, more z (head z) old.0);
            main = p.main;
            keeps = to_set c.standings x TerminatedObject (head z) (NoObject (Some p.main)) h (differ c.standings (head z) x _ _ p.keeps is (λ e. cc)) p.keeps;
          }
        ];
        main = λ z main e. elim (from_set c.standings x TerminatedObject z (NoObject (Some main)) h e) [
          | inl old ↦ absurd (let f = old.1 in cc)
          | inr old ↦ let r = w.main z main old.1 in record {
            object = r.object;
            resumed = to_set c.standings x TerminatedObject r.object ResumedObject h (differ c.standings r.object x _ _ r.resumed is (λ e. cc)) r.resumed;
            its_head = r.its_head;
          }
        ];
      }

  end_of_resumed : (c : Components A) (x s : ℕ) (a b : A) (rest waits : List A) → IsWellFormed owner head c → standing_of c x ≡ ResumedObject → head x ≡ s → standing_of c s ≡ NoObject (Some waits)
      → c.operating ≡ a ∷ b ∷ rest → owner a ≡ Some x → owner b ≡ Some s → IsWellFormed owner head (with_standing x TerminatedObject (with_standing s (NoObject None) (with_operating (waits ++ b ∷ rest) c)))
  end_of_resumed c x s a b rest waits w is its_head at_s top own below =
      let hx : x < length c.standings = entered_one c.standings x ResumedObject is (λ e. cc) in
      let hs : s < length c.standings = entered_one c.standings s (NoObject (Some waits)) at_s (λ e. cc) in
      let apart : x ≢ s = differ c.standings x s _ _ is at_s (λ e. cc) in
      let v : Standing A = NoObject None in
      let k : Cut A = record { above = a ∷ []; here = b; below = rest } in
      let cut : IsCut owner s c.operating k = record { chain = sym top; here = below; free = ap (λ (p : Bool). p || false) (ap (is_instance s) own ∙ not_instance s x apart) } in
      let mid : List (Standing A) = slice_set c.standings s v in
      let hx2 : x < length mid = subst (λ n. x < n) (sym (length-set c.standings s v)) hx in
      let l : List A = waits ++ b ∷ rest in
      let d : Components A = with_standing x TerminatedObject (with_standing s v (with_operating l c)) in
      let chain_s : chain_in (standing_of c s) ≡ waits = ap (λ (z : Standing A). chain_in z) at_s in
      let chain_x : chain_in (standing_of c x) ≡ [] = ap (λ (z : Standing A). chain_in z) is in
      let count : (z : ℕ) → times_in owner z d + once_if (is_instance z (owner a)) ≡ times_in owner z c =
      λ z. omega (arith, moved_two (times_on owner z) c l s x v TerminatedObject hs hx apart, ap (times_on owner z) chain_s, ap (times_on owner z) chain_x, ap (times_on owner z) top, times-append owner z waits (b ∷ rest)) in
      let itself : once_if (is_instance x (owner a)) ≡ 1 = ap (λ (o : Option ℕ). once_if (is_instance x o)) own ∙ ap once_if (is_itself x) in
      let not_first : (z u : ℕ) → s ≢ u → once_if (is_instance z (owner a) && is_instance u (owner b)) ≡ 0 =
      λ z u other. no_seam s k (a ∷ []) (a ∷ []) z u below other in
      let more : (z u : ℕ) → s ≢ u → times_above_in owner z u d ≡ times_above_in owner z u c =
      λ z u other. omega (
        arith,
        moved_two (times_above owner z u) c l s x v TerminatedObject hs hx apart,
        ap (times_above owner z u) chain_s,
        ap (times_above owner z u) chain_x,
        ap (times_above owner z u) top,
        above-append owner z u waits (b ∷ rest),
        no_seam s k waits waits z u below other,
        not_first z u other,
      ) in
      let change : IsChange c d = record {
        count = length-set mid x TerminatedObject ∙ length-set c.standings s v;
        fewer = λ z. omega (arith, count z);
        kinds = λ z. kinds_set mid x TerminatedObject hx2 (ap (λ (r : Standing A). is_object r) (sym (to_set c.standings s v x _ hs apart is))) z ∙ kinds_set c.standings s v hs (ap (λ (r : Standing A). is_object r) (sym at_s)) z;
      } in
      record {
        once = once_after c d w change;
        made = made_after c d w change;
        terminated = λ z e. elim (from_set mid x TerminatedObject z TerminatedObject hx2 e) [
          | inl old ↦ ap (λ n. times_in owner n d) old.0 ∙ (let one = w.once x in omega (arith, count x, itself, one))
          | inr mid_z ↦ elim (from_set c.standings s v z TerminatedObject hs mid_z.1) [ inl old ↦ absurd (let f = old.1 in cc) | inr old ↦ (let none = w.terminated z old.1 in omega (arith, count z, none)) ]
        ];
        detached = λ z kept e. elim (from_set mid x TerminatedObject z (DetachedObject kept) hx2 e) [
          | inl old ↦ absurd (let f = old.1 in cc)
          | inr mid_z ↦ elim (from_set c.standings s v z (DetachedObject kept) hs mid_z.1) [ inl old ↦ absurd (let f = old.1 in cc) | inr old ↦ w.detached z kept old.1 ]
        ];
        heads = heads_after c d w change;
        resumed = λ z e. elim (from_set mid x TerminatedObject z ResumedObject hx2 e) [
          | inl old ↦ absurd (let f = old.1 in cc)
          | inr mid_z ↦ elim (from_set c.standings s v z ResumedObject hs mid_z.1) [
            | inl old ↦ absurd (let f = old.1 in cc)
            | inr old ↦ let p = w.resumed z old.1 in
                let other : head z ≢ s = λ same_head. mid_z.0 (some_is (sym (directly c s k z w cut old.1 same_head) ∙ own)) in
                record {
                  above = omega (arith, p.above, more z (head z) (λ e. other (sym e)));
                  main = p.main;
                  keeps = to_set mid x TerminatedObject (head z) _ hx2 (differ c.standings (head z) x _ _ p.keeps is (λ e. cc)) (to_set c.standings s v (head z) _ hs other p.keeps);
                }
          ]
        ];
        main = λ u main e. elim (from_set mid x TerminatedObject u (NoObject (Some main)) hx2 e) [
          | inl old ↦ absurd (let f = old.1 in cc)
          | inr mid_u ↦ elim (from_set c.standings s v u (NoObject (Some main)) hs mid_u.1) [
            | inl old ↦ absurd (let f = old.1 in cc)
            | inr old ↦ let r = w.main u main old.1 in
                let not_x : r.object ≢ x = λ e. old.0 (sym r.its_head ∙ ap head e ∙ its_head) in
                record {
                  object = r.object;
                  resumed = to_set mid x TerminatedObject r.object _ hx2 not_x (to_set c.standings s v r.object _ hs (differ c.standings r.object s _ _ r.resumed at_s (λ e. cc)) r.resumed);
                  its_head = r.its_head;
                }
          ]
        ];
      }

  above_le_first : (x y : ℕ) (l : List A) → times_above owner x y l ≤ times_on owner x l
  above_le_first x y [] = omega arith
  above_le_first x y (a ∷ l) = omega (arith, above_le_first x y l, bounded (is_instance x (owner a)) (is_first owner y l))
    where
      bounded : (p q : Bool) → once_if (p && q) ≤ once_if p
      bounded true true = omega arith
      bounded true false = omega arith
      bounded false q = omega arith

  pub end_law : (c : Components A) (x : ℕ) (a : A) (rest : List A) → IsWellFormed owner head c → c.operating ≡ a ∷ rest → owner a ≡ Some x
      → (standing_of c x ≡ AttachedObject) ⊎ (standing_of c x ≡ ResumedObject) → IsWellFormed owner head (finish owner head c x)
  end_law c x a rest w top own (inl is) =
      let k : Cut A = record { above = []; here = a; below = rest } in
      let cut : cut_at owner x c.operating ≡ Some k = ap (cut_at owner x) top ∙ cuts owner x k own refl in
      subst (λ (d : Components A). IsWellFormed owner head d)
      (sym (ap (λ (r : Standing A). finish_by owner r c (head x) x) is ∙ ap (λ (o : Option (Cut A)). with_standing x TerminatedObject (returned owner o c)) cut))
      (end_of_attached c x a rest w is top own)
  end_law c x a rest w top own (inr is) =
      let p = w.resumed x is in
      let one = w.once x in
      let itself : once_if (is_instance x (owner a)) ≡ 1 = ap (λ (o : Option ℕ). once_if (is_instance x o)) own ∙ ap once_if (is_itself x) in
      on_head rest top p.main p.keeps
      (omega (
        arith,
        p.above,
        one,
        itself,
        ap (times_above owner x (head x)) top,
        ap (times_on owner x) top,
        above_le_first x (head x) rest,
        kept_le (times_above owner x (head x)) (times_on owner x) c.standings (above_le_first x (head x)),
      ))
    where
      counted : (b : Bool) → 0 < once_if (is_instance x (owner a) && b) → b ≡ true
      counted true h = refl
      counted false h = absurd (omega (arith, h, nothing (is_instance x (owner a))))
        where
          nothing : (b : Bool) → once_if (b && false) ≡ 0
          nothing true = refl
          nothing false = refl

      on_head : (rest : List A) → c.operating ≡ a ∷ rest → (waits : List A) → standing_of c (head x) ≡ NoObject (Some waits) → 0 < once_if (is_instance x (owner a) && is_first owner (head x) rest) → IsWellFormed owner head (finish owner head c x)
      on_head [] top waits at_s h = absurd (false≢true (counted false h))
      on_head (b ∷ rest) top waits at_s h =
          let s : ℕ = head x in
          let below : owner b ≡ Some s = instance_is s (owner b) (counted (is_instance s (owner b)) h) in
          let apart : x ≢ s = differ c.standings x s _ _ is at_s (λ e. cc) in
          let k : Cut A = record { above = a ∷ []; here = b; below = rest } in
          let free : (is_instance s (owner a) || false) ≡ false = ap (λ (p : Bool). p || false) (ap (is_instance s) own ∙ not_instance s x apart) in
          let cut : cut_at owner s c.operating ≡ Some k = ap (cut_at owner s) top ∙ cuts owner s k below free in
          subst (λ (d : Components A). IsWellFormed owner head d)
          (sym (ap (λ (r : Standing A). finish_by owner r c s x) is ∙ ap (λ (o : Option (Cut A)). with_standing x TerminatedObject (dropped owner o (standing_of c s) s c)) cut ∙ ap (λ (r : Standing A). with_standing x TerminatedObject (dropped owner (Some k) r s c)) at_s))
          (end_of_resumed c x s a b rest waits w is refl at_s top own below)
