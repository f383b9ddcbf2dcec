-- What the transfers of control give where they are not refused.
use Rattle.std.proofs.Common.{◌≡◌, ◌≢◌, ◌<◌, ◌≤◌, ℕ, zero, suc, false, List, [], ◌∷◌, ◌++◌, Option, Some, None, Ok, refl, sym, ap, ◌∙◌, subst, arith, length, inl, inr}
use Rattle.std.specs.Prelude.{slice_set}
use Rattle.std.proofs.lemmas.Bool.{cases_lt}
use Rattle.std.proofs.lemmas.List.{set-get_or, set-set, length-set}
use Rattle.sim_chains.specs.Chains.{Cut, cut_at, joined, outermost, stands_on, times_on}
use Rattle.sim_chains.specs.Components.{Standing, NoObject, AttachedObject, DetachedObject, ResumedObject, TerminatedObject, Components, standing_of, with_operating, with_standing, kept, kept_by, resume, resume_by, resume_at, resume_main, main_by, main_at, returned, dropped, finish, finish_by}
use Rattle.sim_chains.specs.WellFormed.{chain_in, over_kept, IsWellFormed}
use Rattle.sim_chains.proofs.Cuts.{cut_is, cuts}
use Rattle.sim_chains.proofs.Counts.{at, is_set, kept-set}
use Rattle.sim_chains.proofs.Keeps.{differ, directly, entered_one, kept_object, parted, to_set}
use Rattle.sim_chains.proofs.Refused.{free_times, no_ok, ok_is}

module _ {A : Type 0} where
  -- two standings are set in either order
  set_swap : (l : List (Standing A)) (i j : ℕ) (s t : Standing A) → i ≢ j → slice_set (slice_set l i s) j t ≡ slice_set (slice_set l j t) i s
  set_swap [] i j s t apart = refl
  set_swap (r ∷ l) zero zero s t apart = absurd (apart refl)
  set_swap (r ∷ l) zero (suc j) s t apart = refl
  set_swap (r ∷ l) (suc i) zero s t apart = refl
  set_swap (r ∷ l) (suc i) (suc j) s t apart = ap (λ (m : List (Standing A)). r ∷ m) (set_swap l i j s t (λ e. apart (ap (λ (n : ℕ). suc n) e)))

  -- a standing that is set to what it was
  set_same : (l : List (Standing A)) (i : ℕ) (s : Standing A) → at l i ≡ s → slice_set l i s ≡ l
  set_same l i s is = ap (slice_set l i) (sym is) ∙ set-get_or l i (NoObject None)

  -- the chain that one instance keeps is among all
  chain_le : (f : List A → ℕ) (l : List (Standing A)) (i : ℕ) (chain : List A) → f [] ≡ 0 → i < length l → at l i ≡ DetachedObject chain → f chain ≤ over_kept f l
  chain_le f l i chain none h is = omega (arith, none, kept-set f l i (NoObject None) h, ap (λ (s : Standing A). f (chain_in s)) is)

module _ {A : Type 0} (owner : A → Option ℕ) (head : ℕ → ℕ) where
  resumed_to : Components A → ℕ → List A → Cut A → Components A
  resumed_to c y chain k = with_standing y ResumedObject (with_operating (chain ++ k.here ∷ k.below) (kept owner (head y) k.above c))

  -- a resumption that is not refused cuts the chain at the head
  pub resume_cut : (c after : Components A) (y : ℕ) (chain : List A) → standing_of c y ≡ DetachedObject chain → resume owner head c (Some y) ≡ Ok after
      → (k : Cut A) × (cut_at owner (head y) c.operating ≡ Some k) × (with_standing y ResumedObject (with_operating (chain ++ k.here ∷ k.below) (kept owner (head y) k.above c)) ≡ after)
  resume_cut c after y chain is e = go (cut_at owner (head y) c.operating) refl (sym (ap (λ (s : Standing A). resume_by owner s c (head y) y) is) ∙ e)
    where
      go : (o : Option (Cut A)) → cut_at owner (head y) c.operating ≡ o → resume_at owner o chain c (head y) y ≡ Ok after
          → (k : Cut A) × (cut_at owner (head y) c.operating ≡ Some k) × (with_standing y ResumedObject (with_operating (chain ++ k.here ∷ k.below) (kept owner (head y) k.above c)) ≡ after)
      go None cut e = absurd (no_ok owner e)
      go (Some k) cut e = (k, cut, ok_is owner e)

  pub resume_back : (c resumed after : Components A) (y : ℕ) (chain : List A) → IsWellFormed owner head c → standing_of c y ≡ DetachedObject chain → standing_of c (head y) ≡ NoObject None
      → resume owner head c (Some y) ≡ Ok resumed → resume_main owner resumed (head y) ≡ Ok after → after ≡ c
  resume_back c resumed after y chain w is at_s resumes back =
      let s : ℕ = head y in
      let found = resume_cut c resumed y chain is resumes in
      let k : Cut A = found.0 in
      let cut = cut_is owner s c.operating k found.1 in
      let parts = parted owner head s c.operating k cut in
      let hy : y < length c.standings = entered_one c.standings y (DetachedObject chain) is (λ e. cc) in
      let once = w.once s in
      let hs : s < length c.standings = elim (cases_lt s (length c.standings)) [ inl h ↦ h | inr h ↦ absurd (let none = w.made s h in omega (arith, none, parts.times s, parts.here_itself)) ] in
      let apart : s ≢ y = differ c.standings s y _ _ at_s is (λ e. cc) in
      let free : stands_on owner s chain ≡ false =
      free_times owner s chain (omega (arith, once, parts.times s, parts.here_itself, chain_le (times_on owner s) c.standings y chain refl hy is)) in
      let t : Standing A = NoObject (Some k.above) in
      let mid : List (Standing A) = slice_set c.standings s t in
      let hy2 : y < length mid = subst (λ n. y < n) (sym (length-set c.standings s t)) hy in
      let l : List A = chain ++ k.here ∷ k.below in
      let d : Components A = record { operating = l; standings = slice_set mid y ResumedObject } in
      let d_is : d ≡ resumed = ap (λ (z : Components A). with_standing y ResumedObject (with_operating l z)) (sym (ap (λ (r : Standing A). kept_by owner r s k.above c) at_s)) ∙ found.2 in
      let waits : standing_of d s ≡ t = to_set mid y ResumedObject s t hy2 apart ((is_set c.standings s t hs).here) in
      let again : Cut A = record { above = chain; here = k.here; below = k.below } in
      let m : Components A = with_standing s (NoObject None) (with_operating (k.above ++ k.here ∷ k.below) (with_standing y (DetachedObject chain) d)) in
      let given : resume_main owner d s ≡ Ok m =
      ap (λ (r : Standing A). main_by owner r d s) waits ∙ ap (λ (o : Option (Cut A)). main_at owner o k.above d s) (cuts owner s again cut.here free)
      ∙ ap (λ (z : Components A). Ok (with_standing s (NoObject None) (with_operating (k.above ++ k.here ∷ k.below) z))) (kept_object owner head d s y k.above chain waits (w.detached y chain is)) in
      let made : m ≡ after = ok_is owner (sym given ∙ ap (λ (z : Components A). resume_main owner z s) d_is ∙ back) in
      let standings : m.standings ≡ c.standings =
      ap (λ (z : List (Standing A)). slice_set z s (NoObject None)) (set-set mid y ResumedObject (DetachedObject chain) ∙ set_swap c.standings s y t (DetachedObject chain) apart)
      ∙ set-set (slice_set c.standings y (DetachedObject chain)) s t (NoObject None)
      ∙ ap (λ (z : List (Standing A)). slice_set z s (NoObject None)) (set_same c.standings y (DetachedObject chain) is)
      ∙ set_same c.standings s (NoObject None) at_s in
      sym made ∙ ap (λ (z : List (Standing A)). record { operating = joined k; standings = z }) standings ∙ ap (λ (z : List A). record { operating = z; standings = c.standings }) cut.chain

  pub resume_keeps : (c after : Components A) (y z : ℕ) (chain waits : List A) (k : Cut A) → IsWellFormed owner head c → standing_of c y ≡ DetachedObject chain → standing_of c (head y) ≡ NoObject (Some waits)
      → standing_of c z ≡ ResumedObject → head z ≡ head y → cut_at owner (head y) c.operating ≡ Some k → resume owner head c (Some y) ≡ Ok after
      → (after.operating ≡ chain ++ k.here ∷ k.below) × (standing_of after z ≡ DetachedObject k.above) × (standing_of after y ≡ ResumedObject)
  resume_keeps c after y z chain waits k w is at_s at_z z_head cut resumes =
      let hy : y < length c.standings = entered_one c.standings y (DetachedObject chain) is (λ e. cc) in
      let hz : z < length c.standings = entered_one c.standings z ResumedObject at_z (λ e. cc) in
      let apart : z ≢ y = differ c.standings z y _ _ at_z is (λ e. cc) in
      let last : outermost owner k.above ≡ Some z = directly owner head c (head y) k z w (cut_is owner (head y) c.operating k cut) at_z z_head in
      let t : Standing A = DetachedObject k.above in
      let mid : List (Standing A) = slice_set c.standings z t in
      let hy2 : y < length mid = subst (λ n. y < n) (sym (length-set c.standings z t)) hy in
      let l : List A = chain ++ k.here ∷ k.below in
      let d : Components A = record { operating = l; standings = slice_set mid y ResumedObject } in
      let made : d ≡ after = ok_is owner (
      sym (ap (λ (s : Standing A). resume_by owner s c (head y) y) is ∙ ap (λ (o : Option (Cut A)). resume_at owner o chain c (head y) y) cut
      ∙ ap (λ (z : Components A). Ok (with_standing y ResumedObject (with_operating l z))) (kept_object owner head c (head y) z waits k.above at_s last))
      ∙ resumes) in (
        ap (λ (z : Components A). z.operating) (sym made),
        ap (λ (r : Components A). standing_of r z) (sym made) ∙ to_set mid y ResumedObject z t hy2 apart ((is_set c.standings z t hz).here),
        ap (λ (r : Components A). standing_of r y) (sym made) ∙ (is_set mid y ResumedObject hy2).here,
      )

  pub ends_attached : (c : Components A) (x : ℕ) (a : A) (rest : List A) → standing_of c x ≡ AttachedObject → c.operating ≡ a ∷ rest → owner a ≡ Some x
      → ((finish owner head c x).operating ≡ rest) × (standing_of (finish owner head c x) x ≡ TerminatedObject)
  ends_attached c x a rest is top own =
      let h : x < length c.standings = entered_one c.standings x AttachedObject is (λ e. cc) in
      let k : Cut A = record { above = []; here = a; below = rest } in
      let cut : cut_at owner x c.operating ≡ Some k = ap (cut_at owner x) top ∙ cuts owner x k own refl in
      let made = ap (λ (r : Standing A). finish_by owner r c (head x) x) is ∙ ap (λ (o : Option (Cut A)). with_standing x TerminatedObject (returned owner o c)) cut in
      (ap (λ (z : Components A). z.operating) made, ap (λ (z : Components A). standing_of z x) made ∙ (is_set c.standings x TerminatedObject h).here)

  pub ends_resumed : (c : Components A) (x : ℕ) (waits : List A) (k : Cut A) → standing_of c x ≡ ResumedObject → standing_of c (head x) ≡ NoObject (Some waits) → cut_at owner (head x) c.operating ≡ Some k
      → ((finish owner head c x).operating ≡ waits ++ k.here ∷ k.below) × (standing_of (finish owner head c x) (head x) ≡ NoObject None) × (standing_of (finish owner head c x) x ≡ TerminatedObject)
  ends_resumed c x waits k is at_s cut =
      let s : ℕ = head x in
      let hx : x < length c.standings = entered_one c.standings x ResumedObject is (λ e. cc) in
      let hs : s < length c.standings = entered_one c.standings s (NoObject (Some waits)) at_s (λ e. cc) in
      let apart : s ≢ x = differ c.standings s x _ _ at_s is (λ e. cc) in
      let mid : List (Standing A) = slice_set c.standings s (NoObject None) in
      let hx2 : x < length mid = subst (λ n. x < n) (sym (length-set c.standings s (NoObject None))) hx in
      let made = ap (λ (r : Standing A). finish_by owner r c s x) is ∙ ap (λ (o : Option (Cut A)). with_standing x TerminatedObject (dropped owner o (standing_of c s) s c)) cut ∙ ap (λ (r : Standing A). with_standing x TerminatedObject (dropped owner (Some k) r s c)) at_s in (
        ap (λ (z : Components A). z.operating) made,
        ap (λ (z : Components A). standing_of z s) made ∙ to_set mid x TerminatedObject s _ hx2 apart ((is_set c.standings s (NoObject None) hs).here),
        ap (λ (z : Components A). standing_of z x) made ∙ (is_set mid x TerminatedObject hx2).here,
      )
