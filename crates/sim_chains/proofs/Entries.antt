-- Entries, and ends of blocks and procedures, keep what is well formed.
use Rattle.std.proofs.Common.{◌≡◌, ◌≢◌, ◌<◌, ◌≤◌, ◌+◌, ◌⊎◌, ℕ, zero, suc, Bool, true, false, List, [], ◌∷◌, ◌++◌, Option, Some, None, refl, sym, ap, ◌∙◌, subst, inl, inr, arith, length, length-append}
use Rattle.std.specs.Prelude.{◌&&◌}
use Rattle.std.proofs.lemmas.Bool.{cases_eq, false≢true}
use Rattle.sim_chains.specs.Chains.{is_first, is_instance, once_if, times_above, times_on}
use Rattle.sim_chains.specs.Components.{Standing, NoObject, AttachedObject, DetachedObject, ResumedObject, TerminatedObject, Components, standing_of, entered, left}
use Rattle.sim_chains.specs.WellFormed.{chain_in, over_kept, is_object, times_in, times_above_in, IsWellFormed}
use Rattle.sim_chains.proofs.Cuts.{instance_is, is_itself}
use Rattle.sim_chains.proofs.Counts.{at}
use Rattle.sim_chains.proofs.Keeps.{not_instance}

module _ {A : Type 0} where
  at-push_here : (l : List (Standing A)) (s : Standing A) → at (l ++ s ∷ []) (length l) ≡ s
  at-push_here [] s = refl
  at-push_here (r ∷ l) s = at-push_here l s

  at-push_other : (l : List (Standing A)) (s : Standing A) (x : ℕ) → x ≢ length l → at (l ++ s ∷ []) x ≡ at l x
  at-push_other [] s zero apart = absurd (apart refl)
  at-push_other [] s (suc x) apart = refl
  at-push_other (r ∷ l) s zero apart = refl
  at-push_other (r ∷ l) s (suc x) apart = at-push_other l s x (λ e. apart (ap (λ (n : ℕ). suc n) e))

  from_push : (l : List (Standing A)) (s : Standing A) (x : ℕ) (v : Standing A) → at (l ++ s ∷ []) x ≡ v → ((x ≡ length l) × (s ≡ v)) ⊎ ((x ≢ length l) × (at l x ≡ v))
  from_push l s x v e = elim (cases_eq x (length l)) [
    | inl same ↦ inl (same, sym (at-push_here l s) ∙ ap (at (l ++ s ∷ [])) (sym same) ∙ e)
    | inr apart ↦ inr (apart, sym (at-push_other l s x apart) ∙ e)
  ]

  kept-push : (f : List A → ℕ) (l : List (Standing A)) (s : Standing A) → f (chain_in s) ≡ 0 → over_kept f (l ++ s ∷ []) ≡ over_kept f l
  kept-push f [] s none = omega arith
  kept-push f (r ∷ l) s none = omega (arith, kept-push f l s none)

  -- an instance that is entered is no object or an attached one
  pub IsNew : Standing A → Type 0
  IsNew s = (s ≡ NoObject None) ⊎ (s ≡ AttachedObject)

  abbrev pub Fresh : Standing A → Type 0
  Fresh s = (chain_in s ≡ []) × (s ≡ TerminatedObject → ⊥) × ((chain : List A) → s ≡ DetachedObject chain → ⊥) × (s ≡ ResumedObject → ⊥) × ((main : List A) → s ≡ NoObject (Some main) → ⊥)

module _ {A : Type 0} (owner : A → Option ℕ) (head : ℕ → ℕ) where
  enters : (c : Components A) (a : A) (s : Standing A) → IsWellFormed owner head c → owner a ≡ Some (length c.standings) → Fresh s
      → ((x : ℕ) → is_object (standing_of (entered a s c) x) ≡ true → head x < x) → (is_object s ≡ true → is_object (standing_of c (head (length c.standings))) ≡ false)
      → IsWellFormed owner head (entered a s c)
  enters c a s w own fresh lower its_head =
      let n : ℕ = length c.standings in
      let d : Components A = entered a s c in
      let times : (z : ℕ) → times_in owner z d ≡ once_if (is_instance z (owner a)) + times_in owner z c =
      λ z. omega (arith, kept-push (times_on owner z) c.standings s (ap (times_on owner z) fresh.0)) in
      let more : (z u : ℕ) → times_above_in owner z u c ≤ times_above_in owner z u d =
      λ z u. omega (arith, kept-push (times_above owner z u) c.standings s (ap (times_above owner z u) fresh.0)) in
      let other : (z : ℕ) → z ≢ n → times_in owner z d ≡ times_in owner z c =
      λ z apart. times z ∙ ap (λ (b : Bool). once_if b + times_in owner z c) (ap (is_instance z) own ∙ not_instance z n (λ e. apart (sym e))) ∙ omega arith in
      let unmade : times_in owner n c ≡ 0 = w.made n (omega arith) in
      let one : times_in owner n d ≤ 1 = (let itself = ap (λ (o : Option ℕ). once_if (is_instance n o)) own ∙ ap once_if (is_itself n) in omega (arith, times n, itself, unmade)) in
      let longer : length d.standings ≡ n + 1 = length-append c.standings (s ∷ []) in
      record {
        once = λ z. elim (cases_eq z n) [ inl same ↦ subst (λ k. times_in owner k d ≤ 1) (sym same) one | inr apart ↦ (let before = w.once z in omega (arith, other z apart, before)) ];
        made = λ z h. (let apart : z ≢ n = omega (arith, h, longer) in other z apart ∙ w.made z (omega (arith, h, longer)));
        terminated = λ z e. elim (from_push c.standings s z TerminatedObject e) [ inl old ↦ absurd (fresh.1 old.1) | inr old ↦ other z old.0 ∙ w.terminated z old.1 ];
        detached = λ z chain e. elim (from_push c.standings s z (DetachedObject chain) e) [ inl old ↦ absurd (fresh.2 chain old.1) | inr old ↦ w.detached z chain old.1 ];
        heads = λ z object. elim (cases_eq z n) [
          | inl same ↦
              let is : is_object s ≡ true = sym (ap (λ (r : Standing A). is_object r) (at-push_here c.standings s)) ∙ ap (λ (k : ℕ). is_object (standing_of d k)) (sym same) ∙ object in
              let below : head z ≢ n = (let h = lower z object in omega (arith, h, same)) in
              ap (λ (r : Standing A). is_object r) (at-push_other c.standings s (head z) below) ∙ ap (λ (k : ℕ). is_object (standing_of c (head k))) same ∙ its_head is
          | inr apart ↦
              let is : is_object (standing_of c z) ≡ true = sym (ap (λ (r : Standing A). is_object r) (at-push_other c.standings s z apart)) ∙ object in
              elim (cases_eq (head z) n) [
                | inl top ↦ absurd (let h = lower z object in let none = past_is z is in omega (arith, h, top, none))
                | inr below ↦ ap (λ (r : Standing A). is_object r) (at-push_other c.standings s (head z) below) ∙ w.heads z is
              ]
        ];
        resumed = λ z e. elim (from_push c.standings s z ResumedObject e) [
          | inl old ↦ absurd (fresh.3 old.1)
          | inr old ↦ let p = w.resumed z old.1 in
              let below : head z ≢ n = (let h = lower z (ap (λ (r : Standing A). is_object r) e) in let none = past_is z (ap (λ (r : Standing A). is_object r) old.1) in omega (arith, h, none)) in
              record { above = omega (arith, p.above, more z (head z)); main = p.main; keeps = at-push_other c.standings s (head z) below ∙ p.keeps }
        ];
        main = λ u main e. elim (from_push c.standings s u (NoObject (Some main)) e) [
          | inl old ↦ absurd (fresh.4 main old.1)
          | inr old ↦ let r = w.main u main old.1 in
              let there : r.object ≢ n = (let none = past_is r.object (ap (λ (s : Standing A). is_object s) r.resumed) in omega (arith, none)) in
              record { object = r.object; resumed = at-push_other c.standings s r.object there ∙ r.resumed; its_head = r.its_head }
        ];
      }
    where
      beyond : (l : List (Standing A)) (z : ℕ) → is_object (at l z) ≡ true → z < length l
      beyond [] z is = absurd (false≢true is)
      beyond (r ∷ l) zero is = omega arith
      beyond (r ∷ l) (suc z) is = (let h = beyond l z is in omega (arith, h))

      past_is : (z : ℕ) → is_object (standing_of c z) ≡ true → z < length c.standings
      past_is z is = beyond c.standings z is

  pub entered_block : (c : Components A) (a : A) → IsWellFormed owner head c → owner a ≡ Some (length c.standings) → ((x : ℕ) → is_object (standing_of (entered a (NoObject None) c) x) ≡ true → head x < x) → IsWellFormed owner head (entered a (NoObject None) c)
  entered_block c a w own lower = enters c a (NoObject None) w own (refl, λ e. cc, λ chain e. cc, λ e. cc, λ main e. cc) lower (λ e. absurd (false≢true e))

  pub entered_object : (c : Components A) (a : A) → IsWellFormed owner head c → owner a ≡ Some (length c.standings) → ((x : ℕ) → is_object (standing_of (entered a AttachedObject c) x) ≡ true → head x < x)
      → is_object (standing_of c (head (length c.standings))) ≡ false → IsWellFormed owner head (entered a AttachedObject c)
  entered_object c a w own lower its_head = enters c a AttachedObject w own (refl, λ e. cc, λ chain e. cc, λ e. cc, λ main e. cc) lower (λ e. its_head)

  leaves : (c : Components A) (a : A) (rest : List A) → IsWellFormed owner head c → c.operating ≡ a ∷ rest → ((x : ℕ) → owner a ≡ Some x → is_object (standing_of c x) ≡ false)
      → IsWellFormed owner head (record { operating = rest; standings = c.standings })
  leaves c a rest w top block =
      let d : Components A = record { operating = rest; standings = c.standings } in
      let times : (z : ℕ) → times_in owner z d ≤ times_in owner z c = λ z. omega (arith, ap (times_on owner z) top) in
      let not_own : (z : ℕ) → is_object (standing_of c z) ≡ true → is_instance z (owner a) ≡ false = λ z is. free z is (is_instance z (owner a)) refl in
      record {
        once = λ z. (let before = w.once z in omega (arith, times z, before));
        made = λ z h. (let before = w.made z h in omega (arith, times z, before));
        terminated = λ z e. (let before = w.terminated z e in omega (arith, times z, before));
        detached = w.detached;
        heads = w.heads;
        resumed = λ z e. let p = w.resumed z e in record {
          above = (let gone = ap (λ (b : Bool). once_if (b && is_first owner (head z) rest)) (not_own z (ap (λ (r : Standing A). is_object r) e)) in omega (arith, p.above, ap (times_above owner z (head z)) top, gone));
          main = p.main;
          keeps = p.keeps;
        };
        main = λ u main e. let r = w.main u main e in record { object = r.object; resumed = r.resumed; its_head = r.its_head };
      }
    where
      free : (z : ℕ) → is_object (standing_of c z) ≡ true → (b : Bool) → is_instance z (owner a) ≡ b → is_instance z (owner a) ≡ false
      free z is true e = absurd (false≢true (sym (block z (instance_is z (owner a) e)) ∙ is))
      free z is false e = e

  pub left_keeps : (c : Components A) (a : A) (rest : List A) → IsWellFormed owner head c → c.operating ≡ a ∷ rest → ((x : ℕ) → owner a ≡ Some x → is_object (standing_of c x) ≡ false) → IsWellFormed owner head (left c)
  left_keeps c a rest w top block = subst (λ (l : List A). IsWellFormed owner head (left (record { operating = l; standings = c.standings }))) (sym top) (leaves c a rest w top block)
