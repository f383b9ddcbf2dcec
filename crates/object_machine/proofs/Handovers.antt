-- Arrays that go over to a procedure.
use Rattle.std.proofs.Common.{◌≡◌, ℕ, zero, suc, ◌-◌, ◌+◌, ◌<◌, ◌≤◌, ◌⊎◌, inl, inr, List, [], ◌∷◌, length, drop, get_or, sym, subst, refl, ap, ◌∙◌, arith}
use Rattle.std.specs.Prelude.{Bool, true, false, min, Option, Some, None, slice_get, if◌then◌else◌}
use Rattle.sim_code.specs.declared.code.CodeFormal.{CodeFormal}
use Rattle.sim_code.specs.Arrays.{handed_over, owned_by}
use Rattle.sim_code.specs.Machine.{Address, ArrayValue, Frames, Link, Of, ProcedureValue, ThunkValue, Value, array_in, arrays_by_value, is_array_by_value, with_array_of}
use Rattle.sim_code.specs.Outcome.{World}
use Rattle.frame_arena.specs.declared.slot.Slot.{Slot}
use Rattle.frame_arena.specs.declared.frames.Frame.{Frame}
use Rattle.frame_arena.specs.Arrays.{AllLeadArrays, ArraysOf, ElementsLead, HoldsArrays, KeepLeading, SlotLeadsArray, owned_world}
use Rattle.frame_arena.specs.Slots.{value_of}
use Rattle.frame_arena.specs.Stacks.{slot_at, values_from}

-- ---- one actual parameter

module _ (owner : ℕ) where
  pub done_with : (o : World) → handed_over owner [] o ≡ o
  unfolding handed_over
  done_with o = refl

  array_next : (a : ℕ) (rest : List ℕ) (o : World) → handed_over owner (a ∷ rest) o ≡ handed_over owner rest (owned_by owner (slice_get o.arrays a) o a)
  unfolding handed_over
  array_next a rest o = refl

  pub one_none : (f : CodeFormal) (v : Value) (o : World) → is_array_by_value f ≡ false → handed_over owner (arrays_by_value (f ∷ []) (v ∷ [])) o ≡ o
  one_none f v o e = ap (λ b. handed_over owner (if b then with_array_of v [] else []) o) e ∙ done_with o

  other_in : (v : Value) → None ≡ array_in v → with_array_of v [] ≡ []
  other_in (Of p) e = refl
  other_in (Link j) e = refl
  other_in (Address p) e = refl
  other_in (ProcedureValue k j) e = refl
  other_in (ThunkValue k j) e = refl
  other_in (ArrayValue a) e = absurd (no_some e)
    where
      some_type : Option ℕ → Type 0
      some_type None = Unit {0}
      some_type (Some x) = ⊥

      no_some : ◌≡◌ {A = Option ℕ} None (Some a) → ⊥
      no_some e = subst some_type e tt

  some_none : {a : ℕ} → ◌≡◌ {A = Option ℕ} (Some a) None → ⊥
  some_none e = subst some_kind e tt
    where
      some_kind : Option ℕ → Type 0
      some_kind None = ⊥
      some_kind (Some x) = Unit {0}

  some_in : (v : Value) (a : ℕ) → Some a ≡ array_in v → with_array_of v [] ≡ a ∷ []
  some_in (Of p) a e = absurd (some_none e)
  some_in (Link j) a e = absurd (some_none e)
  some_in (Address p) a e = absurd (some_none e)
  some_in (ProcedureValue k j) a e = absurd (some_none e)
  some_in (ThunkValue k j) a e = absurd (some_none e)
  some_in (ArrayValue b) a e = ap (λ o. or_else a o ∷ []) (sym e)
    where
      or_else : ℕ → Option ℕ → ℕ
      or_else n None = n
      or_else n (Some k) = k

  -- the array in a value, if there is one
  pub in_other : (v : Value) (o : World) → None ≡ array_in v → handed_over owner (with_array_of v []) o ≡ o
  in_other v o h = ap (λ l. handed_over owner l o) (other_in v h) ∙ done_with o

  pub in_array : (v : Value) (o : World) (a : ℕ) → Some a ≡ array_in v → handed_over owner (with_array_of v []) o ≡ owned_world o a owner
  in_array v o a h = ap (λ l. handed_over owner l o) (some_in v a h) ∙ array_next a [] o ∙ done_with (owned_by owner (slice_get o.arrays a) o a)

  pub one_taken : (f : CodeFormal) (v : Value) (o : World) → is_array_by_value f ≡ true → handed_over owner (arrays_by_value (f ∷ []) (v ∷ [])) o ≡ handed_over owner (with_array_of v []) o
  one_taken f v o e = ap (λ b. handed_over owner (if b then with_array_of v [] else []) o) e

  -- one after the other
  pub with_more : (v : Value) (rest : List ℕ) (o : World) → handed_over owner (with_array_of v rest) o ≡ handed_over owner rest (handed_over owner (with_array_of v []) o)
  with_more (Of p) rest o = ap (handed_over owner rest) (sym (done_with o))
  with_more (Link j) rest o = ap (handed_over owner rest) (sym (done_with o))
  with_more (Address p) rest o = ap (handed_over owner rest) (sym (done_with o))
  with_more (ProcedureValue k j) rest o = ap (handed_over owner rest) (sym (done_with o))
  with_more (ThunkValue k j) rest o = ap (handed_over owner rest) (sym (done_with o))
  with_more (ArrayValue a) rest o = array_next a rest o ∙ ap (handed_over owner rest) (sym (array_next a [] o ∙ done_with (owned_by owner (slice_get o.arrays a) o a)))

  by_if : (b : Bool) (v : Value) (rest : List ℕ) (o : World) → handed_over owner (if b then with_array_of v rest else rest) o ≡ handed_over owner rest (handed_over owner (if b then with_array_of v [] else []) o)
  by_if true v rest o = with_more v rest o
  by_if false v rest o = ap (handed_over owner rest) (sym (done_with o))

  pub one_more : (f : CodeFormal) (v : Value) (fs : List CodeFormal) (vs : List Value) (o : World) →
      handed_over owner (arrays_by_value (f ∷ fs) (v ∷ vs)) o ≡ handed_over owner (arrays_by_value fs vs) (handed_over owner (arrays_by_value (f ∷ []) (v ∷ [])) o)
  one_more f v fs vs o = by_if (is_array_by_value f) v (arrays_by_value fs vs) o

  no_more : (fs : List CodeFormal) (vs : List Value) → (fs ≡ []) ⊎ (vs ≡ []) → (o : World) → handed_over owner (arrays_by_value fs vs) o ≡ o
  no_more fs vs h o = elim h [
    | inl e ↦ ap (λ l. handed_over owner (arrays_by_value l vs) o) e ∙ done_with o
    | inr e ↦ ap (λ l. handed_over owner (arrays_by_value fs l) o) e ∙ no_values fs
  ]
    where
      no_values : (fs : List CodeFormal) → handed_over owner (arrays_by_value fs []) o ≡ o
      no_values [] = done_with o
      no_values (f ∷ fs) = done_with o

-- ---- all of them

-- as far as some
pub record Handing (old now : ArraysOf) (formals : List CodeFormal) (stack : List Slot) (at count owner place : ℕ) (o : World) : Type 0 where
  pub world : World
  pub holds : HoldsArrays now world.arrays
  pub leading : KeepLeading old o.arrays now world.arrays
  pub rest : handed_over owner (arrays_by_value (drop place formals) (values_from stack (at + place) (count - place))) world ≡ handed_over owner (arrays_by_value formals (values_from stack at count)) o

abbrev pub Handed : (old now : ArraysOf) (formals : List CodeFormal) (stack : List Slot) (at count owner place : ℕ) → Type 0
Handed old now formals stack at count owner place =
    ((o : World) → HoldsArrays old o.arrays → AllLeadArrays old.regions o.arrays stack → Handing old now formals stack at count owner place o)
    × ((frames : List Frame) (m : Frames) → ElementsLead frames m old.regions → ElementsLead frames m now.regions)

drop_first : (fs : List CodeFormal) → drop 0 fs ≡ fs
drop_first [] = refl
drop_first (f ∷ fs) = refl

drop_at : (fs : List CodeFormal) (k : ℕ) (d : CodeFormal) → k < length fs → drop k fs ≡ get_or fs k d ∷ drop (k + 1) fs
drop_at [] k d h = absurd (omega (arith, h))
drop_at (f ∷ fs) zero d h = ap (λ l. f ∷ l) (sym (drop_first fs))
drop_at (f ∷ fs) (suc k) d h =
    let e : suc (k + 1) ≡ suc k + 1 = omega arith in
    drop_at fs k d (omega (arith, h)) ∙ ap (λ n. get_or fs k d ∷ drop n (f ∷ fs)) e

drop_all : (fs : List CodeFormal) (k : ℕ) → length fs ≤ k → drop k fs ≡ []
drop_all [] zero h = refl
drop_all [] (suc k) h = refl
drop_all (f ∷ fs) zero h = absurd (omega (arith, h))
drop_all (f ∷ fs) (suc k) h = drop_all fs k (omega (arith, h))

pub values_at : (stack : List Slot) (at count k : ℕ) → k < count → values_from stack (at + k) (count - k) ≡ value_of (slot_at stack (at + k)) ∷ values_from stack (at + (k + 1)) (count - (k + 1))
values_at stack at count k h =
    let e : count - k ≡ suc (count - (k + 1)) = omega (arith, h) in
    let e2 : suc (at + k) ≡ at + (k + 1) = omega arith in
    ap (λ n. values_from stack (at + k) n) e ∙ ap (λ n. value_of (slot_at stack (at + k)) ∷ values_from stack n (count - (k + 1))) e2

pub handed_first : (a : ArraysOf) (formals : List CodeFormal) (stack : List Slot) (at count owner : ℕ) → Handed a a formals stack at count owner 0
handed_first a formals stack at count owner = (
  λ o h lead.
      let e : at + 0 ≡ at = omega arith in
      let e2 : count - 0 ≡ count = omega arith in
      record {
        world = o;
        holds = h;
        leading = λ r l. l;
        rest =
            ap (λ l. handed_over owner (arrays_by_value l (values_from stack (at + 0) (count - 0))) o) (drop_first formals)
            ∙ ap (λ n. handed_over owner (arrays_by_value formals (values_from stack n (count - 0))) o) e
            ∙ ap (λ n. handed_over owner (arrays_by_value formals (values_from stack at n)) o) e2;
      },
  λ frames m all. all,
)

pub handed_next : (old now new : ArraysOf) (formals : List CodeFormal) (stack : List Slot) (at count owner place : ℕ) (f : CodeFormal) → Handed old now formals stack at count owner place → place < length formals → place < count →
    ((d : CodeFormal) → get_or formals place d ≡ f) →
    ((o : World) → HoldsArrays now o.arrays → SlotLeadsArray now.regions o.arrays (slot_at stack (at + place)) → HoldsArrays new (handed_over owner (arrays_by_value (f ∷ []) (value_of (slot_at stack (at + place)) ∷ [])) o).arrays) →
    ((o : World) → HoldsArrays now o.arrays → SlotLeadsArray now.regions o.arrays (slot_at stack (at + place)) → KeepLeading now o.arrays new (handed_over owner (arrays_by_value (f ∷ []) (value_of (slot_at stack (at + place)) ∷ [])) o).arrays) →
    ((frames : List Frame) (m : Frames) → ElementsLead frames m now.regions → ElementsLead frames m new.regions) → Handed old new formals stack at count owner (place + 1)
handed_next old now new formals stack at count owner place f h there there2 is holds leads elements = (
  λ o ho lead.
      let g = h.0 o ho lead in
      let slot = slot_at stack (at + place) in
      let v = value_of slot in
      let led : SlotLeadsArray now.regions g.world.arrays slot = λ names. g.leading _ (lead (at + place) names) in
      record {
        world = handed_over owner (arrays_by_value (f ∷ []) (v ∷ [])) g.world;
        holds = holds g.world g.holds led;
        leading = λ r l. leads g.world g.holds led r (g.leading r l);
        rest =
            sym (ap (λ l. handed_over owner (arrays_by_value l (values_from stack (at + place) (count - place))) g.world) (drop_at formals place f there ∙ ap (λ x. x ∷ drop (place + 1) formals) (is f))
            ∙ ap (λ l. handed_over owner (arrays_by_value (f ∷ drop (place + 1) formals) l) g.world) (values_at stack at count place there2)
            ∙ one_more owner f v (drop (place + 1) formals) (values_from stack (at + (place + 1)) (count - (place + 1))) g.world)
            ∙ g.rest;
      },
  λ frames m all. elements frames m (h.1 frames m all),
)

module _ (old now : ArraysOf) (formals : List CodeFormal) (stack : List Slot) (at count owner place : ℕ) (h : Handed old now formals stack at count owner place) (all : (length formals ≤ place) ⊎ (count ≤ place)) (o : World)
    (ho : HoldsArrays old o.arrays) (lead : AllLeadArrays old.regions o.arrays stack) where
  abbrev last : Handing old now formals stack at count owner place o
  last = h.0 o ho lead

  none_left : count ≤ place → values_from stack (at + place) (count - place) ≡ []
  none_left c = let e : count - place ≡ 0 = omega (arith, c) in ap (λ n. values_from stack (at + place) n) e

  same_world : last.world ≡ handed_over owner (arrays_by_value formals (values_from stack at count)) o
  same_world =
      sym (no_more owner (drop place formals) (values_from stack (at + place) (count - place)) (elim all [ inl a ↦ inl (drop_all formals place a) | inr c ↦ inr (none_left c) ]) last.world) ∙ last.rest

  pub handed_holds : HoldsArrays now (handed_over owner (arrays_by_value formals (values_from stack at count)) o).arrays
  handed_holds = subst (λ w. HoldsArrays now w.arrays) same_world last.holds

  pub handed_leads : KeepLeading old o.arrays now (handed_over owner (arrays_by_value formals (values_from stack at count)) o).arrays
  handed_leads = subst (λ w. KeepLeading old o.arrays now w.arrays) same_world last.leading

-- one of two numbers is not above a third one
pub one_of : (count long place : ℕ) → min count long ≤ place → (long ≤ place) ⊎ (count ≤ place)
one_of count long place h = elim (below long place) [ inl a ↦ inl a | inr b ↦ inr (omega (arith, h, b)) ]
  where
    below : (m n : ℕ) → (m ≤ n) ⊎ (n < m)
    below zero n = inl (omega arith)
    below (suc m) zero = inr (omega arith)
    below (suc m) (suc n) = elim (below m n) [ inl a ↦ inl (omega (arith, a)) | inr b ↦ inr (omega (arith, b)) ]
