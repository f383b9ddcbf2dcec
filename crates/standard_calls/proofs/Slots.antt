-- The values of a stack, and writes into it.
use Rattle.std.proofs.Common.{◌≡◌, ℕ, zero, suc, ◌-◌, ◌+◌, ◌<◌, ◌≤◌, ◌⊎◌, inl, inr, List, [], ◌∷◌, length, reverse, map, take, set, sym, subst, refl, ap, ◌∙◌, arith, get_or-set_same, get_or-set_other}
use Rattle.std.proofs.lemmas.List.{reverse-append, length-map, take_more_set, length-reverse, length-take-le}
use Rattle.std.proofs.Math.Seq.{take-suc}
use Rattle.std.specs.Prelude.{Bool, true, false}
use Rattle.sim_code.specs.Machine.{Frames}
use Rattle.sim_code.specs.Outcome.{ArrayOf}
use Rattle.frame_arena.specs.declared.slot.Slot.{Slot}
use Rattle.frame_arena.specs.declared.frames.Frame.{Frame}
use Rattle.frame_arena.specs.Arrays.{AllLeadArrays, RegionOf, SlotLeadsArray, names_array}
use Rattle.frame_arena.specs.Frames.{AllLead, SlotLeads, names_frame}
use Rattle.frame_arena.specs.Slots.{value_of, empty_slot}
use Rattle.frame_arena.specs.Stacks.{values_of, slot_at}

one_more : (at : ℕ) (stack : List Slot) → at < length stack → values_of (suc at) stack ≡ value_of (slot_at stack at) ∷ values_of at stack
one_more at stack h =
    ap (λ l. map value_of (reverse l)) (take-suc stack at empty_slot h) ∙ ap (map value_of) (reverse-append (take at stack) (slot_at stack at ∷ []))

-- a value that is written behind the others
pub written : (at : ℕ) (stack : List Slot) (s : Slot) → at < length stack → values_of (at + 1) (set stack at s) ≡ value_of s ∷ values_of at stack
written at stack s h =
    ap (λ l. map value_of (reverse l)) (take_more_set stack at s h) ∙ ap (map value_of) (reverse-append (take at stack) (s ∷ []))

pub none_held : (stack : List Slot) → values_of 0 stack ≡ []
none_held [] = refl
none_held (x ∷ xs) = refl

pub top_of : (depth : ℕ) (stack : List Slot) → 0 < depth → depth ≤ length stack → values_of depth stack ≡ value_of (slot_at stack (depth - 1)) ∷ values_of (depth - 1) stack
top_of depth stack h h2 =
    let e : depth ≡ suc (depth - 1) = omega (arith, h) in
    ap (λ n. values_of n stack) e ∙ one_more (depth - 1) stack (omega (arith, h, h2))

pub two_at : (depth : ℕ) (stack : List Slot) → 2 ≤ depth → depth ≤ length stack → values_of depth stack ≡ value_of (slot_at stack (depth - 2 + 1)) ∷ value_of (slot_at stack (depth - 2)) ∷ values_of (depth - 2) stack
two_at depth stack h h2 =
    let e : depth - 1 ≡ depth - 2 + 1 = omega (arith, h) in
    let e2 : depth - 1 - 1 ≡ depth - 2 = omega (arith, h) in
    top_of depth stack (omega (arith, h)) h2
    ∙ ap (λ l. value_of (slot_at stack (depth - 1)) ∷ l) (top_of (depth - 1) stack (omega (arith, h)) (omega (arith, h2)))
    ∙ ap (λ n. value_of (slot_at stack n) ∷ value_of (slot_at stack (depth - 1 - 1)) ∷ values_of (depth - 1 - 1) stack) e
    ∙ ap (λ n. value_of (slot_at stack (depth - 2 + 1)) ∷ value_of (slot_at stack n) ∷ values_of n stack) e2

pub three_at : (depth : ℕ) (stack : List Slot) → 3 ≤ depth → depth ≤ length stack →
    values_of depth stack ≡ value_of (slot_at stack (depth - 3 + 2)) ∷ value_of (slot_at stack (depth - 3 + 1)) ∷ value_of (slot_at stack (depth - 3)) ∷ values_of (depth - 3) stack
three_at depth stack h h2 =
    let e : depth - 1 ≡ depth - 3 + 2 = omega (arith, h) in
    let e2 : depth - 1 - 2 ≡ depth - 3 = omega (arith, h) in
    top_of depth stack (omega (arith, h)) h2
    ∙ ap (λ l. value_of (slot_at stack (depth - 1)) ∷ l) (two_at (depth - 1) stack (omega (arith, h)) (omega (arith, h2)))
    ∙ ap (λ n. value_of (slot_at stack n) ∷ value_of (slot_at stack (depth - 1 - 2 + 1)) ∷ value_of (slot_at stack (depth - 1 - 2)) ∷ values_of (depth - 1 - 2) stack) e
    ∙ ap (λ n. value_of (slot_at stack (depth - 3 + 2)) ∷ value_of (slot_at stack (n + 1)) ∷ value_of (slot_at stack n) ∷ values_of n stack) e2

pub counted : (depth : ℕ) (stack : List Slot) → depth ≤ length stack → length (values_of depth stack) ≡ depth
counted depth stack h = length-map (reverse (take depth stack)) value_of ∙ length-reverse (take depth stack) ∙ length-take-le depth stack h

-- ---- a slot that stands apart

pub same_below : (at : ℕ) (stack : List Slot) (s : Slot) → values_of at (set stack at s) ≡ values_of at stack
same_below at stack s = ap (λ l. map value_of (reverse l)) (take_set at stack s)
  where
    take_set : (at : ℕ) (stack : List Slot) (s : Slot) → take at (set stack at s) ≡ take at stack
    take_set zero [] s = refl
    take_set zero (x ∷ xs) s = refl
    take_set (suc at) [] s = refl
    take_set (suc at) (x ∷ xs) s = ap (λ l. x ∷ l) (take_set at xs s)

pub here : (at : ℕ) (stack : List Slot) (s : Slot) → at < length stack → slot_at (set stack at s) at ≡ s
here at stack s h = get_or-set_same stack at s empty_slot h

pub elsewhere : (at q : ℕ) (stack : List Slot) (s : Slot) → (q ≡ at → ⊥) → slot_at (set stack at s) q ≡ slot_at stack q
elsewhere at q stack s h = get_or-set_other stack at q s empty_slot h

-- ---- references

abbrev truth_type : Bool → Type 0
truth_type true = Unit {0}
truth_type false = ⊥

pub off : false ≡ true → ⊥
off e = subst truth_type (sym e) tt

pub same_or_not : (a b : ℕ) → (a ≡ b) ⊎ (a ≡ b → ⊥)
same_or_not zero zero = inl refl
same_or_not zero (suc b) = inr (λ e. omega (arith, e))
same_or_not (suc a) zero = inr (λ e. omega (arith, e))
same_or_not (suc a) (suc b) = elim (same_or_not a b) [ inl e ↦ inl (ap suc e) | inr n ↦ inr (λ e. n (omega (arith, e))) ]

all_set : (P : Slot → Type 0) (slots : List Slot) (at : ℕ) (s : Slot) → at < length slots → ((q : ℕ) → P (slot_at slots q)) → P s → (q : ℕ) → P (slot_at (set slots at s) q)
all_set P slots at s h all here q =
    elim (same_or_not q at) [
      | inl e ↦ subst P (sym (ap (slot_at (set slots at s)) e ∙ get_or-set_same slots at s empty_slot h)) here
      | inr ne ↦ subst P (sym (get_or-set_other slots at q s empty_slot ne)) (all q)
    ]

pub lead_set : (frames : List Frame) (m : Frames) (slots : List Slot) (at : ℕ) (s : Slot) → at < length slots → names_frame s.kind ≡ false → AllLead frames m slots → AllLead frames m (set slots at s)
lead_set frames m slots at s h none all = all_set (λ z. SlotLeads frames m z) slots at s h all (λ names. absurd (off (sym none ∙ names)))

pub lead_arrays_set : (regions : List RegionOf) (arrays : List ArrayOf) (slots : List Slot) (at : ℕ) (s : Slot) → at < length slots → names_array s.kind ≡ false → AllLeadArrays regions arrays slots →
    AllLeadArrays regions arrays (set slots at s)
lead_arrays_set regions arrays slots at s h none all = all_set (λ z. SlotLeadsArray regions arrays z) slots at s h all (λ names. absurd (off (sym none ∙ names)))
