-- Two integers on top of a stack.
use Rattle.std.proofs.Common.{◌≡◌, ℕ, zero, suc, ◌-◌, ◌+◌, ◌<◌, ◌≤◌, List, [], ◌∷◌, length, ap, ◌∙◌, refl, arith}
use Rattle.std.specs.Prelude.{Option, Some, None}
use Rattle.sim_values.specs.declared.operators.Calculation.{Calculation}
use Rattle.sim_values.specs.declared.operators.Dyadic.TheVariants.{Calculate}
use Rattle.sim_values.specs.Operators.{calculate, two_of}
use Rattle.sim_values.specs.Plain.{Plain, Integer}
use Rattle.sim_code.specs.Outcome.{World, Run}
use Rattle.sim_code.specs.Events.{answering, applying_two, having, no_rule, pop_plain, popping}
use Rattle.sim_code.specs.Machine.{Machine, Value, plain}
use Rattle.frame_arena.specs.declared.slot.Slot.{Slot}
use Rattle.frame_arena.specs.declared.slot.SlotKind.{SlotKind}
use Rattle.frame_arena.specs.declared.slot.SlotKind.TheVariants as k
use Rattle.frame_arena.specs.Slots.{value_of, value_by}
use Rattle.frame_arena.specs.Stacks.{values_of, slot_at}
use Rattle.frame_arena.proofs.Tops.{none_held, top_of}

module _ (op : Calculation) (line : ℕ) (o : World) (go : Plain → List Value → Run Machine) where
  pub none_on : applying_two plain (Calculate op) line [] o go ≡ no_rule o
  unfolding applying_two pop_plain popping
  none_on = refl

  dull_in : (y : Plain) (rest : List Value) (p : Option Plain) → ((x : Plain) → calculate op x y ≡ None) →
      having p o (λ x. answering line (two_of (Calculate op) o.store.frames x y) o (λ z. go z rest)) ≡ no_rule o
  unfolding having answering two_of
  dull_in y rest None h = refl
  dull_in y rest (Some x) h = ap (λ a. answering line a o (λ z. go z rest)) (h x)

  dull : (y : Plain) (rest : List Value) → ((x : Plain) → calculate op x y ≡ None) →
      pop_plain plain rest o (λ x rest. answering line (two_of (Calculate op) o.store.frames x y) o (λ z. go z rest)) ≡ no_rule o
  unfolding pop_plain popping
  dull y [] h = refl
  dull y (v ∷ rest) h = dull_in y rest (plain v) h

  pub first_bad : (j : SlotKind) (s : Slot) (rest : List Value) → (j ≡ k.Integer → ⊥) → applying_two plain (Calculate op) line (value_by j s ∷ rest) o go ≡ no_rule o
  unfolding applying_two pop_plain popping having calculate
  first_bad k.Integer s rest h = absurd (h refl)
  first_bad k.Empty s rest h = dull _ rest (λ x. refl)
  first_bad k.Truth s rest h = dull _ rest (λ x. refl)
  first_bad k.Character s rest h = dull _ rest (λ x. refl)
  first_bad k.Text s rest h = dull _ rest (λ x. refl)
  first_bad k.Nothing s rest h = dull _ rest (λ x. refl)
  first_bad k.Object s rest h = dull _ rest (λ x. refl)
  first_bad k.Main s rest h = dull _ rest (λ x. refl)
  first_bad k.Link s rest h = refl
  first_bad k.Cell s rest h = refl
  first_bad k.Element s rest h = refl
  first_bad k.Image s rest h = refl
  first_bad k.Array s rest h = refl
  first_bad k.Procedure s rest h = refl
  first_bad k.Thunk s rest h = refl

  bad_second : (j : SlotKind) (s s2 : Slot) (rest : List Value) → (j ≡ k.Integer → ⊥) → applying_two plain (Calculate op) line (value_by k.Integer s ∷ value_by j s2 ∷ rest) o go ≡ no_rule o
  unfolding applying_two pop_plain popping having answering two_of calculate
  bad_second k.Integer s s2 rest h = absurd (h refl)
  bad_second k.Empty s s2 rest h = refl
  bad_second k.Truth s s2 rest h = refl
  bad_second k.Character s s2 rest h = refl
  bad_second k.Text s s2 rest h = refl
  bad_second k.Nothing s s2 rest h = refl
  bad_second k.Object s s2 rest h = refl
  bad_second k.Main s s2 rest h = refl
  bad_second k.Link s s2 rest h = refl
  bad_second k.Cell s s2 rest h = refl
  bad_second k.Element s s2 rest h = refl
  bad_second k.Image s s2 rest h = refl
  bad_second k.Array s s2 rest h = refl
  bad_second k.Procedure s s2 rest h = refl
  bad_second k.Thunk s s2 rest h = refl

  alone : (j : SlotKind) (s : Slot) → applying_two plain (Calculate op) line (value_by j s ∷ []) o go ≡ no_rule o
  unfolding applying_two pop_plain popping having
  alone k.Integer s = refl
  alone k.Empty s = refl
  alone k.Truth s = refl
  alone k.Character s = refl
  alone k.Text s = refl
  alone k.Nothing s = refl
  alone k.Object s = refl
  alone k.Main s = refl
  alone k.Link s = refl
  alone k.Cell s = refl
  alone k.Element s = refl
  alone k.Image s = refl
  alone k.Array s = refl
  alone k.Procedure s = refl
  alone k.Thunk s = refl

  both_in : (j l : SlotKind) (s s2 : Slot) (rest : List Value) → j ≡ k.Integer → l ≡ k.Integer → applying_two plain (Calculate op) line (value_by j s ∷ value_by l s2 ∷ rest) o go
      ≡ answering line (two_of (Calculate op) o.store.frames (Integer s2.«data») (Integer s.«data»)) o (λ z. go z rest)
  unfolding applying_two pop_plain popping having
  both_in j l s s2 rest e e2 = rw e (rw e2 refl)

  one_held : (stack : List Slot) → applying_two plain (Calculate op) line (values_of 1 stack) o go ≡ no_rule o
  one_held [] = none_on
  one_held (x ∷ xs) = alone x.kind x

  pub few : (depth : ℕ) (stack : List Slot) → depth < 2 → applying_two plain (Calculate op) line (values_of depth stack) o go ≡ no_rule o
  few zero stack h = ap (λ l. applying_two plain (Calculate op) line l o go) (none_held stack) ∙ none_on
  few (suc zero) stack h = one_held stack
  few (suc (suc n)) stack h = absurd (omega (arith, h))

  two_of_stack : (depth : ℕ) (stack : List Slot) → 2 ≤ depth → depth ≤ length stack → values_of depth stack ≡ value_of (slot_at stack (depth - 2 + 1)) ∷ value_of (slot_at stack (depth - 2)) ∷ values_of (depth - 2) stack
  two_of_stack depth stack h h2 =
      let e : depth - 1 ≡ depth - 2 + 1 = omega (arith, h) in
      let e2 : depth - 1 - 1 ≡ depth - 2 = omega (arith, h) in
      top_of depth stack (omega (arith, h)) h2
      ∙ ap (λ l. value_of (slot_at stack (depth - 1)) ∷ l) (top_of (depth - 1) stack (omega (arith, h)) (omega (arith, h2)))
      ∙ ap (λ n. value_of (slot_at stack n) ∷ value_of (slot_at stack (depth - 1 - 1)) ∷ values_of (depth - 1 - 1) stack) e
      ∙ ap (λ n. value_of (slot_at stack (depth - 2 + 1)) ∷ value_of (slot_at stack n) ∷ values_of n stack) e2

  pub bad_top : (depth : ℕ) (stack : List Slot) → 2 ≤ depth → depth ≤ length stack → ((slot_at stack (depth - 2 + 1)).kind ≡ k.Integer → ⊥) → applying_two plain (Calculate op) line (values_of depth stack) o go ≡ no_rule o
  bad_top depth stack h h2 ne =
      ap (λ l. applying_two plain (Calculate op) line l o go) (two_of_stack depth stack h h2)
      ∙ first_bad (slot_at stack (depth - 2 + 1)).kind (slot_at stack (depth - 2 + 1)) _ ne

  pub bad_below : (depth : ℕ) (stack : List Slot) → 2 ≤ depth → depth ≤ length stack → (slot_at stack (depth - 2 + 1)).kind ≡ k.Integer → ((slot_at stack (depth - 2)).kind ≡ k.Integer → ⊥) → applying_two plain (Calculate op) line (values_of depth stack) o go ≡ no_rule o
  bad_below depth stack h h2 e ne =
      ap (λ l. applying_two plain (Calculate op) line l o go) (two_of_stack depth stack h h2)
      ∙ ap (λ j. applying_two plain (Calculate op) line (value_by j (slot_at stack (depth - 2 + 1)) ∷ value_of (slot_at stack (depth - 2)) ∷ values_of (depth - 2) stack) o go) e
      ∙ bad_second (slot_at stack (depth - 2)).kind (slot_at stack (depth - 2 + 1)) (slot_at stack (depth - 2)) _ ne

  pub both : (depth : ℕ) (stack : List Slot) → 2 ≤ depth → depth ≤ length stack → (slot_at stack (depth - 2 + 1)).kind ≡ k.Integer → (slot_at stack (depth - 2)).kind ≡ k.Integer →
      applying_two plain (Calculate op) line (values_of depth stack) o go
      ≡ answering line (two_of (Calculate op) o.store.frames (Integer (slot_at stack (depth - 2)).«data») (Integer (slot_at stack (depth - 2 + 1)).«data»)) o (λ z. go z (values_of (depth - 2) stack))
  both depth stack h h2 e e2 =
      ap (λ l. applying_two plain (Calculate op) line l o go) (two_of_stack depth stack h h2)
      ∙ both_in (slot_at stack (depth - 2 + 1)).kind (slot_at stack (depth - 2)).kind (slot_at stack (depth - 2 + 1)) (slot_at stack (depth - 2)) _ e e2
