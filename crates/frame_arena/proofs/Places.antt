-- Values of a stack that change their places, and as many values from its top.
use Rattle.std.proofs.Common.{◌≡◌, ℕ, zero, suc, ◌-◌, ◌+◌, ◌<◌, ◌≤◌, List, [], ◌∷◌, length, set, sym, refl, ap, ◌∙◌, arith, length-set, map, reverse, take}
use Rattle.sim_code.specs.Outcome.{World, Run}
use Rattle.sim_code.specs.Events.{no_rule, pop_many, popping}
use Rattle.sim_code.specs.Machine.{Machine, Value}
use Rattle.frame_arena.specs.declared.slot.Slot.{Slot}
use Rattle.frame_arena.specs.Slots.{value_of}
use Rattle.frame_arena.specs.Stacks.{slot_at, values_from, values_of}
use Rattle.frame_arena.proofs.Entries.{written_elsewhere, written_here}
use Rattle.frame_arena.proofs.Operands.{two_at}
use Rattle.frame_arena.proofs.Tops.{none_held, one_more}

-- a write at a place leaves the values before it
take_before : (at : ℕ) (stack : List Slot) (s : Slot) (n : ℕ) → n ≤ at → take n (set stack at s) ≡ take n stack
take_before at [] s n h = refl
take_before zero (x ∷ xs) s zero h = refl
take_before zero (x ∷ xs) s (suc n) h = absurd (omega (arith, h))
take_before (suc at) (x ∷ xs) s zero h = refl
take_before (suc at) (x ∷ xs) s (suc n) h = ap (λ l. x ∷ l) (take_before at xs s n (omega (arith, h)))

pub values_before : (at : ℕ) (stack : List Slot) (s : Slot) (n : ℕ) → n ≤ at → values_of n (set stack at s) ≡ values_of n stack
values_before at stack s n h = ap (λ l. map value_of (reverse l)) (take_before at stack s n h)

-- ---- the two last values change places

module _ (depth : ℕ) (stack : List Slot) (h : 2 ≤ depth) (h2 : depth ≤ length stack) where
  abbrev first_changed : List Slot
  first_changed = set stack (depth - 2) (slot_at stack (depth - 1))

  abbrev swapped : List Slot
  swapped = set first_changed (depth - 1) (slot_at stack (depth - 2))

  first_long : length first_changed ≡ length stack
  first_long = length-set stack (depth - 2) (slot_at stack (depth - 1))

  swapped_long : length swapped ≡ length stack
  swapped_long = length-set first_changed (depth - 1) (slot_at stack (depth - 2)) ∙ first_long

  swapped_top : slot_at swapped (depth - 1) ≡ slot_at stack (depth - 2)
  swapped_top = written_here first_changed (depth - 1) (slot_at stack (depth - 2)) (omega (arith, first_long, h, h2))

  swapped_below : slot_at swapped (depth - 2) ≡ slot_at stack (depth - 1)
  swapped_below =
      written_elsewhere first_changed (depth - 1) (depth - 2) (slot_at stack (depth - 2)) (λ e. omega (arith, e, h))
      ∙ written_here stack (depth - 2) (slot_at stack (depth - 1)) (omega (arith, h, h2))

  swapped_rest : values_of (depth - 2) swapped ≡ values_of (depth - 2) stack
  swapped_rest =
      values_before (depth - 1) first_changed (slot_at stack (depth - 2)) (depth - 2) (omega arith)
      ∙ values_before (depth - 2) stack (slot_at stack (depth - 1)) (depth - 2) (omega arith)

  one_before : depth - 2 + 1 ≡ depth - 1
  one_before = omega (arith, h)

  old_values : values_of depth stack ≡ value_of (slot_at stack (depth - 1)) ∷ value_of (slot_at stack (depth - 2)) ∷ values_of (depth - 2) stack
  old_values = two_at depth stack h h2 ∙ ap (λ n. value_of (slot_at stack n) ∷ value_of (slot_at stack (depth - 2)) ∷ values_of (depth - 2) stack) one_before

  new_values : values_of depth swapped ≡ value_of (slot_at stack (depth - 2)) ∷ value_of (slot_at stack (depth - 1)) ∷ values_of (depth - 2) stack
  new_values =
      two_at depth swapped h (omega (arith, swapped_long, h2))
      ∙ ap (λ n. value_of (slot_at swapped n) ∷ value_of (slot_at swapped (depth - 2)) ∷ values_of (depth - 2) swapped) one_before
      ∙ ap (λ s. value_of s ∷ value_of (slot_at swapped (depth - 2)) ∷ values_of (depth - 2) swapped) swapped_top
      ∙ ap (λ s. value_of (slot_at stack (depth - 2)) ∷ value_of s ∷ values_of (depth - 2) swapped) swapped_below
      ∙ ap (λ l. value_of (slot_at stack (depth - 2)) ∷ value_of (slot_at stack (depth - 1)) ∷ l) swapped_rest

  pub swaps : (o : World) (go : List Value → Run Machine) →
      popping (values_of depth stack) o (λ y rest. popping rest o (λ x rest. go (x ∷ y ∷ rest))) ≡ go (values_of depth (set (set stack (depth - 2) (slot_at stack (depth - 1))) (depth - 1) (slot_at stack (depth - 2))))
  unfolding popping
  swaps o go = ap (λ l. popping l o (λ y rest. popping rest o (λ x rest. go (x ∷ y ∷ rest)))) old_values ∙ ap go (sym new_values)

swap_few_in : (o : World) (go : List Value → Run Machine) (v : Value) → popping (v ∷ []) o (λ y rest. popping rest o (λ x rest. go (x ∷ y ∷ rest))) ≡ no_rule o
unfolding popping
swap_few_in o go v = refl

swap_none : (o : World) (go : List Value → Run Machine) → popping [] o (λ y rest. popping rest o (λ x rest. go (x ∷ y ∷ rest))) ≡ no_rule o
unfolding popping
swap_none o go = refl

swap_one : (stack : List Slot) (o : World) (go : List Value → Run Machine) → popping (values_of 1 stack) o (λ y rest. popping rest o (λ x rest. go (x ∷ y ∷ rest))) ≡ no_rule o
swap_one [] o go = swap_none o go
swap_one (x ∷ xs) o go = swap_few_in o go (value_of x)

pub swap_few : (depth : ℕ) (stack : List Slot) (o : World) (go : List Value → Run Machine) → depth < 2 → popping (values_of depth stack) o (λ y rest. popping rest o (λ x rest. go (x ∷ y ∷ rest))) ≡ no_rule o
swap_few zero stack o go h = ap (λ l. popping l o (λ y rest. popping rest o (λ x rest. go (x ∷ y ∷ rest)))) (none_held stack) ∙ swap_none o go
swap_few (suc zero) stack o go h = swap_one stack o go
swap_few (suc (suc n)) stack o go h = absurd (omega (arith, h))

-- ---- as many values

pub many_from : (stack : List Slot) (n m a : ℕ) (o : World) (go : List Value → List Value → Run Machine) → n ≤ a → a ≤ length stack →
    pop_many n (values_from stack a m) (values_of a stack) o go ≡ go (values_from stack (a - n) (n + m)) (values_of (a - n) stack)
unfolding pop_many
many_from stack zero m a o go h h2 =
    let e : a ≡ a - 0 = omega arith in
    let e2 : m ≡ 0 + m = omega arith in
    ap (λ k. go (values_from stack k m) (values_of k stack)) e ∙ ap (λ k. go (values_from stack (a - 0) k) (values_of (a - 0) stack)) e2
many_from stack (suc n) m zero o go h h2 = absurd (omega (arith, h))
many_from stack (suc n) m (suc a) o go h h2 =
    let e : a - n ≡ suc a - suc n = omega arith in
    let e2 : n + suc m ≡ suc n + m = omega arith in
    ap (λ l. pop_many (suc n) (values_from stack (suc a) m) l o go) (one_more a stack (omega (arith, h2)))
    ∙ many_from stack n (suc m) a o go (omega (arith, h)) (omega (arith, h2))
    ∙ ap (λ k. go (values_from stack k (n + suc m)) (values_of k stack)) e
    ∙ ap (λ k. go (values_from stack (suc a - suc n) k) (values_of (suc a - suc n) stack)) e2

pub many_of : (stack : List Slot) (depth count : ℕ) (o : World) (go : List Value → List Value → Run Machine) → count ≤ depth → depth ≤ length stack →
    pop_many count [] (values_of depth stack) o go ≡ go (values_from stack (depth - count) count) (values_of (depth - count) stack)
many_of stack depth count o go h h2 =
    let e : count + 0 ≡ count = omega arith in
    many_from stack count 0 depth o go h h2 ∙ ap (λ k. go (values_from stack (depth - count) k) (values_of (depth - count) stack)) e

pub many_few : (stack : List Slot) (n a : ℕ) (got : List Value) (o : World) (go : List Value → List Value → Run Machine) → a < n → a ≤ length stack → pop_many n got (values_of a stack) o go ≡ no_rule o
unfolding pop_many
many_few stack zero a got o go h h2 = absurd (omega (arith, h))
many_few stack (suc n) zero got o go h h2 = ap (λ l. pop_many (suc n) got l o go) (none_held stack)
many_few stack (suc n) (suc a) got o go h h2 =
    ap (λ l. pop_many (suc n) got l o go) (one_more a stack (omega (arith, h2))) ∙ many_few stack n a _ o go (omega (arith, h)) (omega (arith, h2))
