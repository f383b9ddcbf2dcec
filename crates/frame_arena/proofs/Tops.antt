-- A stack whose last value is on top.
use Rattle.std.proofs.Common.{◌≡◌, ℕ, zero, suc, ◌-◌, ◌+◌, ◌<◌, ◌≤◌, List, [], ◌∷◌, length, reverse, map, take, set, sym, subst, refl, ap, ◌∙◌, arith}
use Rattle.std.proofs.lemmas.List.{reverse-append, length-map, take_more_set, length-reverse, length-take-le}
use Rattle.std.proofs.Math.Seq.{take-suc}
use Rattle.std.specs.Prelude.{ℤ, pos, negsuc, Bool, true, false, nat_lt, if◌then◌else◌}
use Rattle.sim_code.specs.Outcome.{World, Run}
use Rattle.sim_code.specs.Events.{no_rule, popping, pop_plain, pop_truth, pop_integers, having, when}
use Rattle.sim_code.specs.Machine.{Machine, Value, plain, pushing}
use Rattle.frame_arena.specs.declared.slot.Slot.{Slot}
use Rattle.frame_arena.specs.declared.slot.SlotKind.{SlotKind}
use Rattle.frame_arena.specs.declared.slot.SlotKind.TheVariants as k
use Rattle.frame_arena.specs.Slots.{value_of, value_by, empty_slot, is_on}
use Rattle.frame_arena.specs.Stacks.{values_of, slot_at, integers_from}

-- one value more
pub one_more : (at : ℕ) (stack : List Slot) → at < length stack → values_of (suc at) stack ≡ value_of (slot_at stack at) ∷ values_of at stack
one_more at stack h =
    ap (λ l. map value_of (reverse l)) (take-suc stack at empty_slot h) ∙ ap (map value_of) (reverse-append (take at stack) (slot_at stack at ∷ []))

-- a value that is written behind the others
pub written : (at : ℕ) (stack : List Slot) (s : Slot) → at < length stack → values_of (at + 1) (set stack at s) ≡ value_of s ∷ values_of at stack
written at stack s h =
    ap (λ l. map value_of (reverse l)) (take_more_set stack at s h) ∙ ap (map value_of) (reverse-append (take at stack) (s ∷ []))

pub none_held : (stack : List Slot) → values_of 0 stack ≡ []
none_held [] = refl
none_held (x ∷ xs) = refl

-- the value on top, and the others
pub top_of : (depth : ℕ) (stack : List Slot) → 0 < depth → depth ≤ length stack → values_of depth stack ≡ value_of (slot_at stack (depth - 1)) ∷ values_of (depth - 1) stack
top_of depth stack h h2 =
    let e : depth ≡ suc (depth - 1) = omega (arith, h) in
    ap (λ n. values_of n stack) e ∙ one_more (depth - 1) stack (omega (arith, h, h2))

lt_true : (a b : ℕ) → a < b → nat_lt a b ≡ true
lt_true a b h = grind (arith, h)

lt_false : (a b : ℕ) → b ≤ a → nat_lt a b ≡ false
lt_false a b h = grind (arith, h)

-- a value more fits exactly where there is room
held : (depth : ℕ) (stack : List Slot) → depth ≤ length stack → length (values_of depth stack) ≡ depth
held depth stack h = length-map (reverse (take depth stack)) value_of ∙ length-reverse (take depth stack) ∙ length-take-le depth stack h

pub push_on : (depth : ℕ) (stack : List Slot) (s : Slot) (o : World) (go : List Value → Run Machine) → depth ≤ length stack → depth < length stack →
    pushing (length stack) (values_of depth stack) (value_of s) o go ≡ go (values_of (depth + 1) (set stack depth s))
unfolding pushing when
push_on depth stack s o go h h2 =
    ap (λ b. if b then go (value_of s ∷ values_of depth stack) else no_rule o) (lt_true (length (values_of depth stack)) (length stack) (subst (λ n. n < length stack) (sym (held depth stack h)) h2))
    ∙ ap go (sym (written depth stack s h2))

pub push_off : (depth : ℕ) (stack : List Slot) (v : Value) (o : World) (go : List Value → Run Machine) → depth ≤ length stack → length stack ≤ depth →
    pushing (length stack) (values_of depth stack) v o go ≡ no_rule o
unfolding pushing when
push_off depth stack v o go h h2 =
    ap (λ b. if b then go (v ∷ values_of depth stack) else no_rule o) (lt_false (length (values_of depth stack)) (length stack) (subst (λ n. length stack ≤ n) (sym (held depth stack h)) h2))

-- a truth value
pub no_truth : (j : SlotKind) (s : Slot) (rest : List Value) (o : World) (go : Bool → List Value → Run Machine) → (j ≡ k.Truth → ⊥) → pop_truth plain (value_by j s ∷ rest) o go ≡ no_rule o
unfolding pop_truth pop_plain popping having
no_truth k.Truth s rest o go h = absurd (h refl)
no_truth k.Empty s rest o go h = refl
no_truth k.Integer s rest o go h = refl
no_truth k.Character s rest o go h = refl
no_truth k.Text s rest o go h = refl
no_truth k.Nothing s rest o go h = refl
no_truth k.Object s rest o go h = refl
no_truth k.Main s rest o go h = refl
no_truth k.Link s rest o go h = refl
no_truth k.Cell s rest o go h = refl
no_truth k.Element s rest o go h = refl
no_truth k.Image s rest o go h = refl
no_truth k.Array s rest o go h = refl
no_truth k.Procedure s rest o go h = refl
no_truth k.Thunk s rest o go h = refl

pub a_truth : (j : SlotKind) (s : Slot) (rest : List Value) (o : World) (go : Bool → List Value → Run Machine) → j ≡ k.Truth → pop_truth plain (value_by j s ∷ rest) o go ≡ go (is_on s.«data») rest
unfolding pop_truth pop_plain popping having
a_truth j s rest o go e = rw e refl

pub truth_on : (z : ℤ) → (z ≡ pos 0 → ⊥) → is_on z ≡ true
truth_on (pos zero) h = absurd (h refl)
truth_on (pos (suc n)) h = refl
truth_on (negsuc n) h = refl

pub empty_truth : (o : World) (go : Bool → List Value → Run Machine) → pop_truth plain [] o go ≡ no_rule o
unfolding pop_truth pop_plain popping
empty_truth o go = refl

-- integers
pub no_integer : (j : SlotKind) (s : Slot) (rest : List Value) (n : ℕ) (got : List ℤ) (o : World) (go : List ℤ → List Value → Run Machine) → (j ≡ k.Integer → ⊥) → pop_integers plain (suc n) got (value_by j s ∷ rest) o go ≡ no_rule o
unfolding pop_integers pop_plain popping having
no_integer k.Integer s rest n got o go h = absurd (h refl)
no_integer k.Empty s rest n got o go h = refl
no_integer k.Truth s rest n got o go h = refl
no_integer k.Character s rest n got o go h = refl
no_integer k.Text s rest n got o go h = refl
no_integer k.Nothing s rest n got o go h = refl
no_integer k.Object s rest n got o go h = refl
no_integer k.Main s rest n got o go h = refl
no_integer k.Link s rest n got o go h = refl
no_integer k.Cell s rest n got o go h = refl
no_integer k.Element s rest n got o go h = refl
no_integer k.Image s rest n got o go h = refl
no_integer k.Array s rest n got o go h = refl
no_integer k.Procedure s rest n got o go h = refl
no_integer k.Thunk s rest n got o go h = refl

pub an_integer : (j : SlotKind) (s : Slot) (rest : List Value) (n : ℕ) (got : List ℤ) (o : World) (go : List ℤ → List Value → Run Machine) → j ≡ k.Integer → pop_integers plain (suc n) got (value_by j s ∷ rest) o go ≡ pop_integers plain n (s.«data» ∷ got) rest o go
unfolding pop_integers pop_plain popping having
an_integer j s rest n got o go e = rw e refl

pub empty_integers : (n : ℕ) (got : List ℤ) (o : World) (go : List ℤ → List Value → Run Machine) → pop_integers plain (suc n) got [] o go ≡ no_rule o
unfolding pop_integers pop_plain popping
empty_integers n got o go = refl

pub no_more : (got : List ℤ) (rest : List Value) (o : World) (go : List ℤ → List Value → Run Machine) → pop_integers plain 0 got rest o go ≡ go got rest
unfolding pop_integers
no_more got rest o go = refl

pub pop_none : (depth : ℕ) (stack : List Slot) (o : World) (go : Value → List Value → Run Machine) → depth ≡ 0 → popping (values_of depth stack) o go ≡ no_rule o
unfolding popping
pop_none depth stack o go e = ap (λ l. popping l o go) (ap (λ n. values_of n stack) e ∙ none_held stack)

pub pop_some : (depth : ℕ) (stack : List Slot) (o : World) (go : Value → List Value → Run Machine) → 0 < depth → depth ≤ length stack →
    popping (values_of depth stack) o go ≡ go (value_of (slot_at stack (depth - 1))) (values_of (depth - 1) stack)
unfolding popping
pop_some depth stack o go h h2 = ap (λ l. popping l o go) (top_of depth stack h h2)

pub truth_none : (depth : ℕ) (stack : List Slot) (o : World) (go : Bool → List Value → Run Machine) → depth ≡ 0 → pop_truth plain (values_of depth stack) o go ≡ no_rule o
truth_none depth stack o go e = ap (λ l. pop_truth plain l o go) (ap (λ n. values_of n stack) e ∙ none_held stack) ∙ empty_truth o go

-- one integer of those that are wanted
pub integer_more : (stack : List Slot) (count at n : ℕ) (o : World) (go : List ℤ → List Value → Run Machine) → n < count → 0 < at → at ≤ length stack → (slot_at stack (at - 1)).kind ≡ k.Integer →
    pop_integers plain (count - n) (integers_from stack at n) (values_of at stack) o go
    ≡ pop_integers plain (count - (n + 1)) (integers_from stack (at - 1) (n + 1)) (values_of (at - 1) stack) o go
integer_more stack count at n o go h h1 h2 e =
    let e1 : count - n ≡ suc (count - (n + 1)) = omega (arith, h) in
    let e2 : at ≡ suc (at - 1) = omega (arith, h1) in
    let e3 : suc n ≡ n + 1 = omega arith in
    let s : Slot = slot_at stack (at - 1) in
    ap (λ m. pop_integers plain m (integers_from stack at n) (values_of at stack) o go) e1
    ∙ ap (λ l. pop_integers plain (suc (count - (n + 1))) (integers_from stack at n) l o go) (top_of at stack h1 h2)
    ∙ an_integer s.kind s (values_of (at - 1) stack) (count - (n + 1)) (integers_from stack at n) o go e
    ∙ ap (λ m. pop_integers plain (count - (n + 1)) (s.«data» ∷ integers_from stack m n) (values_of (at - 1) stack) o go) e2
    ∙ ap (λ m. pop_integers plain (count - (n + 1)) (integers_from stack (at - 1) m) (values_of (at - 1) stack) o go) e3

pub integer_missing : (stack : List Slot) (count at n : ℕ) (got : List ℤ) (o : World) (go : List ℤ → List Value → Run Machine) → n < count → at ≡ 0 →
    pop_integers plain (count - n) got (values_of at stack) o go ≡ no_rule o
integer_missing stack count at n got o go h e =
    let e1 : count - n ≡ suc (count - (n + 1)) = omega (arith, h) in
    ap (λ m. pop_integers plain m got (values_of at stack) o go) e1
    ∙ ap (λ l. pop_integers plain (suc (count - (n + 1))) got l o go) (ap (λ m. values_of m stack) e ∙ none_held stack)
    ∙ empty_integers (count - (n + 1)) got o go

pub integer_refused : (stack : List Slot) (count at n : ℕ) (got : List ℤ) (o : World) (go : List ℤ → List Value → Run Machine) → n < count → 0 < at → at ≤ length stack → ((slot_at stack (at - 1)).kind ≡ k.Integer → ⊥) →
    pop_integers plain (count - n) got (values_of at stack) o go ≡ no_rule o
integer_refused stack count at n got o go h h1 h2 e =
    let e1 : count - n ≡ suc (count - (n + 1)) = omega (arith, h) in
    let s : Slot = slot_at stack (at - 1) in
    ap (λ m. pop_integers plain m got (values_of at stack) o go) e1
    ∙ ap (λ l. pop_integers plain (suc (count - (n + 1))) got l o go) (top_of at stack h1 h2)
    ∙ no_integer s.kind s (values_of (at - 1) stack) (count - (n + 1)) got o go e

pub integers_done : (stack : List Slot) (count at n : ℕ) (o : World) (go : List ℤ → List Value → Run Machine) → n ≡ count →
    pop_integers plain (count - n) (integers_from stack at n) (values_of at stack) o go ≡ go (integers_from stack at count) (values_of at stack)
integers_done stack count at n o go e =
    let e1 : count - n ≡ 0 = omega (arith, e) in
    ap (λ m. pop_integers plain m (integers_from stack at n) (values_of at stack) o go) e1
    ∙ no_more (integers_from stack at n) (values_of at stack) o go
    ∙ ap (λ m. go (integers_from stack at m) (values_of at stack)) e
