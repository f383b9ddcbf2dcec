-- Rows of standard names whose operands are not read before: those of numbers and characters, and those of one text.
use Rattle.std.proofs.Common.{◌≡◌, inl, inr, ℕ, zero, suc, ◌+◌, ◌≤◌, ◌⊎◌, List, [], ◌∷◌, length, set, length-set, get_or-set_same, get_or-set_other, sym, subst, refl, ap, ◌∙◌, arith}
use Rattle.std.specs.Prelude.{ℤ, Option, Some, None}
use Rattle.sim_values.specs.declared.value.TextVal.{TextVal}
use Rattle.sim_values.specs.Plain.{Plain, Integer, Truth, Character, Text, Object, MainOf, Nothing}
use Rattle.sim_values.specs.Standard.{Function, applied, of_nothing, of_integer, of_integers, of_character, of_text, of_text_and_integer, of_text_and_integers, of_text_and_character, elsewhere, take_character, take_integer, take_nothing, take_text}
use Rattle.sim_values.specs.Store.{Effect, Store}
use Rattle.sim_code.specs.Events.{having, no_rule, only_text, pop_operands}
use Rattle.sim_code.specs.Machine.{Address, ArrayValue, Frames, Link, Machine, Of, ProcedureValue, ThunkValue, Value, operand, plain, plain_in, value_at}
use Rattle.sim_code.specs.Outcome.{Run, World}
use Rattle.frame_arena.specs.declared.slot.Slot.{Slot}
use Rattle.frame_arena.specs.Slots.{empty_slot, value_of}
use Rattle.frame_arena.specs.Stacks.{slot_at, values_of}
use Rattle.standard_calls.specs.Quiet.{OnNumbers}
use Rattle.object_machine.specs.Operands.{IsNoTextIn}
use Rattle.object_machine.proofs.ArrayRows.{top_at}
use Rattle.object_machine.proofs.ReadOperands.{having_alike, having_never, pop_last, pop_more, pop_nothing, same_values}

-- ---- texts among operands

abbrev IsTextOf : Plain → Type 0
IsTextOf p = (t : TextVal) × (p ≡ Text t)

-- a text is among these
abbrev pub HasText : List Plain → Type 0
HasText [] = ⊥
HasText (p ∷ ps) = IsTextOf p ⊎ HasText ps

abbrev text_alone : Plain → Type 0
text_alone (Text t) = Unit {0}
text_alone _ = ⊥

is_text : (p : Plain) → IsTextOf p → text_alone p
is_text p h = subst text_alone (sym h.1) tt

nothing_of_text : (ps : List Plain) (effect : Effect) → HasText ps → take_nothing ps effect ≡ None
unfolding take_nothing
nothing_of_text [] effect h = absurd h
nothing_of_text (p ∷ ps) effect h = refl

integer_of_text : (ps : List Plain) (go : ℤ → List Plain → Option Effect) → HasText ps → ((i : ℤ) (rest : List Plain) → HasText rest → go i rest ≡ None) → take_integer ps go ≡ None
unfolding take_integer
integer_of_text [] go h more = absurd h
integer_of_text (Integer i ∷ ps) go h more = elim h [ inl is ↦ absurd (is_text (Integer i) is) | inr rest ↦ more i ps rest ]
integer_of_text (Truth b ∷ ps) go h more = refl
integer_of_text (Character c ∷ ps) go h more = refl
integer_of_text (Text t ∷ ps) go h more = refl
integer_of_text (Object i ∷ ps) go h more = refl
integer_of_text (MainOf i ∷ ps) go h more = refl
integer_of_text (Nothing ∷ ps) go h more = refl

character_of_text : (ps : List Plain) (go : ℕ → List Plain → Option Effect) → HasText ps → ((c : ℕ) (rest : List Plain) → HasText rest → go c rest ≡ None) → take_character ps go ≡ None
unfolding take_character
character_of_text [] go h more = absurd h
character_of_text (Integer i ∷ ps) go h more = refl
character_of_text (Truth b ∷ ps) go h more = refl
character_of_text (Character c ∷ ps) go h more = elim h [ inl is ↦ absurd (is_text (Character c) is) | inr rest ↦ more c ps rest ]
character_of_text (Text t ∷ ps) go h more = refl
character_of_text (Object i ∷ ps) go h more = refl
character_of_text (MainOf i ∷ ps) go h more = refl
character_of_text (Nothing ∷ ps) go h more = refl

-- a function of numbers or characters has no effect on texts
pub numbers_alone : (f : Function) (ps : List Plain) (s : Store) → OnNumbers f → HasText ps → applied f ps s ≡ None
numbers_alone (of_nothing f) ps s on h = absurd on
numbers_alone (of_integer f) ps s on h = integer_of_text ps (λ i vs. take_nothing vs (f i s)) h (λ i rest k. nothing_of_text rest (f i s) k)
numbers_alone (of_integers f) ps s on h =
    integer_of_text ps (λ j vs. take_integer vs (λ i vs. take_nothing vs (f i j s))) h (λ j rest k. integer_of_text rest (λ i vs. take_nothing vs (f i j s)) k (λ i last k. nothing_of_text last (f i j s) k))
numbers_alone (of_character f) ps s on h = character_of_text ps (λ c vs. take_nothing vs (f c s)) h (λ c rest k. nothing_of_text rest (f c s) k)
numbers_alone (of_text f) ps s on h = absurd on
numbers_alone (of_text_and_integer f) ps s on h = absurd on
numbers_alone (of_text_and_integers f) ps s on h = absurd on
numbers_alone (of_text_and_character f) ps s on h = absurd on
numbers_alone elsewhere ps s on h = absurd on

pub no_text_taken : (p : Plain) (ps : List Plain) (go : TextVal → List Plain → Option Effect) → ((t : TextVal) → p ≡ Text t → ⊥) → take_text (p ∷ ps) go ≡ None
unfolding take_text
no_text_taken (Integer i) ps go h = refl
no_text_taken (Truth b) ps go h = refl
no_text_taken (Character c) ps go h = refl
no_text_taken (Text t) ps go h = absurd (h t refl)
no_text_taken (Object i) ps go h = refl
no_text_taken (MainOf i) ps go h = refl
no_text_taken Nothing ps go h = refl

pub integer_behind : (p : Plain) (ps : List Plain) (go : ℤ → List Plain → Option Effect) → ((i : ℤ) → go i ps ≡ None) → take_integer (p ∷ ps) go ≡ None
unfolding take_integer
integer_behind (Integer i) ps go h = h i
integer_behind (Truth b) ps go h = refl
integer_behind (Character c) ps go h = refl
integer_behind (Text t) ps go h = refl
integer_behind (Object i) ps go h = refl
integer_behind (MainOf i) ps go h = refl
integer_behind Nothing ps go h = refl

pub character_behind : (p : Plain) (ps : List Plain) (go : ℕ → List Plain → Option Effect) → ((c : ℕ) → go c ps ≡ None) → take_character (p ∷ ps) go ≡ None
unfolding take_character
character_behind (Integer i) ps go h = refl
character_behind (Truth b) ps go h = refl
character_behind (Character c) ps go h = h c
character_behind (Text t) ps go h = refl
character_behind (Object i) ps go h = refl
character_behind (MainOf i) ps go h = refl
character_behind Nothing ps go h = refl

pub no_integer_there : (t : TextVal) (ps : List Plain) (go : ℤ → List Plain → Option Effect) → take_integer (Text t ∷ ps) go ≡ None
unfolding take_integer
no_integer_there t ps go = refl

pub no_character_there : (t : TextVal) (ps : List Plain) (go : ℕ → List Plain → Option Effect) → take_character (Text t ∷ ps) go ≡ None
unfolding take_character
no_character_there t ps go = refl

-- ---- values that are popped

module _ (o : World) where
  of_only_text : (q : Option Plain) (go : Plain → Run Machine) → ((t : TextVal) → go (Text t) ≡ no_rule o) → having (only_text q) o go ≡ no_rule o
  unfolding having
  of_only_text None go h = refl
  of_only_text (Some (Integer i)) go h = refl
  of_only_text (Some (Truth b)) go h = refl
  of_only_text (Some (Character c)) go h = refl
  of_only_text (Some (Text t)) go h = h t
  of_only_text (Some (Object i)) go h = refl
  of_only_text (Some (MainOf i)) go h = refl
  of_only_text (Some Nothing) go h = refl

  none_had : (go : Plain → Run Machine) → having {A = Plain} None o go ≡ no_rule o
  unfolding having
  none_had go = refl

  some_had : (p : Plain) (go : Plain → Run Machine) → having (Some p) o go ≡ go p
  unfolding having
  some_had p go = refl

  -- where no text is wanted, an address is nothing, whatever is there
  operand_or_plain : (m : Frames) (v : Value) (go : Plain → Run Machine) → ((t : TextVal) → go (Text t) ≡ no_rule o) → having (operand o m v) o go ≡ having (plain v) o go
  operand_or_plain m (Of p) go h = refl
  operand_or_plain m (Link j) go h = refl
  operand_or_plain m (Address a) go h = of_only_text (plain_in (value_at o m a)) go h ∙ sym (none_had go)
  operand_or_plain m (ArrayValue a) go h = refl
  operand_or_plain m (ProcedureValue b k) go h = refl
  operand_or_plain m (ThunkValue t k) go h = refl

  no_text_had : (q : Option Plain) (go : Plain → Run Machine) → IsNoTextIn q → ((p : Plain) → ((t : TextVal) → p ≡ Text t → ⊥) → go p ≡ no_rule o) → having q o go ≡ no_rule o
  no_text_had None go h k = none_had go
  no_text_had (Some p) go h k = some_had p go ∙ k p (λ t e. h t (ap Some e))

  pop_never : (read : Value → Option Plain) (n : ℕ) (first : Option Value) (values : List Value) (go : List Plain → Option Value → List Value → Run Machine) → ((ps : List Plain) (f : Option Value) (rest : List Value) → go ps f rest ≡ no_rule o) →
      pop_operands read n first values o go ≡ no_rule o
  pop_never read zero first values go h = pop_last o read first values go ∙ h [] first values
  pop_never read (suc n) first [] go h = pop_nothing o read n first go
  pop_never read (suc n) first (v ∷ values) go h = pop_more o read n first v values go ∙ having_never o (read v) _ (λ p. pop_never read n (Some v) values (λ ps f rest. go (p ∷ ps) f rest) (λ ps f rest. h (p ∷ ps) f rest))

  -- as they stand, where no text has a meaning
  pub pop_as_they_stand : (m : Frames) (n : ℕ) (first : Option Value) (values : List Value) (go : List Plain → Option Value → List Value → Run Machine) → ((ps : List Plain) (f : Option Value) (rest : List Value) → HasText ps → go ps f rest ≡ no_rule o) →
      pop_operands (operand o m) n first values o go ≡ pop_operands plain n first values o go
  pop_as_they_stand m zero first values go h = pop_last o (operand o m) first values go ∙ sym (pop_last o plain first values go)
  pop_as_they_stand m (suc n) first [] go h = pop_nothing o (operand o m) n first go ∙ sym (pop_nothing o plain n first go)
  pop_as_they_stand m (suc n) first (v ∷ values) go h =
      pop_more o (operand o m) n first v values go
      ∙ having_alike o (operand o m v) _ _ (λ p. pop_as_they_stand m n (Some v) values (λ ps f rest. go (p ∷ ps) f rest) (λ ps f rest t. h (p ∷ ps) f rest (inr t)))
      ∙ operand_or_plain m v _ (λ t. pop_never plain n (Some v) values (λ ps f rest. go (Text t ∷ ps) f rest) (λ ps f rest. h (Text t ∷ ps) f rest (inl (t, refl))))
      ∙ sym (pop_more o plain n first v values go)

-- ---- one operand, and one above it

module _ (o : World) (read : Value → Option Plain) (stack : List Slot) (d : ℕ) where
  abbrev v : Value
  v = value_of (slot_at stack d)

  pop_top : (n : ℕ) (first : Option Value) (go : List Plain → Option Value → List Value → Run Machine) → suc d ≤ length stack →
      pop_operands read (suc n) first (values_of (suc d) stack) o go ≡ having (read v) o (λ p. pop_operands read n (Some v) (values_of d stack) o (λ ps f rest. go (p ∷ ps) f rest))
  pop_top n first go h =
      let e : d + 1 ≡ suc d = omega arith in
      ap (λ l. pop_operands read (suc n) first l o go) (sym (top_at (suc d) d stack e h)) ∙ pop_more o read n first v (values_of d stack) go

  pop_one : (first : Option Value) (go : List Plain → Option Value → List Value → Run Machine) → suc d ≤ length stack →
      pop_operands read 1 first (values_of (suc d) stack) o go ≡ having (read v) o (λ p. go (p ∷ []) (Some v) (values_of d stack))
  pop_one first go h = pop_top 0 first go h ∙ having_alike o (read v) _ _ (λ p. pop_last o read (Some v) (values_of d stack) (λ ps f rest. go (p ∷ ps) f rest))

  pop_this : (p : Plain) (first : Option Value) (go : List Plain → Option Value → List Value → Run Machine) → suc d ≤ length stack → read v ≡ Some p →
      pop_operands read 1 first (values_of (suc d) stack) o go ≡ go (p ∷ []) (Some v) (values_of d stack)
  pop_this p first go h e = pop_one first go h ∙ ap (λ q. having q o (λ p. go (p ∷ []) (Some v) (values_of d stack))) e ∙ some_had o p _

abbrev pub above : (n : ℕ) → ℕ → ℕ
above zero d = d
above (suc n) d = suc (above n d)

module _ (o : World) (m : Frames) (stack : List Slot) (s : Slot) (t : TextVal) (is : value_of s ≡ Of (Text t)) (d : ℕ) where
  abbrev new : List Slot
  new = set stack d s

  abbrev v0 : Value
  v0 = value_of (slot_at stack d)

  module _ (h : suc d ≤ length stack) where
    there : value_of (slot_at new d) ≡ Of (Text t)
    there = ap value_of (get_or-set_same stack d s empty_slot (omega (arith, h))) ∙ is

    long : suc d ≤ length new
    long = subst (λ n. suc d ≤ n) (sym (length-set stack d s)) h

    below_same : values_of d new ≡ values_of d stack
    below_same = same_values d stack new (omega (arith, h)) (omega (arith, long)) (λ at b. get_or-set_other stack d at s empty_slot (λ e. omega (arith, e, b)))

    put_there : (first : Option Value) (go : List Plain → Option Value → List Value → Run Machine) →
        pop_operands plain 1 first (values_of (suc d) new) o (λ ps f rest. go ps (Some v0) rest) ≡ go (Text t ∷ []) (Some v0) (values_of d stack)
    put_there first go = pop_this o plain new d (Text t) first (λ ps f rest. go ps (Some v0) rest) long (ap plain there) ∙ ap (λ l. go (Text t ∷ []) (Some v0) l) below_same

    -- the text alone
    pub text_popped : (first first2 : Option Value) (go : List Plain → Option Value → List Value → Run Machine) → operand o m v0 ≡ Some (Text t) →
        pop_operands (operand o m) 1 first (values_of (suc d) stack) o go ≡ pop_operands plain 1 first2 (values_of (suc d) new) o (λ ps f rest. go ps (Some v0) rest)
    text_popped first first2 go e = pop_this o (operand o m) stack d (Text t) first go h e ∙ sym (put_there first2 go)

  module _ (h : suc (suc d) ≤ length stack) where
    abbrev v1 : Value
    v1 = value_of (slot_at stack (suc d))

    top_same : value_of (slot_at new (suc d)) ≡ v1
    top_same = ap value_of (get_or-set_other stack d (suc d) s empty_slot (λ e. omega (arith, e)))

    -- an operand above it, which is no text
    pub text_popped_below : (first first2 : Option Value) (go : List Plain → Option Value → List Value → Run Machine) → operand o m v0 ≡ Some (Text t) →
        ((t2 : TextVal) (p : Plain) (f : Option Value) (rest : List Value) → go (Text t2 ∷ p ∷ []) f rest ≡ no_rule o) →
        pop_operands (operand o m) 2 first (values_of (suc (suc d)) stack) o go ≡ pop_operands plain 2 first2 (values_of (suc (suc d)) new) o (λ ps f rest. go ps (Some v0) rest)
    text_popped_below first first2 go e dull =
        let h2 : suc d ≤ length stack = omega (arith, h) in
        let l2 : suc (suc d) ≤ length new = subst (λ n. suc (suc d) ≤ n) (sym (length-set stack d s)) h in
        let rest = values_of d stack in
        pop_top o (operand o m) stack (suc d) 1 first go h
        ∙ having_alike o (operand o m v1) _ _ (λ p. pop_this o (operand o m) stack d (Text t) (Some v1) (λ ps f rest. go (p ∷ ps) f rest) h2 e)
        ∙ operand_or_plain o m v1 (λ p. go (p ∷ Text t ∷ []) (Some v0) rest) (λ t2. dull t2 (Text t) (Some v0) rest)
        ∙ ap (λ w. having (plain w) o (λ p. go (p ∷ Text t ∷ []) (Some v0) rest)) (sym top_same)
        ∙ having_alike o (plain (value_of (slot_at new (suc d)))) _ _ (λ p. sym (put_there h2 (Some (value_of (slot_at new (suc d)))) (λ ps f rest. go (p ∷ ps) f rest)))
        ∙ sym (pop_top o plain new (suc d) 1 first2 (λ ps f rest. go ps (Some v0) rest) l2)

module _ (o : World) (m : Frames) (stack : List Slot) (d : ℕ) (none : IsNoTextIn (operand o m (value_of (slot_at stack d)))) where
  pub no_text_popped : (first : Option Value) (go : List Plain → Option Value → List Value → Run Machine) → suc d ≤ length stack →
      ((p : Plain) (f : Option Value) (rest : List Value) → ((t : TextVal) → p ≡ Text t → ⊥) → go (p ∷ []) f rest ≡ no_rule o) → pop_operands (operand o m) 1 first (values_of (suc d) stack) o go ≡ no_rule o
  no_text_popped first go h dull = pop_one o (operand o m) stack d first go h ∙ no_text_had o _ _ none (λ p n. dull p (Some (value_of (slot_at stack d))) (values_of d stack) n)

  pub no_text_popped_below : (first : Option Value) (go : List Plain → Option Value → List Value → Run Machine) → suc (suc d) ≤ length stack →
      ((q p : Plain) (f : Option Value) (rest : List Value) → ((t : TextVal) → p ≡ Text t → ⊥) → go (q ∷ p ∷ []) f rest ≡ no_rule o) → pop_operands (operand o m) 2 first (values_of (suc (suc d)) stack) o go ≡ no_rule o
  no_text_popped_below first go h dull =
      pop_top o (operand o m) stack (suc d) 1 first go h
      ∙ having_never o (operand o m (value_of (slot_at stack (suc d)))) _ (λ q. no_text_popped (Some (value_of (slot_at stack (suc d)))) (λ ps f rest. go (q ∷ ps) f rest) (omega (arith, h)) (λ p f rest n. dull q p f rest n))
