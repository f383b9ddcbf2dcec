-- Operands on a stack, as a row takes them.
use Rattle.std.proofs.Common.{◌≡◌, ℕ, zero, suc, ◌+◌, ◌<◌, ◌≤◌, List, [], ◌∷◌, length, sym, subst, refl, ap, ◌∙◌, arith}
use Rattle.std.specs.Prelude.{ℤ, Bool, true, false, Option, Some, None, nat_lt, if◌then◌else◌}
use Rattle.sim_base.specs.declared.limits.Limits.{Limits}
use Rattle.sim_values.specs.declared.standard.Standard.{Standard}
use Rattle.sim_values.specs.declared.standard.StandardType.{StandardType}
use Rattle.sim_values.specs.declared.value.TextVal.{TextVal}
use Rattle.sim_values.specs.Plain.{Plain, Integer, Truth, Character, Text, Object, MainOf, Nothing}
use Rattle.sim_values.specs.Standard.{Function, applied, operands_of, row_of, standard_effect, take_character, take_integer, take_text}
use Rattle.sim_values.specs.Store.{Effect}
use Rattle.sim_code.specs.Outcome.{Run, World}
use Rattle.sim_code.specs.Events.{having, integer_in, no_rule, pop_operands, popping, when}
use Rattle.sim_code.specs.Machine.{Machine, Value, Of, Link, Address, ArrayValue, ProcedureValue, ThunkValue, plain}
use Rattle.sim_code.specs.Rows.{has_room}
use Rattle.frame_arena.specs.declared.slot.Slot.{Slot}
use Rattle.frame_arena.specs.Slots.{character_in, character_of, integer_of}
use Rattle.frame_arena.specs.Stacks.{values_of}
use Rattle.standard_calls.specs.Calls.{going_on}
use Rattle.standard_calls.specs.Performed.{does, held, standard_row}
use Rattle.standard_calls.proofs.Slots.{counted}

abbrev some_type : {X : Type 0} → Option X → Type 0
some_type None = Unit {0}
some_type (Some x) = ⊥

pub no_some : {X : Type 0} (x : X) → ◌≡◌ {A = Option X} None (Some x) → ⊥
no_some x e = subst some_type e tt

abbrev or_else : {A : Type 0} → A → Option A → A
or_else a None = a
or_else a (Some b) = b

lt_yes : (a b : ℕ) → a < b → nat_lt a b ≡ true
lt_yes a b h = grind (arith, h)

when_true : (b : Bool) (o : World) (r : Run Machine) → b ≡ true → when b o r ≡ r
unfolding when
when_true b o r e = ap (λ b. if b then r else no_rule o) e

when_false : (b : Bool) (o : World) (r : Run Machine) → b ≡ false → when b o r ≡ no_rule o
unfolding when
when_false b o r e = ap (λ b. if b then r else no_rule o) e

lt_not : (a b : ℕ) → b ≤ a → nat_lt a b ≡ false
lt_not a b h = grind (arith, h)

pub integer_is : (v : Value) (x : ℤ) → Some x ≡ integer_of v → v ≡ Of (Integer x)
integer_is (Of (Integer z)) x h = ap (λ m. Of (Integer (or_else x m))) (sym h)
integer_is (Of (Truth b)) x h = absurd (no_some x (sym h))
integer_is (Of (Character c)) x h = absurd (no_some x (sym h))
integer_is (Of (Text t)) x h = absurd (no_some x (sym h))
integer_is (Of (Object i)) x h = absurd (no_some x (sym h))
integer_is (Of (MainOf i)) x h = absurd (no_some x (sym h))
integer_is (Of Nothing) x h = absurd (no_some x (sym h))
integer_is (Link n) x h = absurd (no_some x (sym h))
integer_is (Address p) x h = absurd (no_some x (sym h))
integer_is (ArrayValue a) x h = absurd (no_some x (sym h))
integer_is (ProcedureValue k n) x h = absurd (no_some x (sym h))
integer_is (ThunkValue k n) x h = absurd (no_some x (sym h))

pub character_is : (v : Value) (x : ℕ) → Some x ≡ character_of v → v ≡ Of (Character x)
character_is (Of (Integer z)) x h = absurd (no_some x (sym h))
character_is (Of (Truth b)) x h = absurd (no_some x (sym h))
character_is (Of (Character c)) x h = ap (λ m. Of (Character (or_else x m))) (sym h)
character_is (Of (Text t)) x h = absurd (no_some x (sym h))
character_is (Of (Object i)) x h = absurd (no_some x (sym h))
character_is (Of (MainOf i)) x h = absurd (no_some x (sym h))
character_is (Of Nothing) x h = absurd (no_some x (sym h))
character_is (Link n) x h = absurd (no_some x (sym h))
character_is (Address p) x h = absurd (no_some x (sym h))
character_is (ArrayValue a) x h = absurd (no_some x (sym h))
character_is (ProcedureValue k n) x h = absurd (no_some x (sym h))
character_is (ThunkValue k n) x h = absurd (no_some x (sym h))

-- ---- operands of another kind

no_integer : (p : Plain) (vs : List Plain) (go : ℤ → List Plain → Option Effect) → None ≡ integer_in p → take_integer (p ∷ vs) go ≡ None
unfolding take_integer
no_integer (Integer z) vs go h = absurd (no_some z h)
no_integer (Truth b) vs go h = refl
no_integer (Character c) vs go h = refl
no_integer (Text t) vs go h = refl
no_integer (Object i) vs go h = refl
no_integer (MainOf i) vs go h = refl
no_integer Nothing vs go h = refl

pub not_integer : (v : Value) (p : Plain) (vs : List Plain) (go : ℤ → List Plain → Option Effect) → None ≡ integer_of v → v ≡ Of p → take_integer (p ∷ vs) go ≡ None
not_integer v p vs go h e = no_integer p vs go (h ∙ ap integer_of e)

pub an_integer : (z : ℤ) (p : Plain) (vs : List Plain) (go : ℤ → List Plain → Option Effect) → ◌≡◌ {A = Value} (Of (Integer z)) (Of p) → take_integer (p ∷ vs) go ≡ go z vs
unfolding take_integer
an_integer z p vs go e = ap (λ (v : Value). take_integer (plain_or p (plain v) ∷ vs) go) (sym e)
  where
    plain_or : Plain → Option Plain → Plain
    plain_or p None = p
    plain_or p (Some q) = q

no_character : (p : Plain) (vs : List Plain) (go : ℕ → List Plain → Option Effect) → None ≡ character_in p → take_character (p ∷ vs) go ≡ None
unfolding take_character
no_character (Integer z) vs go h = refl
no_character (Truth b) vs go h = refl
no_character (Character c) vs go h = absurd (no_some c h)
no_character (Text t) vs go h = refl
no_character (Object i) vs go h = refl
no_character (MainOf i) vs go h = refl
no_character Nothing vs go h = refl

pub not_character : (v : Value) (p : Plain) (vs : List Plain) (go : ℕ → List Plain → Option Effect) → None ≡ character_of v → v ≡ Of p → take_character (p ∷ vs) go ≡ None
not_character v p vs go h e = no_character p vs go (h ∙ ap character_of e)

pub a_character : (c : ℕ) (p : Plain) (vs : List Plain) (go : ℕ → List Plain → Option Effect) → ◌≡◌ {A = Value} (Of (Character c)) (Of p) → take_character (p ∷ vs) go ≡ go c vs
unfolding take_character
a_character c p vs go e = ap (λ (v : Value). take_character (plain_or p (plain v) ∷ vs) go) (sym e)
  where
    plain_or : Plain → Option Plain → Plain
    plain_or p None = p
    plain_or p (Some q) = q

pub not_text : (p : Plain) (vs : List Plain) (go : TextVal → List Plain → Option Effect) → ((t : TextVal) → ◌≡◌ {A = Value} (Of p) (Of (Text t)) → ⊥) → take_text (p ∷ vs) go ≡ None
unfolding take_text
not_text (Integer z) vs go h = refl
not_text (Truth b) vs go h = refl
not_text (Character c) vs go h = refl
not_text (Text t) vs go h = absurd (h t refl)
not_text (Object i) vs go h = refl
not_text (MainOf i) vs go h = refl
not_text Nothing vs go h = refl

-- ---- rows

module _ (n : Standard) (f : Function) (is : (row_of n).function ≡ f) (l : Limits) (line : ℕ) (o : World) (go : World → Option TextVal → List Value → Run Machine) where
  abbrev finish : List Plain → List Value → Run Machine
  finish vs rest = having (standard_effect n vs o.store) o (going_on l line o go rest)

  abbrev K : List Plain → Option Value → List Value → Run Machine
  K vs first rest = finish vs rest

  dull : {A : Type 0} (m : Option A) (h : A → Run Machine) → ((a : A) → h a ≡ no_rule o) → having m o h ≡ no_rule o
  unfolding having
  dull None h e = refl
  dull (Some a) h e = e a

  none_at : (v : Value) (h : Plain → Run Machine) → ((p : Plain) → v ≡ Of p → h p ≡ no_rule o) → having (plain v) o h ≡ no_rule o
  unfolding having
  none_at (Of p) h e = e p refl
  none_at (Link i) h e = refl
  none_at (Address p) h e = refl
  none_at (ArrayValue a) h e = refl
  none_at (ProcedureValue k i) h e = refl
  none_at (ThunkValue k i) h e = refl

  some_at : (v : Value) (p : Plain) (h : Plain → Run Machine) → v ≡ Of p → having (plain v) o h ≡ h p
  unfolding having
  some_at v p h e = ap (λ v. having (plain v) o h) e

  finish_none : (vs : List Plain) (rest : List Value) → applied f vs o.store ≡ None → finish vs rest ≡ no_rule o
  unfolding having standard_effect
  finish_none vs rest e = ap (λ f. having (applied f vs o.store) o (going_on l line o go rest)) is ∙ ap (λ m. having m o (going_on l line o go rest)) e

  abbrev row_of_depth : ℕ → List Slot → Run Machine
  row_of_depth depth slots = standard_row l line n (held depth slots) o go

  room_enough : (room values operands : ℕ) (r : Option StandardType) → values < room + operands → has_room room values operands r ≡ true
  room_enough room values operands None h = refl
  room_enough room values operands (Some t) h = lt_yes values (room + operands) h

  row_starts : (depth : ℕ) (slots : List Slot) → row_of_depth depth slots
      ≡ when (has_room (length slots) (length (values_of depth slots)) (length (operands_of f)) (row_of n).result) o (pop_operands plain (length (operands_of f)) None (values_of depth slots) o K)
  unfolding does
  row_starts depth slots = ap (λ f. when (has_room (length slots) (length (values_of depth slots)) (length (operands_of f)) (row_of n).result) o (pop_operands plain (length (operands_of f)) None (values_of depth slots) o K)) is

  row_begins : (depth : ℕ) (slots : List Slot) → depth ≤ length slots → 0 < length (operands_of f) → row_of_depth depth slots ≡ pop_operands plain (length (operands_of f)) None (values_of depth slots) o K
  row_begins depth slots h some =
      let e = counted depth slots h in
      row_starts depth slots
      ∙ when_true _ o _ (room_enough (length slots) (length (values_of depth slots)) (length (operands_of f)) (row_of n).result (omega (arith, e, h, some)))

  short : (count : ℕ) (first : Option Value) (values : List Value) (h : List Plain → Option Value → List Value → Run Machine) → length values < count → pop_operands plain count first values o h ≡ no_rule o
  unfolding pop_operands popping
  short zero first values h few = absurd (omega (arith, few))
  short (suc count) first [] h few = refl
  short (suc count) first (v ∷ rest) h few = dull (plain v) _ (λ p. short count (Some v) rest (λ ps first rest. h (p ∷ ps) first rest) (omega (arith, few)))

  pub too_few : (depth : ℕ) (slots : List Slot) → depth ≤ length slots → depth < length (operands_of f) → row_of_depth depth slots ≡ no_rule o
  too_few depth slots h few =
      let e = counted depth slots h in
      row_begins depth slots h (omega (arith, few)) ∙ short (length (operands_of f)) None (values_of depth slots) K (omega (arith, e, few))

  module _ (depth : ℕ) (slots : List Slot) (h : depth ≤ length slots) where
    -- one operand
    module _ (v : Value) (rest : List Value) (one : length (operands_of f) ≡ 1) (e : values_of depth slots ≡ v ∷ rest) where
      one_starts : row_of_depth depth slots ≡ having (plain v) o (λ p. finish (p ∷ []) rest)
      unfolding pop_operands popping
      one_starts =
          row_begins depth slots h (omega (arith, one))
          ∙ ap (λ c. pop_operands plain c None (values_of depth slots) o K) one
          ∙ ap (λ vs. pop_operands plain 1 None vs o K) e

      pub one_good : (p : Plain) → v ≡ Of p → row_of_depth depth slots ≡ finish (p ∷ []) rest
      one_good p vp = one_starts ∙ some_at v p (λ p. finish (p ∷ []) rest) vp

      pub one_bad : ((p : Plain) → v ≡ Of p → applied f (p ∷ []) o.store ≡ None) → row_of_depth depth slots ≡ no_rule o
      one_bad bad = one_starts ∙ none_at v (λ p. finish (p ∷ []) rest) (λ p vp. finish_none (p ∷ []) rest (bad p vp))

    -- two operands
    module _ (w v : Value) (rest : List Value) (two : length (operands_of f) ≡ 2) (e : values_of depth slots ≡ w ∷ v ∷ rest) where
      two_starts : row_of_depth depth slots ≡ having (plain w) o (λ q. having (plain v) o (λ p. finish (q ∷ p ∷ []) rest))
      unfolding pop_operands popping
      two_starts =
          row_begins depth slots h (omega (arith, two))
          ∙ ap (λ c. pop_operands plain c None (values_of depth slots) o K) two
          ∙ ap (λ vs. pop_operands plain 2 None vs o K) e

      pub two_good : (q p : Plain) → w ≡ Of q → v ≡ Of p → row_of_depth depth slots ≡ finish (q ∷ p ∷ []) rest
      two_good q p wq vp = two_starts ∙ some_at w q (λ q. having (plain v) o (λ p. finish (q ∷ p ∷ []) rest)) wq ∙ some_at v p (λ p. finish (q ∷ p ∷ []) rest) vp

      pub two_bad : ((q p : Plain) → w ≡ Of q → v ≡ Of p → applied f (q ∷ p ∷ []) o.store ≡ None) → row_of_depth depth slots ≡ no_rule o
      two_bad bad =
          two_starts
          ∙ none_at w (λ q. having (plain v) o (λ p. finish (q ∷ p ∷ []) rest)) (λ q wq. none_at v (λ p. finish (q ∷ p ∷ []) rest) (λ p vp. finish_none (q ∷ p ∷ []) rest (bad q p wq vp)))

    -- three operands
    module _ (x w v : Value) (rest : List Value) (three : length (operands_of f) ≡ 3) (e : values_of depth slots ≡ x ∷ w ∷ v ∷ rest) where
      three_starts : row_of_depth depth slots ≡ having (plain x) o (λ r. having (plain w) o (λ q. having (plain v) o (λ p. finish (r ∷ q ∷ p ∷ []) rest)))
      unfolding pop_operands popping
      three_starts =
          row_begins depth slots h (omega (arith, three))
          ∙ ap (λ c. pop_operands plain c None (values_of depth slots) o K) three
          ∙ ap (λ vs. pop_operands plain 3 None vs o K) e

      pub three_good : (r q p : Plain) → x ≡ Of r → w ≡ Of q → v ≡ Of p → row_of_depth depth slots ≡ finish (r ∷ q ∷ p ∷ []) rest
      three_good r q p xr wq vp =
          three_starts
          ∙ some_at x r (λ r. having (plain w) o (λ q. having (plain v) o (λ p. finish (r ∷ q ∷ p ∷ []) rest))) xr
          ∙ some_at w q (λ q. having (plain v) o (λ p. finish (r ∷ q ∷ p ∷ []) rest)) wq
          ∙ some_at v p (λ p. finish (r ∷ q ∷ p ∷ []) rest) vp

      pub three_bad : ((r q p : Plain) → x ≡ Of r → w ≡ Of q → v ≡ Of p → applied f (r ∷ q ∷ p ∷ []) o.store ≡ None) → row_of_depth depth slots ≡ no_rule o
      three_bad bad =
          three_starts
          ∙ none_at x (λ r. having (plain w) o (λ q. having (plain v) o (λ p. finish (r ∷ q ∷ p ∷ []) rest))) (λ r xr.
          none_at w (λ q. having (plain v) o (λ p. finish (r ∷ q ∷ p ∷ []) rest)) (λ q wq.
          none_at v (λ p. finish (r ∷ q ∷ p ∷ []) rest) (λ p vp. finish_none (r ∷ q ∷ p ∷ []) rest (bad r q p xr wq vp))))

-- no operands
module _ (n : Standard) (is : length (operands_of (row_of n).function) ≡ 0) (l : Limits) (line : ℕ) (o : World) (go : World → Option TextVal → List Value → Run Machine) where
  zero_starts : (depth : ℕ) (slots : List Slot) → standard_row l line n (held depth slots) o go
      ≡ when (has_room (length slots) (length (values_of depth slots)) 0 (row_of n).result) o (having (standard_effect n [] o.store) o (going_on l line o go (values_of depth slots)))
  unfolding does pop_operands
  zero_starts depth slots = ap (λ c. when (has_room (length slots) (length (values_of depth slots)) c (row_of n).result) o (pop_operands plain c None (values_of depth slots) o (λ vs first rest. having (standard_effect n vs o.store) o (going_on l line o go rest)))) is

  pub zero_good : (depth : ℕ) (slots : List Slot) → depth ≤ length slots → depth < length slots → standard_row l line n (held depth slots) o go ≡ having (standard_effect n [] o.store) o (going_on l line o go (values_of depth slots))
  zero_good depth slots h h2 =
      let e = counted depth slots h in
      zero_starts depth slots ∙ when_true _ o _ (enough (row_of n).result (lt_yes (length (values_of depth slots)) (length slots + 0) (omega (arith, e, h2))))
    where
      enough : (r : Option StandardType) → nat_lt (length (values_of depth slots)) (length slots + 0) ≡ true → has_room (length slots) (length (values_of depth slots)) 0 r ≡ true
      enough None e = refl
      enough (Some t) e = e

  pub zero_quiet : (depth : ℕ) (slots : List Slot) → (row_of n).result ≡ None → standard_row l line n (held depth slots) o go ≡ having (standard_effect n [] o.store) o (going_on l line o go (values_of depth slots))
  zero_quiet depth slots none =
      zero_starts depth slots ∙ when_true _ o _ (ap (has_room (length slots) (length (values_of depth slots)) 0) none)

  pub zero_full : (depth : ℕ) (slots : List Slot) (t : StandardType) → depth ≤ length slots → length slots ≤ depth → (row_of n).result ≡ Some t → standard_row l line n (held depth slots) o go ≡ no_rule o
  zero_full depth slots t h h2 some =
      let e = counted depth slots h in
      zero_starts depth slots ∙ when_false _ o _ (ap (has_room (length slots) (length (values_of depth slots)) 0) some ∙ lt_not (length (values_of depth slots)) (length slots + 0) (omega (arith, e, h2)))
