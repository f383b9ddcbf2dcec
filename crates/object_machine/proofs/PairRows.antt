-- Rows of two texts.
use Rattle.std.proofs.Common.{◌≡◌, ℕ, zero, suc, ◌-◌, ◌<◌, ◌≤◌, inl, inr, List, [], ◌∷◌, length, sym, subst, refl, ap, ◌∙◌, arith}
use Rattle.std.specs.Prelude.{Bool, true, Option, Some, None, Result, Ok, Err}
use Rattle.sim_base.specs.declared.run_error.RunError.{RunError}
use Rattle.sim_values.specs.declared.operators.Comparison.{Comparison}
use Rattle.sim_values.specs.declared.operators.Dyadic.{Dyadic}
use Rattle.sim_values.specs.declared.operators.Dyadic.TheVariants as dyadic
use Rattle.sim_values.specs.declared.value.TextVal.{TextVal}
use Rattle.sim_values.specs.Operators.{Answer, compare_as_texts, holds, same_texts, two_of, with_text}
use Rattle.sim_values.specs.Plain.{Plain, Character, Integer, MainOf, Nothing, Object, Text, Truth}
use Rattle.sim_values.specs.Texts.{Frame, TextStep, compare_texts, same_text, assign, assign_refusal, outcome, unless}
use Rattle.basic_io.specs.Image.{IsImage}
use Rattle.text_objects.specs.Frames.{KeepsFrames}
use Rattle.sim_code.specs.Events.{answering, applying_two, assigning, computing, having, no_rule, pop_plain, pop_text, popping, stopping, text_val, with_texts}
use Rattle.sim_base.specs.declared.limits.Limits.{Limits}
use Rattle.sim_code.specs.Machine.{Frames, Machine, Of, Value, on, plain}
use Rattle.sim_code.specs.Outcome.{Run, RunFault, World}
use Rattle.frame_arena.specs.declared.slot.Slot.{Slot}
use Rattle.frame_arena.specs.declared.slot.SlotKind.{SlotKind}
use Rattle.frame_arena.specs.declared.slot.SlotKind.TheVariants as k
use Rattle.frame_arena.specs.Operators.{is_on_texts}
use Rattle.frame_arena.specs.Slots.{value_by, value_of}
use Rattle.frame_arena.specs.Stacks.{slot_at, values_of}
use Rattle.object_machine.specs.declared.machine.Storage.{Storage}
use Rattle.object_machine.specs.declared.machine.Registers.{Registers}
use Rattle.object_machine.specs.declared.machine.Activation as working
use Rattle.object_machine.specs.declared.machine.Flow.TheVariants as flow
use Rattle.object_machine.specs.declared.pairs.ReadTexts.TheVariants as two
use Rattle.object_machine.specs.Standing.{Leaves, Outside, Stands, activation_at, below_of}
use Rattle.object_machine.specs.Pairs.{IsNoText, ReadsTexts, an_answer, relating_by, text_of_plain}
use Rattle.object_machine.proofs.ArrayRows.{none_at, off, top_at}

pub no_text_kind : (j : SlotKind) (s : Slot) → (j ≡ k.Text → ⊥) → IsNoText (value_by j s)
no_text_kind k.Empty s h = refl
no_text_kind k.Integer s h = refl
no_text_kind k.Truth s h = refl
no_text_kind k.Character s h = refl
no_text_kind k.Text s h = absurd (h refl)
no_text_kind k.Nothing s h = refl
no_text_kind k.Object s h = refl
no_text_kind k.Main s h = refl
no_text_kind k.Link s h = refl
no_text_kind k.Cell s h = refl
no_text_kind k.Element s h = refl
no_text_kind k.Image s h = refl
no_text_kind k.Array s h = refl
no_text_kind k.Procedure s h = refl
no_text_kind k.Thunk s h = refl

abbrev some_type : {A : Type 0} → Option A → Type 0
some_type None = ⊥
some_type (Some a) = Unit {0}

-- ---- operators on what is no text

no_right : (y : Plain) (f : TextVal → Answer) → text_val y ≡ None → with_text y f ≡ None
no_right (Integer z) f h = refl
no_right (Truth b) f h = refl
no_right (Character c) f h = refl
no_right (Text t) f h = absurd (subst some_type h tt)
no_right (Object i) f h = refl
no_right (MainOf i) f h = refl
no_right Nothing f h = refl

right_none : (op : Dyadic) (frames : List Frame) (x y : Plain) → is_on_texts op ≡ true → text_val y ≡ None → two_of op frames x y ≡ None
unfolding two_of compare_as_texts same_texts
right_none (dyadic.CompareTexts r) frames x y e h = no_right y _ h
right_none dyadic.SameText frames x y e h = no_right y _ h
right_none (dyadic.Calculate c) frames x y e h = absurd (off (sym e))
right_none (dyadic.Compare r) frames x y e h = absurd (off (sym e))
right_none (dyadic.Connect c) frames x y e h = absurd (off (sym e))
right_none dyadic.SameObject frames x y e h = absurd (off (sym e))

left_none : (op : Dyadic) (frames : List Frame) (x : Plain) (t : TextVal) → is_on_texts op ≡ true → text_val x ≡ None → two_of op frames x (Text t) ≡ None
unfolding two_of compare_as_texts same_texts
left_none (dyadic.CompareTexts r) frames x t e h = no_right x _ h
left_none dyadic.SameText frames x t e h = no_right x _ h
left_none (dyadic.Calculate c) frames x t e h = absurd (off (sym e))
left_none (dyadic.Compare r) frames x t e h = absurd (off (sym e))
left_none (dyadic.Connect c) frames x t e h = absurd (off (sym e))
left_none dyadic.SameObject frames x t e h = absurd (off (sym e))

-- ---- what relations say

pub compare_says : (r : Comparison) (frames : List Frame) (a b : TextVal) (z : Bool) → holds r (compare_texts frames a b) ≡ z → two_of (relating_by (Some r)) frames (Text a) (Text b) ≡ an_answer z
unfolding two_of compare_as_texts
compare_says r frames a b z e = ap an_answer e

pub same_says : (frames : List Frame) (a b : TextVal) (z : Bool) → same_text a b ≡ z → two_of (relating_by None) frames (Text a) (Text b) ≡ an_answer z
unfolding two_of same_texts
same_says frames a b z e = ap an_answer e

pub on_texts_by : (r : Option Comparison) → is_on_texts (relating_by r) ≡ true
on_texts_by None = refl
on_texts_by (Some r) = refl

-- ---- relations

module _ (line : ℕ) (o : World) (op : Dyadic) (on_texts : is_on_texts op ≡ true) (go : Plain → List Value → Run Machine) where
  abbrev pub relating : List Value → Run Machine
  relating stack = applying_two plain op line stack o go

  abbrev answered : Plain → List Value → Plain → Run Machine
  answered y rest x = answering line (two_of op o.store.frames x y) o (λ z. go z rest)

  two_values : (y x : Value) (rest : List Value) → relating (y ∷ x ∷ rest) ≡ having (plain y) o (λ q. having (plain x) o (answered q rest))
  unfolding applying_two pop_plain popping
  two_values y x rest = refl

  no_value : relating [] ≡ no_rule o
  unfolding applying_two pop_plain popping
  no_value = refl

  nothing_below : (w : Option Plain) → having w o (λ q. no_rule {S = Machine} o) ≡ no_rule o
  unfolding having
  nothing_below None = refl
  nothing_below (Some q) = refl

  one_value : (y : Value) → relating (y ∷ []) ≡ no_rule o
  unfolding applying_two pop_plain popping
  one_value y = nothing_below (plain y)

  one_held : (stack : List Slot) → relating (values_of 1 stack) ≡ no_rule o
  one_held [] = no_value
  one_held (s ∷ ss) = one_value (value_of s)

  pub few_related : (depth : ℕ) (stack : List Slot) → depth < 2 → relating (values_of depth stack) ≡ no_rule o
  few_related zero stack h = ap relating (none_at stack) ∙ no_value
  few_related (suc zero) stack h = one_held stack
  few_related (suc (suc n)) stack h = absurd (omega (arith, h))

  pub two_held : (depth : ℕ) (stack : List Slot) → 2 ≤ depth → depth ≤ length stack →
      relating (values_of depth stack) ≡ having (plain (value_of (slot_at stack (depth - 1)))) o (λ q. having (plain (value_of (slot_at stack (depth - 2)))) o (answered q (values_of (depth - 2) stack)))
  two_held depth stack h h2 =
      ap relating (sym (top_at depth (depth - 1) stack (omega (arith, h)) h2))
      ∙ ap (λ l. relating (value_of (slot_at stack (depth - 1)) ∷ l)) (sym (top_at (depth - 1) (depth - 2) stack (omega (arith, h)) (omega (arith, h, h2))))
      ∙ two_values (value_of (slot_at stack (depth - 1))) (value_of (slot_at stack (depth - 2))) (values_of (depth - 2) stack)

  none_answered : (answer : Answer) (rest : List Value) → answer ≡ None → answering line answer o (λ z. go z rest) ≡ no_rule o
  unfolding answering having
  none_answered answer rest e = ap (λ a. answering line a o (λ z. go z rest)) e

  each_none : (w : Option Plain) (F : Plain → Run Machine) → ((p : Plain) → F p ≡ no_rule o) → having w o F ≡ no_rule o
  unfolding having
  each_none None F h = refl
  each_none (Some p) F h = h p

  upper_none : (w w2 : Option Plain) (rest : List Value) → text_of_plain w ≡ None → having w o (λ q. having w2 o (answered q rest)) ≡ no_rule o
  unfolding having
  upper_none None w2 rest h = refl
  upper_none (Some y) w2 rest h = each_none w2 (answered y rest) (λ x. none_answered (two_of op o.store.frames x y) rest (right_none op o.store.frames x y on_texts h))

  lower_none : (t : TextVal) (w : Option Plain) (rest : List Value) → text_of_plain w ≡ None → having w o (answered (Text t) rest) ≡ no_rule o
  unfolding having
  lower_none t None rest h = refl
  lower_none t (Some x) rest h = none_answered (two_of op o.store.frames x (Text t)) rest (left_none op o.store.frames x t on_texts h)

  pub upper_other : (depth : ℕ) (stack : List Slot) → 2 ≤ depth → depth ≤ length stack → IsNoText (value_of (slot_at stack (depth - 1))) → relating (values_of depth stack) ≡ no_rule o
  upper_other depth stack h h2 e = two_held depth stack h h2 ∙ upper_none (plain (value_of (slot_at stack (depth - 1)))) (plain (value_of (slot_at stack (depth - 2)))) (values_of (depth - 2) stack) e

  text_first : (y x : Value) (t : TextVal) (rest : List Value) → y ≡ Of (Text t) → having (plain y) o (λ q. having (plain x) o (answered q rest)) ≡ having (plain x) o (answered (Text t) rest)
  unfolding having
  text_first y x t rest e = ap (λ v. having (plain v) o (λ q. having (plain x) o (answered q rest))) e

  pub lower_other : (depth : ℕ) (stack : List Slot) (t : TextVal) → 2 ≤ depth → depth ≤ length stack → value_of (slot_at stack (depth - 1)) ≡ Of (Text t) → IsNoText (value_of (slot_at stack (depth - 2))) → relating (values_of depth stack) ≡ no_rule o
  lower_other depth stack t h h2 is e =
      two_held depth stack h h2 ∙ text_first (value_of (slot_at stack (depth - 1))) (value_of (slot_at stack (depth - 2))) t (values_of (depth - 2) stack) is
      ∙ lower_none t (plain (value_of (slot_at stack (depth - 2)))) (values_of (depth - 2) stack) e

  truth_answered : (answer : Answer) (b : Bool) (rest : List Value) → answer ≡ an_answer b → answering line answer o (λ z. go z rest) ≡ go (Truth b) rest
  unfolding answering having computing
  truth_answered answer b rest e = ap (λ a. answering line a o (λ z. go z rest)) e

  text_second : (x : Value) (s t : TextVal) (rest : List Value) → x ≡ Of (Text s) → having (plain x) o (answered (Text t) rest) ≡ answered (Text t) rest (Text s)
  unfolding having
  text_second x s t rest e = ap (λ v. having (plain v) o (answered (Text t) rest)) e

  pub both_related : (depth : ℕ) (stack : List Slot) (left right : TextVal) (b : Bool) → 2 ≤ depth → depth ≤ length stack → value_of (slot_at stack (depth - 1)) ≡ Of (Text right) → value_of (slot_at stack (depth - 2)) ≡ Of (Text left) →
      two_of op o.store.frames (Text left) (Text right) ≡ an_answer b → relating (values_of depth stack) ≡ go (Truth b) (values_of (depth - 2) stack)
  both_related depth stack left right b h h2 er el says =
      two_held depth stack h h2 ∙ text_first (value_of (slot_at stack (depth - 1))) (value_of (slot_at stack (depth - 2))) right (values_of (depth - 2) stack) er
      ∙ text_second (value_of (slot_at stack (depth - 2))) left right (values_of (depth - 2) stack) el ∙ truth_answered (two_of op o.store.frames (Text left) (Text right)) b (values_of (depth - 2) stack) says

  -- what stands there are not two texts
  pub other_related : (frames : List Frame) (depth : ℕ) (stack : List Slot) → depth ≤ length stack → ReadsTexts two.Other frames depth stack → relating (values_of depth stack) ≡ no_rule o
  other_related frames depth stack h2 q =
      elim q [
        | inl few ↦ few_related depth stack few
        | inr b ↦ elim b.1 [
          | inl up ↦ upper_other depth stack b.0 h2 up
          | inr d ↦ lower_other depth stack d.0 b.0 h2 d.1.0 d.2
        ]
      ]

-- ---- assignments

module _ (line : ℕ) (o : World) (go : World → List Value → Run Machine) where
  abbrev pub assigns : List Value → Run Machine
  assigns stack = assigning plain line stack o go

  abbrev done : TextVal → List Value → TextVal → Run Machine
  done right rest left = computing line (assign o.store.frames left right).answer o (λ d. go (with_texts o (assign o.store.frames left right).frames) rest)

  abbrev upper : Value → (TextVal → Run Machine) → Run Machine
  upper v F = having (plain v) o (λ p. having (text_val p) o F)

  two_assigned : (y x : Value) (rest : List Value) → assigns (y ∷ x ∷ rest) ≡ upper y (λ right. upper x (done right rest))
  unfolding assigning pop_text pop_plain popping
  two_assigned y x rest = refl

  none_assigned : assigns [] ≡ no_rule o
  unfolding assigning pop_text pop_plain popping
  none_assigned = refl

  each_text_none : (w : Option Plain) (F : TextVal → Run Machine) → ((t : TextVal) → F t ≡ no_rule o) → having w o (λ p. having (text_val p) o F) ≡ no_rule o
  unfolding having
  each_text_none None F h = refl
  each_text_none (Some p) F h = each (text_val p)
    where
      each : (t : Option TextVal) → having t o F ≡ no_rule o
      each None = refl
      each (Some t) = h t

  one_assigned : (y : Value) → assigns (y ∷ []) ≡ no_rule o
  unfolding assigning pop_text pop_plain popping
  one_assigned y = each_text_none (plain y) _ (λ t. refl)

  one_held_assigned : (stack : List Slot) → assigns (values_of 1 stack) ≡ no_rule o
  one_held_assigned [] = none_assigned
  one_held_assigned (s ∷ ss) = one_assigned (value_of s)

  pub few_assigned : (depth : ℕ) (stack : List Slot) → depth < 2 → assigns (values_of depth stack) ≡ no_rule o
  few_assigned zero stack h = ap assigns (none_at stack) ∙ none_assigned
  few_assigned (suc zero) stack h = one_held_assigned stack
  few_assigned (suc (suc n)) stack h = absurd (omega (arith, h))

  two_held_assigned : (depth : ℕ) (stack : List Slot) → 2 ≤ depth → depth ≤ length stack →
      assigns (values_of depth stack) ≡ upper (value_of (slot_at stack (depth - 1))) (λ right. upper (value_of (slot_at stack (depth - 2))) (done right (values_of (depth - 2) stack)))
  two_held_assigned depth stack h h2 =
      ap assigns (sym (top_at depth (depth - 1) stack (omega (arith, h)) h2))
      ∙ ap (λ l. assigns (value_of (slot_at stack (depth - 1)) ∷ l)) (sym (top_at (depth - 1) (depth - 2) stack (omega (arith, h)) (omega (arith, h, h2))))
      ∙ two_assigned (value_of (slot_at stack (depth - 1))) (value_of (slot_at stack (depth - 2))) (values_of (depth - 2) stack)

  no_text_there : (w : Option Plain) (F : TextVal → Run Machine) → text_of_plain w ≡ None → having w o (λ p. having (text_val p) o F) ≡ no_rule o
  unfolding having
  no_text_there None F h = refl
  no_text_there (Some p) F h = ap (λ t. having t o F) h

  text_there : (v : Value) (t : TextVal) (F : TextVal → Run Machine) → v ≡ Of (Text t) → upper v F ≡ F t
  unfolding having
  text_there v t F e = ap (λ v. upper v F) e

  pub upper_not_assigned : (depth : ℕ) (stack : List Slot) → 2 ≤ depth → depth ≤ length stack → IsNoText (value_of (slot_at stack (depth - 1))) → assigns (values_of depth stack) ≡ no_rule o
  upper_not_assigned depth stack h h2 e = two_held_assigned depth stack h h2 ∙ no_text_there (plain (value_of (slot_at stack (depth - 1)))) _ e

  pub lower_not_assigned : (depth : ℕ) (stack : List Slot) (t : TextVal) → 2 ≤ depth → depth ≤ length stack → value_of (slot_at stack (depth - 1)) ≡ Of (Text t) → IsNoText (value_of (slot_at stack (depth - 2))) → assigns (values_of depth stack) ≡ no_rule o
  lower_not_assigned depth stack t h h2 is e =
      two_held_assigned depth stack h h2 ∙ text_there (value_of (slot_at stack (depth - 1))) t _ is ∙ no_text_there (plain (value_of (slot_at stack (depth - 2)))) _ e

  both_assigned : (depth : ℕ) (stack : List Slot) (left right : TextVal) → 2 ≤ depth → depth ≤ length stack → value_of (slot_at stack (depth - 1)) ≡ Of (Text right) → value_of (slot_at stack (depth - 2)) ≡ Of (Text left) →
      assigns (values_of depth stack) ≡ done right (values_of (depth - 2) stack) left
  both_assigned depth stack left right h h2 er el =
      two_held_assigned depth stack h h2 ∙ text_there (value_of (slot_at stack (depth - 1))) right _ er ∙ text_there (value_of (slot_at stack (depth - 2))) left (done right (values_of (depth - 2) stack)) el

  abbrev after_step : List Value → TextStep (Unit {0}) → Run Machine
  after_step rest step = computing line step.answer o (λ d. go (with_texts o step.frames) rest)

  step_done : (rest : List Value) (new : List Frame) (left : TextVal) (d : Unit {0}) → after_step rest (outcome new left (Ok d)) ≡ go (with_texts o new) rest
  unfolding computing
  step_done rest new left d = refl

  step_refused : (rest : List Value) (new : List Frame) (left : TextVal) (e : RunError) → after_step rest (outcome new left (Err e)) ≡ stopping (RunFault e line) o
  unfolding computing
  step_refused rest new left e = refl

  pub texts_assigned : (depth : ℕ) (stack : List Slot) (left right : TextVal) (old new : List Frame) (d : Unit {0}) → 2 ≤ depth → depth ≤ length stack → value_of (slot_at stack (depth - 1)) ≡ Of (Text right) → value_of (slot_at stack (depth - 2)) ≡ Of (Text left) →
      o.store.frames ≡ old → assign old left right ≡ outcome new left (Ok d) → assigns (values_of depth stack) ≡ go (with_texts o new) (values_of (depth - 2) stack)
  texts_assigned depth stack left right old new d h h2 er el e step =
      both_assigned depth stack left right h h2 er el ∙ ap (after_step (values_of (depth - 2) stack)) (ap (λ f. assign f left right) e ∙ step) ∙ step_done (values_of (depth - 2) stack) new left d

  pub texts_refused : (depth : ℕ) (stack : List Slot) (left right : TextVal) (old new : List Frame) (e : RunError) → 2 ≤ depth → depth ≤ length stack → value_of (slot_at stack (depth - 1)) ≡ Of (Text right) → value_of (slot_at stack (depth - 2)) ≡ Of (Text left) →
      o.store.frames ≡ old → assign old left right ≡ outcome new left (Err e) → assigns (values_of depth stack) ≡ stopping (RunFault e line) o
  texts_refused depth stack left right old new e h h2 er el same step =
      both_assigned depth stack left right h h2 er el ∙ ap (after_step (values_of (depth - 2) stack)) (ap (λ f. assign f left right) same ∙ step) ∙ step_refused (values_of (depth - 2) stack) new left e

  pub other_assigned : (frames : List Frame) (depth : ℕ) (stack : List Slot) → depth ≤ length stack → ReadsTexts two.Other frames depth stack → assigns (values_of depth stack) ≡ no_rule o
  other_assigned frames depth stack h2 q =
      elim q [
        | inl few ↦ few_assigned depth stack few
        | inr b ↦ elim b.1 [
          | inl up ↦ upper_not_assigned depth stack b.0 h2 up
          | inr d ↦ lower_not_assigned depth stack d.0 b.0 h2 d.1.0 d.2
        ]
      ]

abbrev is_ok_type : Result (Unit {0}) RunError → Type 0
is_ok_type (Ok d) = Unit {0}
is_ok_type (Err e) = ⊥

-- where it is refused, nothing has changed
refused_in : (w : Option RunError) (old : List Frame) (left : TextVal) (step : TextStep (Unit {0})) (e : RunError) → is_ok_type step.answer → (unless w old left step).answer ≡ Err e → (unless w old left step).frames ≡ old
refused_in None old left step e ok h = absurd (subst is_ok_type h ok)
refused_in (Some x) old left step e ok h = refl

pub refused_same : (old new : List Frame) (left right : TextVal) (e : RunError) → assign old left right ≡ outcome new left (Err e) → new ≡ old
refused_same old new left right e step = sym (ap (λ s. s.frames) step) ∙ refused_in (assign_refusal old left right) old left _ e tt (ap (λ s. s.answer) step)

-- an image stays one where frames keep their lengths
pub image_stays : (old new : List Frame) (image : TextVal) → KeepsFrames old new → IsImage old image → IsImage new image
image_stays old new image keeps h =
    let f = keeps image.text_frame h.made in
    record { made = f.made; variable = f.constant ∙ h.variable; whole = f.long ∙ h.whole; start = h.start; some = h.some; short = h.short; position = h.position; position_end = h.position_end }

-- ---- the parts with other texts

abbrev pub assigning_row : (line : ℕ) → World → Frames → Registers → List Slot → List working.Activation → Run Machine
assigning_row line o m r stack below = assigning plain line (values_of r.depth stack) o (λ w st. on w m (activation_at r stack) st (below_of below))

pub stands_texts : (l : Limits) (p : Storage) (r : Registers) (stack : List Slot) (below : List working.Activation) (before : Option (List ℕ)) (now : Outside) (o : World) (m : Frames) (new : List Frame) →
    Stands l p r stack below before now o m → Stands l (record p { texts = new }) r stack below before now (with_texts o new) m
stands_texts l p r stack below before now o m new s = record {
  stores = record {
    world = record { ticks = s.stores.world.ticks; words = s.stores.world.words; texts = refl; image = s.stores.world.image; written = s.stores.world.written };
    budget = s.stores.budget;
    frames = s.stores.frames;
    entered = s.stores.entered;
    arrays = s.stores.arrays;
    cells = s.stores.cells;
    elements = s.stores.elements;
    parks = s.stores.parks;
    members = s.stores.members;
    simulations = s.stores.simulations;
  };
  top = s.top;
  others = s.others;
}

pub refused_leaves : (l : Limits) (line : ℕ) (p : Storage) (r : Registers) (stack : List Slot) (below : List working.Activation) (before : Option (List ℕ)) (now : Outside) (o : World) (m : Frames) (new : List Frame) (e : RunError) →
    Stands l p r stack below before now o m → o.store.frames ≡ new → Leaves (flow.Fault e) l line (record p { texts = new }) r stack below before now (stopping (RunFault e line) o)
unfolding stopping Leaves
refused_leaves l line p r stack below before now o m new e s same =
    (refl, (o, record { ticks = s.stores.world.ticks; words = s.stores.world.words; texts = same; image = s.stores.world.image; written = s.stores.world.written }, refl))
