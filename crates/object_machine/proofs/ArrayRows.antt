-- Rows on arrays.
use Rattle.std.proofs.Common.{◌≡◌, ℕ, zero, suc, ◌+◌, ◌*◌, ◌<◌, ◌≤◌, ◌⊎◌, inl, inr, List, [], ◌∷◌, ◌++◌, length, reverse, map, take, set, sym, subst, refl, ap, ◌∙◌, arith, get_or-set_same, get_or-set_other}
use Rattle.std.proofs.lemmas.List.{reverse-append, take_more_set}
use Rattle.std.proofs.Math.Seq.{take-suc}
use Rattle.std.specs.Prelude.{ℤ, Bool, true, false, Option, Some, None, Ok, Err}
use Rattle.sim_base.specs.declared.limits.Limits.{Limits}
use Rattle.sim_base.specs.declared.run_error.RunError.{RunError}
use Rattle.sim_values.specs.declared.kind.Kind.{Kind}
use Rattle.sim_values.specs.Words.{array_words}
use Rattle.sim_code.specs.Arrays.{added, copying_array, live_array, making_array, pairs, with_array, words_of_array}
use Rattle.sim_code.specs.Events.{computing, having, no_rule, stopping, taking}
use Rattle.sim_code.specs.Instances.{Place}
use Rattle.sim_code.specs.Machine.{Frames, Machine, Value, value_at}
use Rattle.sim_code.specs.Outcome.{ArrayOf, Run, RunFault, StorageExhausted, World}
use Rattle.frame_arena.specs.declared.slot.Slot.{Slot}
use Rattle.frame_arena.specs.declared.frames.Frame.{Frame}
use Rattle.frame_arena.specs.Arrays.{AllLeadArrays, ArraysAfter, ArraysOf, ElementsLead, HoldsArrays, KeepLeading, KeepLeadingAfter, RegionOf, SlotLeadsArray, copied_array, kept_in, kept_world, made_array, words_if}
use Rattle.frame_arena.specs.Frames.{AllLead, SlotLeads, names_frame}
use Rattle.frame_arena.specs.Slots.{empty_slot, value_of}
use Rattle.frame_arena.specs.Stacks.{integers_from, slot_at, values_of}
use Rattle.object_machine.specs.declared.machine.Storage.{Storage}
use Rattle.object_machine.specs.declared.machine.Registers.{Registers}
use Rattle.object_machine.specs.declared.machine.Activation as working
use Rattle.object_machine.specs.declared.machine.Flow.TheVariants as flow
use Rattle.object_machine.specs.Arrayed.{value_there}
use Rattle.object_machine.specs.Standing.{Leaves, Outside, Stands}
use Rattle.object_machine.proofs.Parks.{parks_later}

-- ---- stacks

pub one_more : (at : ℕ) (stack : List Slot) → at < length stack → values_of (suc at) stack ≡ value_of (slot_at stack at) ∷ values_of at stack
one_more at stack h =
    ap (λ l. map value_of (reverse l)) (take-suc stack at empty_slot h) ∙ ap (map value_of) (reverse-append (take at stack) (slot_at stack at ∷ []))

pub none_at : (stack : List Slot) → values_of 0 stack ≡ []
none_at [] = refl
none_at (x ∷ xs) = refl

-- the last value and those before it
pub top_at : (depth at : ℕ) (stack : List Slot) → at + 1 ≡ depth → depth ≤ length stack → value_of (slot_at stack at) ∷ values_of at stack ≡ values_of depth stack
top_at depth at stack e h =
    let e2 : suc at ≡ depth = omega (arith, e) in
    sym (one_more at stack (omega (arith, e, h))) ∙ ap (λ n. values_of n stack) e2

-- a value that is written in the place of the last one
pub put_at : (depth at : ℕ) (stack : List Slot) (s : Slot) → at + 1 ≡ depth → depth ≤ length stack → value_of s ∷ values_of at stack ≡ values_of depth (set stack at s)
put_at depth at stack s e h =
    sym (ap (λ l. map value_of (reverse l)) (take_more_set stack at s (omega (arith, e, h))) ∙ ap (map value_of) (reverse-append (take at stack) (s ∷ []))) ∙ ap (λ n. values_of n (set stack at s)) e

same_or_not : (a b : ℕ) → (a ≡ b) ⊎ (a ≡ b → ⊥)
same_or_not zero zero = inl refl
same_or_not zero (suc b) = inr (λ e. omega (arith, e))
same_or_not (suc a) zero = inr (λ e. omega (arith, e))
same_or_not (suc a) (suc b) = elim (same_or_not a b) [ inl e ↦ inl (ap suc e) | inr n ↦ inr (λ e. n (omega (arith, e))) ]

all_set : (P : Slot → Type 0) (slots : List Slot) (at : ℕ) (s : Slot) → at < length slots → ((q : ℕ) → P (slot_at slots q)) → P s → (q : ℕ) → P (slot_at (set slots at s) q)
all_set P slots at s h all here q =
    elim (same_or_not q at) [
      | inl e ↦ subst P (sym (ap (slot_at (set slots at s)) e ∙ get_or-set_same slots at s empty_slot h)) here
      | inr ne ↦ subst P (sym (get_or-set_other slots at q s empty_slot ne)) (all q)
    ]

pub lead_put : (frames : List Frame) (m : Frames) (slots : List Slot) (at : ℕ) (s : Slot) → at < length slots → AllLead frames m slots → SlotLeads frames m s → AllLead frames m (set slots at s)
lead_put frames m slots at s h all here = all_set (λ z. SlotLeads frames m z) slots at s h all here

pub lead_arrays_put : (regions : List RegionOf) (arrays : List ArrayOf) (slots : List Slot) (at : ℕ) (s : Slot) → at < length slots → AllLeadArrays regions arrays slots → SlotLeadsArray regions arrays s → AllLeadArrays regions arrays (set slots at s)
lead_arrays_put regions arrays slots at s h all here = all_set (λ z. SlotLeadsArray regions arrays z) slots at s h all here

-- ---- values at addresses

module _ (o : World) (m : Frames) (F : Value → Run Machine) where
  pub fetched_none : (w : Option (Place ℕ ℕ)) → None ≡ value_there o m w → having w o (λ place. having (value_at o m place) o F) ≡ no_rule o
  unfolding having
  fetched_none None e = refl
  fetched_none (Some p) e = ap (λ x. having x o F) (sym e)

  pub fetched_some : (w : Option (Place ℕ ℕ)) (v : Value) → Some v ≡ value_there o m w → having w o (λ place. having (value_at o m place) o F) ≡ F v
  unfolding having
  fetched_some None v e = absurd (no_some (sym e))
    where
      some_type : Option Value → Type 0
      some_type None = Unit {0}
      some_type (Some x) = ⊥

      no_some : ◌≡◌ {A = Option Value} None (Some v) → ⊥
      no_some e = subst some_type e tt
  fetched_some (Some p) v e = ap (λ x. having x o F) (sym e)

-- ---- other arrays

pub all_kept : (old new : ArraysOf) (list list2 : List ArrayOf) (slots : List Slot) → KeepLeading old list new list2 → AllLeadArrays old.regions list slots → AllLeadArrays new.regions list2 slots
all_kept old new list list2 slots keeps all at names = keeps _ (all at names)

-- the parts with other arrays stand for the world with another list of arrays
pub stands_arrays : (l : Limits) (p : Storage) (r : Registers) (stack : List Slot) (below : List working.Activation) (before : Option (List ℕ)) (now : Outside) (o : World) (m : Frames) (arrays : ArraysOf) (list : List ArrayOf) →
    Stands l p r stack below before now o m → HoldsArrays arrays list → KeepLeading p.arrays o.arrays arrays list → ElementsLead p.frames.items m arrays.regions →
    Stands l (record p { arrays = arrays }) r stack below before now (record o { arrays = list }) m
stands_arrays l p r stack below before now o m arrays list s holds keeps elements = record {
  stores = record {
    world = record { ticks = s.stores.world.ticks; words = s.stores.world.words; texts = s.stores.world.texts; image = s.stores.world.image; written = s.stores.world.written };
    budget = s.stores.budget;
    frames = s.stores.frames;
    entered = s.stores.entered;
    arrays = holds;
    cells = all_kept p.arrays arrays o.arrays list p.cells.items keeps s.stores.cells;
    elements = elements;
    parks = parks_later p.frames.items p.parks.items m m p.arrays.regions arrays.regions o.arrays list refl
        (λ r stack w. record { home = w.home; slots = w.slots; arrays_lead = all_kept p.arrays arrays o.arrays list stack keeps w.arrays_lead }) s.stores.parks;
    members = s.stores.members;
    simulations = s.stores.simulations;
  };
  top = record { home = s.top.home; slots = s.top.slots; arrays_lead = all_kept p.arrays arrays o.arrays list stack keeps s.top.arrays_lead };
  others = λ k t e. record {
    home = (s.others k t e).home;
    slots = (s.others k t e).slots;
    arrays_lead = all_kept p.arrays arrays o.arrays list t.stack.items keeps (s.others k t e).arrays_lead;
  };
}

pub off : true ≡ false → ⊥
off e = subst truth_type e tt
  where
    truth_type : Bool → Type 0
    truth_type true = Unit {0}
    truth_type false = ⊥

-- an array is kept: the world in which it is, and what stands for it; or there is none
pub record Keeping (l : Limits) (p p2 : Storage) (r : Registers) (stack : List Slot) (below : List working.Activation) (before : Option (List ℕ)) (now : Outside) (o : World) (m : Frames) (n : ℕ) : Type 0 where
  pub world : World
  pub there : kept_world o n ≡ Some world
  pub stands : Stands l p2 r stack below before now world m

module _ (l : Limits) (p : Storage) (r : Registers) (stack : List Slot) (below : List working.Activation) (before : Option (List ℕ)) (now : Outside) (o : World) (m : Frames) (arrays : ArraysOf) (n : ℕ) (s : Stands l p r stack below before now o m)
    (elements : ElementsLead p.frames.items m arrays.regions) where
  keeping_in : (w : Option ArrayOf) → live_array o n ≡ w → ArraysAfter true arrays (kept_in o n w) → KeepLeadingAfter p.arrays o.arrays arrays (kept_in o n w) → Keeping l p (record p { arrays = arrays }) r stack below before now o m n
  keeping_in None e a k = absurd (off a)
  keeping_in (Some x) e a k = record {
    world = with_array o n (record x { kept = true });
    there = ap (kept_in o n) e;
    stands = stands_arrays l p r stack below before now o m arrays (with_array o n (record x { kept = true })).arrays s a.1 k elements;
  }

  pub keeping : ArraysAfter true arrays (kept_world o n) → KeepLeadingAfter p.arrays o.arrays arrays (kept_world o n) → Keeping l p (record p { arrays = arrays }) r stack below before now o m n
  keeping a k = keeping_in (live_array o n) refl a k

  keeping_none_in : (w : Option ArrayOf) → ArraysAfter false arrays (kept_in o n w) → kept_in o n w ≡ None
  keeping_none_in None a = refl
  keeping_none_in (Some x) a = absurd (off (sym a.0))

  pub keeping_none : ArraysAfter false arrays (kept_world o n) → kept_world o n ≡ None
  keeping_none a = keeping_none_in (live_array o n) a

-- ---- bounds on a stack

pub pairs_more : (stack : List Slot) (k first : ℕ) → pairs (integers_from stack first (2 * suc k)) ≡ pairs (integers_from stack first (2 * k)) ++ ((slot_at stack (first + 2 * k)).«data», (slot_at stack (first + 2 * k + 1)).«data») ∷ []
pairs_more stack zero first =
    let e : first + 2 * 0 ≡ first = omega arith in
    let e1 : suc first ≡ first + 2 * 0 + 1 = omega arith in
    ap (λ n. ((slot_at stack first).«data», (slot_at stack n).«data») ∷ []) e1 ∙ ap (λ n. ((slot_at stack n).«data», (slot_at stack (first + 2 * 0 + 1)).«data») ∷ []) (sym e)
pairs_more stack (suc j) first =
    let e : 2 * suc (suc j) ≡ suc (suc (2 * suc j)) = omega arith in
    let e1 : 2 * suc j ≡ suc (suc (2 * j)) = omega arith in
    let e2 : suc (suc first) + 2 * j ≡ first + 2 * suc j = omega arith in
    ap (λ n. pairs (integers_from stack first n)) e
    ∙ ap (λ l. ((slot_at stack first).«data», (slot_at stack (suc first)).«data») ∷ l) (pairs_more stack j (suc (suc first)))
    ∙ ap (λ n. ((slot_at stack first).«data», (slot_at stack (suc first)).«data») ∷ (pairs (integers_from stack (suc (suc first)) (2 * j)) ++ ((slot_at stack n).«data», (slot_at stack (n + 1)).«data») ∷ [])) e2
    ∙ ap (λ n. pairs (integers_from stack first n) ++ ((slot_at stack (first + 2 * suc j)).«data», (slot_at stack (first + 2 * suc j + 1)).«data») ∷ []) (sym e1)

-- ---- new arrays

pub making_fault : (l : Limits) (line owner : ℕ) (kind : Kind) (bounds : List (ℤ × ℤ)) (o : World) (go : ℕ → World → Run Machine) (e : RunError) → array_words bounds ≡ Err e → making_array l line owner kind bounds o go ≡ stopping (RunFault e line) o
unfolding making_array computing
making_fault l line owner kind bounds o go e h =
    ap (λ w. computing line w o (λ wanted. taking l line wanted o (λ p. go (length p.arrays) (added p (made_array bounds kind owner))))) h

pub making_words : (l : Limits) (line owner : ℕ) (kind : Kind) (bounds : List (ℤ × ℤ)) (o : World) (go : ℕ → World → Run Machine) (wanted : ℕ) → array_words bounds ≡ Ok wanted →
    making_array l line owner kind bounds o go ≡ taking l line wanted o (λ p. go (length p.arrays) (added p (made_array bounds kind owner)))
unfolding making_array computing
making_words l line owner kind bounds o go wanted h =
    ap (λ w. computing line w o (λ wanted. taking l line wanted o (λ p. go (length p.arrays) (added p (made_array bounds kind owner))))) h

-- words are taken
pub stands_paid : (l : Limits) (p : Storage) (r : Registers) (stack : List Slot) (below : List working.Activation) (before : Option (List ℕ)) (now : Outside) (o : World) (m : Frames) (words wanted : ℕ) →
    Stands l p r stack below before now o m → words ≤ l.storage → Stands l (record p { words = words; wanted = wanted }) r stack below before now (record o { words = words }) m
stands_paid l p r stack below before now o m words wanted s h = record {
  stores = record {
    world = record { ticks = s.stores.world.ticks; words = refl; texts = s.stores.world.texts; image = s.stores.world.image; written = s.stores.world.written };
    budget = h;
    frames = s.stores.frames;
    entered = s.stores.entered;
    arrays = s.stores.arrays;
    cells = s.stores.cells;
    elements = s.stores.elements;
    parks = s.stores.parks;
    members = s.stores.members;
    simulations = s.stores.simulations;
  };
  top = s.top;
  others = s.others;
}

pub exhausted : (l : Limits) (line : ℕ) (p : Storage) (r r0 : Registers) (stack stack0 : List Slot) (below : List working.Activation) (before : Option (List ℕ)) (now : Outside) (o : World) (m : Frames) (wanted : ℕ) →
    Stands l p r0 stack0 below before now o m → Leaves flow.Exhausted l line (record p { wanted = wanted }) r stack below before now (stopping (StorageExhausted line p.words wanted) o)
unfolding stopping Leaves
exhausted l line p r r0 stack stack0 below before now o m wanted s =
    (refl, (o, record { ticks = s.stores.world.ticks; words = s.stores.world.words; texts = s.stores.world.texts; image = s.stores.world.image; written = s.stores.world.written }, refl))

pub lead_push : (frames : List Frame) (m : Frames) (slot : Slot) → names_frame slot.kind ≡ false → SlotLeads frames m slot
lead_push frames m slot e names = absurd (off (sym names ∙ e))

-- ---- copies

pub copying_none : (l : Limits) (line owner n : ℕ) (o : World) (go : ℕ → World → Run Machine) → live_array o n ≡ None → copying_array l line owner n o go ≡ no_rule o
unfolding copying_array having
copying_none l line owner n o go e = ap (λ w. having w o (λ a. taking l line (words_of_array a) o (λ p. go (length p.arrays) (added p (copied_array a owner))))) e

pub copying_some : (l : Limits) (line owner n : ℕ) (o : World) (go : ℕ → World → Run Machine) (a : ArrayOf) → live_array o n ≡ Some a → copying_array l line owner n o go ≡ taking l line (words_of_array a) o (λ p. go (length p.arrays) (added p (copied_array a owner)))
unfolding copying_array having
copying_some l line owner n o go a e = ap (λ w. having w o (λ a. taking l line (words_of_array a) o (λ p. go (length p.arrays) (added p (copied_array a owner))))) e

abbrev is_none_type : {A : Type 0} → Option A → Type 0
is_none_type None = Unit {0}
is_none_type (Some x) = ⊥

pub no_words : (w : Option ArrayOf) → None ≡ words_if w → w ≡ None
no_words None e = refl
no_words (Some a) e = absurd (subst is_none_type e tt)

pub record WordsOf (w : Option ArrayOf) (wanted : ℕ) : Type 0 where
  pub array : ArrayOf
  pub there : w ≡ Some array
  pub words : wanted ≡ words_of_array array

pub words_found : (w : Option ArrayOf) (wanted : ℕ) → Some wanted ≡ words_if w → WordsOf w wanted
words_found None wanted e = absurd (subst is_none_type (sym e) tt)
words_found (Some a) wanted e = record { array = a; there = refl; words = ap (or_none wanted) e }
  where
    or_none : ℕ → Option ℕ → ℕ
    or_none n None = n
    or_none n (Some k) = k
