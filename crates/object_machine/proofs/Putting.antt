-- Values that are put where an address leads.
use Rattle.std.proofs.Common.{◌≡◌, ℕ, zero, suc, ◌-◌, ◌+◌, ◌<◌, ◌≤◌, List, [], ◌∷◌, length, sym, refl, ap, ◌∙◌, arith}
use Rattle.std.specs.Prelude.{true, false, Option, Some, None, slice_set}
use Rattle.sim_base.specs.declared.limits.Limits.{Limits}
use Rattle.sim_values.specs.Plain.{Plain}
use Rattle.sim_code.specs.Arrays.{element, element_set, element_set_in, live_array, with_array}
use Rattle.sim_code.specs.Events.{having, image_set, no_rule, popping}
use Rattle.sim_code.specs.Instances.{CellPlace, ElementPlace, Place}
use Rattle.sim_code.specs.Machine.{Address, ArrayValue, Frames, Link, Machine, Of, ProcedureValue, ThunkValue, Value, cell_set, place_in, plain, variable_in}
use Rattle.sim_code.specs.Outcome.{ArrayOf, Run, World}
use Rattle.sim_code.specs.Code.{CodeOf}
use Rattle.sim_code.specs.Rows.{putting, storing}
use Rattle.frame_arena.specs.declared.slot.Slot.{Slot}
use Rattle.frame_arena.specs.declared.slot.SlotKind.{SlotKind}
use Rattle.frame_arena.specs.declared.slot.SlotKind.TheVariants as k
use Rattle.frame_arena.specs.Arrays.{ArraysAfter, ArraysOf, ElementsLead, KeepLeadingAfter}
use Rattle.frame_arena.specs.Slots.{count_of, is_plain, value_by, value_of}
use Rattle.frame_arena.specs.Stacks.{slot_at, values_of}
use Rattle.object_machine.specs.declared.machine.Storage.{Storage}
use Rattle.object_machine.specs.declared.machine.Registers.{Registers}
use Rattle.object_machine.specs.declared.machine.Activation as working
use Rattle.object_machine.specs.Standing.{Outside, Stands}
use Rattle.object_machine.proofs.ArrayRows.{none_at, off, stands_arrays, top_at}

module _ (o : World) (m : Frames) (K : List Value → World → Frames → Run Machine) where
  abbrev pub placed : Value → List Value → Value → Run Machine
  placed v rest address = having (place_in address) o (λ place. putting place v o m (K rest))

  pub put_other : (j : SlotKind) (s : Slot) (v : Value) (rest : List Value) → (j ≡ k.Cell → ⊥) → (j ≡ k.Element → ⊥) → (j ≡ k.Image → ⊥) → placed v rest (value_by j s) ≡ no_rule o
  unfolding having putting
  put_other k.Empty s v rest h h2 h3 = refl
  put_other k.Integer s v rest h h2 h3 = refl
  put_other k.Truth s v rest h h2 h3 = refl
  put_other k.Character s v rest h h2 h3 = refl
  put_other k.Text s v rest h h2 h3 = refl
  put_other k.Nothing s v rest h h2 h3 = refl
  put_other k.Object s v rest h h2 h3 = refl
  put_other k.Main s v rest h h2 h3 = refl
  put_other k.Link s v rest h h2 h3 = refl
  put_other k.Cell s v rest h h2 h3 = absurd (h refl)
  put_other k.Element s v rest h h2 h3 = absurd (h2 refl)
  put_other k.Image s v rest h h2 h3 = absurd (h3 refl)
  put_other k.Array s v rest h h2 h3 = refl
  put_other k.Procedure s v rest h h2 h3 = refl
  put_other k.Thunk s v rest h h2 h3 = refl

  class_cell : (j c n : ℕ) (v : Value) (rest : List Value) → (n ≡ 0 → ⊥) → putting (CellPlace j c n) v o m (K rest) ≡ no_rule o
  unfolding putting
  class_cell j c zero v rest h = absurd (h refl)
  class_cell j c (suc n) v rest h = refl

  class_element : (j c n : ℕ) (v : Value) (rest : List Value) → (n ≡ 0 → ⊥) → putting (ElementPlace j c n) v o m (K rest) ≡ no_rule o
  unfolding putting
  class_element j c zero v rest h = absurd (h refl)
  class_element j c (suc n) v rest h = refl

  having_place : (place : Place ℕ ℕ) (f : Place ℕ ℕ → Run Machine) → having (Some place) o f ≡ f place
  unfolding having
  having_place place f = refl

  pub cell_class : (s : Slot) (v : Value) (rest : List Value) → s.kind ≡ k.Cell → (s.class ≡ 0 → ⊥) → placed v rest (value_of s) ≡ no_rule o
  unfolding having
  cell_class s v rest e h = ap (λ j. placed v rest (value_by j s)) e ∙ class_cell (count_of s.«data») s.more s.class v rest h

  pub element_class : (s : Slot) (v : Value) (rest : List Value) → s.kind ≡ k.Element → (s.class ≡ 0 → ⊥) → placed v rest (value_of s) ≡ no_rule o
  unfolding having
  element_class s v rest e h = ap (λ j. placed v rest (value_by j s)) e ∙ class_element (count_of s.«data») s.more s.class v rest h

  pub put_image_is : (s : Slot) (v : Value) (rest : List Value) → s.kind ≡ k.Image → placed v rest (value_of s) ≡ having (plain v) o (λ p. having (image_set o s.more p) o (λ o. K rest o m))
  unfolding having putting
  put_image_is s v rest e = ap (λ j. placed v rest (value_by j s)) e

  pub put_cell_is : (s : Slot) (v : Value) (rest : List Value) → s.kind ≡ k.Cell → s.class ≡ 0 → placed v rest (value_of s) ≡ having (cell_set m (count_of s.«data») s.more v) o (λ m. K rest o m)
  unfolding having putting
  put_cell_is s v rest e e2 =
      ap (λ j. placed v rest (value_by j s)) e ∙ ap (λ n. putting (CellPlace (count_of s.«data») s.more n) v o m (K rest)) e2

  pub put_element_is : (s : Slot) (v : Value) (rest : List Value) → s.kind ≡ k.Element → s.class ≡ 0 → placed v rest (value_of s) ≡ having (plain v) o (λ p. having (element_set o (count_of s.«data») s.more p) o (λ o. K rest o m))
  unfolding having putting
  put_element_is s v rest e e2 =
      ap (λ j. placed v rest (value_by j s)) e ∙ ap (λ n. putting (ElementPlace (count_of s.«data») s.more n) v o m (K rest)) e2

-- ---- the row of a value that is put

module _ (code : CodeOf) (line : ℕ) (o : World) (m : Frames) (K : List Value → World → Frames → Run Machine) where
  abbrev pub stored_at : Value → List Value → Value → Run Machine
  stored_at v rest address = having (variable_in address) o (λ p. storing code line p v o m (K rest))

  abbrev pub put_row : List Value → Run Machine
  put_row values = popping values o (λ v st. popping st o (λ address st. stored_at v st address))

  two_put : (v a : Value) (rest : List Value) → put_row (v ∷ a ∷ rest) ≡ stored_at v rest a
  unfolding popping
  two_put v a rest = refl

  pub put_two : (depth : ℕ) (stack : List Slot) → 2 ≤ depth → depth ≤ length stack → put_row (values_of depth stack) ≡ stored_at (value_of (slot_at stack (depth - 2 + 1))) (values_of (depth - 2) stack) (value_of (slot_at stack (depth - 2)))
  put_two depth stack h h2 =
      ap put_row (sym (top_at depth (depth - 2 + 1) stack (omega (arith, h)) h2))
      ∙ ap (λ l. put_row (value_of (slot_at stack (depth - 2 + 1)) ∷ l)) (sym (top_at (depth - 2 + 1) (depth - 2) stack refl (omega (arith, h, h2))))
      ∙ two_put (value_of (slot_at stack (depth - 2 + 1))) (value_of (slot_at stack (depth - 2))) (values_of (depth - 2) stack)

  none_put : put_row [] ≡ no_rule o
  unfolding popping
  none_put = refl

  one_put : (v : Value) → put_row (v ∷ []) ≡ no_rule o
  unfolding popping
  one_put v = refl

  held_put : (stack : List Slot) → put_row (values_of 1 stack) ≡ no_rule o
  held_put [] = none_put
  held_put (x ∷ xs) = one_put (value_of x)

  pub put_few : (depth : ℕ) (stack : List Slot) → depth < 2 → put_row (values_of depth stack) ≡ no_rule o
  put_few zero stack h = ap put_row (none_at stack) ∙ none_put
  put_few (suc zero) stack h = held_put stack
  put_few (suc (suc n)) stack h = absurd (omega (arith, h))

pub not_plain : (v : Value) → is_plain v ≡ false → None ≡ plain v
not_plain (Of p) h = absurd (off h)
not_plain (Link j) h = refl
not_plain (Address p) h = refl
not_plain (ArrayValue a) h = refl
not_plain (ProcedureValue k j) h = refl
not_plain (ThunkValue k j) h = refl

pub record PlainOf (v : Value) : Type 0 where
  pub value : Plain
  pub is : v ≡ Of value

pub some_plain : (v : Value) → is_plain v ≡ true → PlainOf v
some_plain (Of p) h = record { value = p; is = refl }
some_plain (Link j) h = absurd (off (sym h))
some_plain (Address p) h = absurd (off (sym h))
some_plain (ArrayValue a) h = absurd (off (sym h))
some_plain (ProcedureValue k j) h = absurd (off (sym h))
some_plain (ThunkValue k j) h = absurd (off (sym h))

-- an element is set: the world in which it is, and what stands for it; or there is none
pub record Setting (l : Limits) (p2 : Storage) (r : Registers) (stack : List Slot) (below : List working.Activation) (before : Option (List ℕ)) (now : Outside) (o : World) (m : Frames) (n i : ℕ) (v : Plain) : Type 0 where
  pub world : World
  pub there : element_set o n i v ≡ Some world
  pub stands : Stands l p2 r stack below before now world m

module _ (l : Limits) (p : Storage) (r : Registers) (stack : List Slot) (below : List working.Activation) (before : Option (List ℕ)) (now : Outside) (o : World) (m : Frames) (arrays : ArraysOf) (n i : ℕ) (v : Plain) (s : Stands l p r stack below before now o m)
    (elements : ElementsLead p.frames.items m arrays.regions) where
  setting_in : (w : Option ArrayOf) (w2 : Option Plain) → live_array o n ≡ w → element o n i ≡ w2 → ArraysAfter true arrays (element_set_in o n i v w w2) → KeepLeadingAfter p.arrays o.arrays arrays (element_set_in o n i v w w2) →
      Setting l (record p { arrays = arrays }) r stack below before now o m n i v
  setting_in None w2 e e2 a q = absurd (off a)
  setting_in (Some x) None e e2 a q = absurd (off a)
  setting_in (Some x) (Some y) e e2 a q =
      let w : World = with_array o n (record x { elements = slice_set x.elements i v }) in
      record {
        world = w;
        there = ap (λ z. element_set_in o n i v z (element o n i)) e ∙ ap (λ z. element_set_in o n i v (Some x) z) e2;
        stands = stands_arrays l p r stack below before now o m arrays w.arrays s a.1 q elements;
      }

  pub setting : ArraysAfter true arrays (element_set o n i v) → KeepLeadingAfter p.arrays o.arrays arrays (element_set o n i v) → Setting l (record p { arrays = arrays }) r stack below before now o m n i v
  setting a q = setting_in (live_array o n) (element o n i) refl refl a q

  setting_none_in : (w : Option World) → ArraysAfter false arrays w → w ≡ None
  setting_none_in None a = refl
  setting_none_in (Some x) a = absurd (off (sym a.0))

  pub setting_none : ArraysAfter false arrays (element_set o n i v) → element_set o n i v ≡ None
  setting_none a = setting_none_in (element_set o n i v) a
