-- All arrays among actual parameters go over to an object or a prefixed block.
use Rattle.std.proofs.Common.{◌≡◌, ℕ, ◌-◌, ◌+◌, ◌<◌, ◌≤◌, List, [], sym, subst, ap, ◌∙◌, arith}
use Rattle.sim_code.specs.Arrays.{handed_over}
use Rattle.sim_code.specs.Machine.{Frames, arrays_among, with_array_of}
use Rattle.sim_code.specs.Outcome.{World}
use Rattle.frame_arena.specs.declared.slot.Slot.{Slot}
use Rattle.frame_arena.specs.declared.frames.Frame.{Frame}
use Rattle.frame_arena.specs.Arrays.{AllLeadArrays, ArraysOf, ElementsLead, HoldsArrays, KeepLeading, SlotLeadsArray}
use Rattle.frame_arena.specs.Slots.{value_of}
use Rattle.frame_arena.specs.Stacks.{slot_at, values_from}
use Rattle.object_machine.proofs.Handovers.{done_with, values_at, with_more}

-- as far as some
pub record HandingAll (old now : ArraysOf) (stack : List Slot) (at count owner place : ℕ) (o : World) : Type 0 where
  pub world : World
  pub holds : HoldsArrays now world.arrays
  pub leading : KeepLeading old o.arrays now world.arrays
  pub rest : handed_over owner (arrays_among (values_from stack (at + place) (count - place))) world ≡ handed_over owner (arrays_among (values_from stack at count)) o

abbrev pub HandedAll : (old now : ArraysOf) (stack : List Slot) (at count owner place : ℕ) → Type 0
HandedAll old now stack at count owner place =
    ((o : World) → HoldsArrays old o.arrays → AllLeadArrays old.regions o.arrays stack → HandingAll old now stack at count owner place o)
    × ((frames : List Frame) (m : Frames) → ElementsLead frames m old.regions → ElementsLead frames m now.regions)

pub all_first : (a : ArraysOf) (stack : List Slot) (at count owner : ℕ) → HandedAll a a stack at count owner 0
all_first a stack at count owner = (
  λ o h lead.
      let e : at + 0 ≡ at = omega arith in
      let e2 : count - 0 ≡ count = omega arith in
      record {
        world = o;
        holds = h;
        leading = λ r l. l;
        rest = ap (λ n. handed_over owner (arrays_among (values_from stack n (count - 0))) o) e ∙ ap (λ n. handed_over owner (arrays_among (values_from stack at n)) o) e2;
      },
  λ frames m all. all,
)

pub all_next : (old now new : ArraysOf) (stack : List Slot) (at count owner place : ℕ) → HandedAll old now stack at count owner place → place < count →
    ((o : World) → HoldsArrays now o.arrays → SlotLeadsArray now.regions o.arrays (slot_at stack (at + place)) → HoldsArrays new (handed_over owner (with_array_of (value_of (slot_at stack (at + place))) []) o).arrays) →
    ((o : World) → HoldsArrays now o.arrays → SlotLeadsArray now.regions o.arrays (slot_at stack (at + place)) → KeepLeading now o.arrays new (handed_over owner (with_array_of (value_of (slot_at stack (at + place))) []) o).arrays) →
    ((frames : List Frame) (m : Frames) → ElementsLead frames m now.regions → ElementsLead frames m new.regions) → HandedAll old new stack at count owner (place + 1)
all_next old now new stack at count owner place h there holds leads elements = (
  λ o ho lead.
      let g = h.0 o ho lead in
      let slot = slot_at stack (at + place) in
      let v = value_of slot in
      let led : SlotLeadsArray now.regions g.world.arrays slot = λ names. g.leading _ (lead (at + place) names) in
      record {
        world = handed_over owner (with_array_of v []) g.world;
        holds = holds g.world g.holds led;
        leading = λ r l. leads g.world g.holds led r (g.leading r l);
        rest =
            sym (ap (λ l. handed_over owner (arrays_among l) g.world) (values_at stack at count place there)
            ∙ with_more owner v (arrays_among (values_from stack (at + (place + 1)) (count - (place + 1)))) g.world)
            ∙ g.rest;
      },
  λ frames m all. elements frames m (h.1 frames m all),
)

module _ (old now : ArraysOf) (stack : List Slot) (at count owner place : ℕ) (h : HandedAll old now stack at count owner place) (all : count ≤ place) (o : World) (ho : HoldsArrays old o.arrays) (lead : AllLeadArrays old.regions o.arrays stack) where
  abbrev last : HandingAll old now stack at count owner place o
  last = h.0 o ho lead

  none_left : values_from stack (at + place) (count - place) ≡ []
  none_left = let e : count - place ≡ 0 = omega (arith, all) in ap (λ n. values_from stack (at + place) n) e

  same_world : last.world ≡ handed_over owner (arrays_among (values_from stack at count)) o
  same_world = sym (ap (λ l. handed_over owner (arrays_among l) last.world) none_left ∙ done_with owner last.world) ∙ last.rest

  pub all_handed : HoldsArrays now (handed_over owner (arrays_among (values_from stack at count)) o).arrays
  all_handed = subst (λ w. HoldsArrays now w.arrays) same_world last.holds

  pub all_lead : KeepLeading old o.arrays now (handed_over owner (arrays_among (values_from stack at count)) o).arrays
  all_lead = subst (λ w. KeepLeading old o.arrays now w.arrays) same_world last.leading
