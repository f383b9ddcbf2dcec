use Rattle.std.proofs.Common.{rules, to_z, of_z, w64, ◌≡◌, ℕ, List, ◌∙◌, ap, sym, subst, refl}
use Rattle.sim_code.specs.Events.{having}
use Rattle.sim_code.specs.Machine.{Machine, cell_at, Value, on, cell_set, number, level}
use Rattle.sim_code.specs.Outcome.{Run}
use Rattle.frame_arena.specs.Stacks.{values_of}
use Rattle.object_machine.specs.Standing.{Obeys, activation_at, below_of}
use Rattle.object_machine.proofs.Going.{along, no_rule_in}
use Rattle.std.specs.Prelude.{true, false}
use Rattle.frame_arena.specs.Frames.{Holds, HoldsAfter, Leads, LeadsAfter, SlotLeads}
use Rattle.frame_arena.specs.Slots.{value_of}
use Rattle.object_machine.proofs.Places.{Then, no_frame, no_number, at_cell, write_on, write_off}
use Rattle.frame_arena.specs.Stacks.{slot_at}
use Rattle.frame_arena.specs.Arrays.{AllLeadArrays}
use Rattle.object_machine.proofs.cells.store.Goals as goal

pub returns-in_default-clause-row : goal.returns-in_default-clause-row
unfolding Obeys
returns-in_default-clause-row c l line p p2 below now same e e2 e3 before o m s =
    let go : Value → List Value → Run Machine = λ v st. cell_at m (activation_at c.args.regs.now c.args.stack.now) c.args.level c.args.cell o (λ j k. having (cell_set m j k v) o (λ m2. on o m2 (activation_at c.args.regs.now c.args.stack.now) st (below_of below))) in
    no_rule_in l line p p2 below before now _ _ _ _ o m s (c.in_default.ensures.row o go)

pub returns-in_default-level_span-clause-row : goal.returns-in_default-level_span-clause-row
unfolding Obeys
returns-in_default-level_span-clause-row c l line p p2 below now same e e2 e3 before o m s =
    let elevel : to_z w64 (of_z w64 c.args.level) ≡ c.args.level = search rules in
    let h : Holds c.args.frames.now p.cells.items m = subst (λ v. Holds v p.cells.items m) e s.stores.frames in
    let led : Leads c.args.frames.now m c.args.regs.now.home = subst (λ v. Leads v m c.args.regs.now.home) e s.top.home in
    let go : Value → List Value → Run Machine = λ v st. cell_at m (activation_at c.args.regs.now c.args.stack.now) c.args.level c.args.cell o (λ j k. having (cell_set m j k v) o (λ m2. on o m2 (activation_at c.args.regs.now c.args.stack.now) st (below_of below))) in
    let gi : ℕ → ℕ → Run Machine = λ j k. having (cell_set m j k (value_of (slot_at c.args.stack.now c.in-Some.at))) o (λ m2. on o m2 (activation_at c.args.regs.now c.args.stack.now) (values_of c.in-Some.at c.args.stack.now) (below_of below)) in
    no_rule_in l line p p2 below before now _ _ _ _ o m s (c.in-Some.ensures.row o go ∙ no_frame m (activation_at c.args.regs.now c.args.stack.now) c.args.level c.args.cell o gi (ap (λ z. level m (activation_at c.args.regs.now c.args.stack.now) z o (Then m (activation_at c.args.regs.now c.args.stack.now) c.args.level c.args.cell o gi)) (sym elevel) ∙ c.in_default-level_span.ensures.row p.cells.items m (activation_at c.args.regs.now c.args.stack.now) o (Then m (activation_at c.args.regs.now c.args.stack.now) c.args.level c.args.cell o gi) h led refl))

pub returns-in_default-index-clause-row : goal.returns-in_default-index-clause-row
unfolding Obeys
returns-in_default-index-clause-row c l line p p2 below now same e e2 e3 before o m s =
    let elevel : to_z w64 (of_z w64 c.args.level) ≡ c.args.level = search rules in
    let h : Holds c.args.frames.now p.cells.items m = subst (λ v. Holds v p.cells.items m) e s.stores.frames in
    let led : Leads c.args.frames.now m c.args.regs.now.home = subst (λ v. Leads v m c.args.regs.now.home) e s.top.home in
    let ecell : to_z w64 (of_z w64 c.args.cell) ≡ c.args.cell = search rules in
    let go : Value → List Value → Run Machine = λ v st. cell_at m (activation_at c.args.regs.now c.args.stack.now) c.args.level c.args.cell o (λ j k. having (cell_set m j k v) o (λ m2. on o m2 (activation_at c.args.regs.now c.args.stack.now) st (below_of below))) in
    let gi : ℕ → ℕ → Run Machine = λ j k. having (cell_set m j k (value_of (slot_at c.args.stack.now c.in-Some.at))) o (λ m2. on o m2 (activation_at c.args.regs.now c.args.stack.now) (values_of c.in-Some.at c.args.stack.now) (below_of below)) in
    no_rule_in l line p p2 below before now _ _ _ _ o m s (c.in-Some.ensures.row o go ∙ no_number m (activation_at c.args.regs.now c.args.stack.now) c.args.level c.args.cell o gi c.in-Some-level_span.span.number (ap (λ z. level m (activation_at c.args.regs.now c.args.stack.now) z o (Then m (activation_at c.args.regs.now c.args.stack.now) c.args.level c.args.cell o gi)) (sym elevel) ∙ c.in-Some-level_span.ensures.row p.cells.items m (activation_at c.args.regs.now c.args.stack.now) o (Then m (activation_at c.args.regs.now c.args.stack.now) c.args.level c.args.cell o gi) h led refl) (c.in_default-index.ensures ∙ ap number ecell))

pub returns-then-hold_in-clause-row : goal.returns-then-hold_in-clause-row
unfolding Obeys
returns-then-hold_in-clause-row c l line p p2 below now same e e2 e3 before o m s =
    let elevel : to_z w64 (of_z w64 c.args.level) ≡ c.args.level = search rules in
    let h : Holds c.args.frames.now p.cells.items m = subst (λ v. Holds v p.cells.items m) e s.stores.frames in
    let led : Leads c.args.frames.now m c.args.regs.now.home = subst (λ v. Leads v m c.args.regs.now.home) e s.top.home in
    let ecell : to_z w64 (of_z w64 c.args.cell) ≡ c.args.cell = search rules in
    let go : Value → List Value → Run Machine = λ v st. cell_at m (activation_at c.args.regs.now c.args.stack.now) c.args.level c.args.cell o (λ j k. having (cell_set m j k v) o (λ m2. on o m2 (activation_at c.args.regs.now c.args.stack.now) st (below_of below))) in
    let gi : ℕ → ℕ → Run Machine = λ j k. having (cell_set m j k (value_of (slot_at c.args.stack.now c.in-Some.at))) o (λ m2. on o m2 (activation_at c.args.regs.now c.args.stack.now) (values_of c.in-Some.at c.args.stack.now) (below_of below)) in
    let led_slot : SlotLeads c.args.frames.now m (slot_at c.args.stack.now c.in-Some.at) = subst (λ v. SlotLeads v m (slot_at c.args.stack.now c.in-Some.at)) e (s.top.slots c.in-Some.at) in
    let j = c.in-Some-level_span.span.number in
    let k = c.in-Some-index.number in
    let eq = c.in-Some.ensures.row o go ∙ at_cell m (activation_at c.args.regs.now c.args.stack.now) c.args.level c.args.cell o gi j k (ap (λ z. level m (activation_at c.args.regs.now c.args.stack.now) z o (Then m (activation_at c.args.regs.now c.args.stack.now) c.args.level c.args.cell o gi)) (sym elevel) ∙ c.in-Some-level_span.ensures.row p.cells.items m (activation_at c.args.regs.now c.args.stack.now) o (Then m (activation_at c.args.regs.now c.args.stack.now) c.args.level c.args.cell o gi) h led refl) (c.in-Some-index.ensures ∙ ap number ecell) in
    let v = value_of (slot_at c.args.stack.now c.in-Some.at) in
    let q = cell_set m j k v in
    let after : HoldsAfter true c.args.frames.now c.hold_in.new.cells q = c.if-hold_in.ensures.holds c.args.frames.now m (subst (λ v. Holds c.args.frames.now v m) e2 h) c.in-Some-level_span.ensures.span led_slot in
    along l line p2 below before now _ _ _ _ _ eq
    (write_on l line p p2 same below before now c.args.regs.now _ c.args.stack.now o m j k c.in-Some.at v q refl
    (subst (λ f. HoldsAfter true f p2.cells.items q) (sym e) (subst (λ x. HoldsAfter true c.args.frames.now x q) (sym e3) after))
    (λ f lf. subst (λ w. LeadsAfter w q f) (sym e) (c.hold_in.ensures.leads c.args.frames.now m v f (subst (λ w. Leads w m f) e lf)))
    (subst (λ x. AllLeadArrays p.arrays.regions o.arrays x) (sym e3) (c.hold_in.ensures.arrays p.arrays.regions o.arrays (subst (λ x. AllLeadArrays p.arrays.regions o.arrays x) e2 s.stores.cells) (s.top.arrays_lead c.in-Some.at)))
    s (refl, refl, refl) refl refl)

pub returns-clause-row : goal.returns-clause-row
unfolding Obeys
returns-clause-row c l line p p2 below now same e e2 e3 before o m s =
    let elevel : to_z w64 (of_z w64 c.args.level) ≡ c.args.level = search rules in
    let h : Holds c.args.frames.now p.cells.items m = subst (λ v. Holds v p.cells.items m) e s.stores.frames in
    let led : Leads c.args.frames.now m c.args.regs.now.home = subst (λ v. Leads v m c.args.regs.now.home) e s.top.home in
    let ecell : to_z w64 (of_z w64 c.args.cell) ≡ c.args.cell = search rules in
    let go : Value → List Value → Run Machine = λ v st. cell_at m (activation_at c.args.regs.now c.args.stack.now) c.args.level c.args.cell o (λ j k. having (cell_set m j k v) o (λ m2. on o m2 (activation_at c.args.regs.now c.args.stack.now) st (below_of below))) in
    let gi : ℕ → ℕ → Run Machine = λ j k. having (cell_set m j k (value_of (slot_at c.args.stack.now c.in-Some.at))) o (λ m2. on o m2 (activation_at c.args.regs.now c.args.stack.now) (values_of c.in-Some.at c.args.stack.now) (below_of below)) in
    let led_slot : SlotLeads c.args.frames.now m (slot_at c.args.stack.now c.in-Some.at) = subst (λ v. SlotLeads v m (slot_at c.args.stack.now c.in-Some.at)) e (s.top.slots c.in-Some.at) in
    let j = c.in-Some-level_span.span.number in
    let k = c.in-Some-index.number in
    let eq = c.in-Some.ensures.row o go ∙ at_cell m (activation_at c.args.regs.now c.args.stack.now) c.args.level c.args.cell o gi j k (ap (λ z. level m (activation_at c.args.regs.now c.args.stack.now) z o (Then m (activation_at c.args.regs.now c.args.stack.now) c.args.level c.args.cell o gi)) (sym elevel) ∙ c.in-Some-level_span.ensures.row p.cells.items m (activation_at c.args.regs.now c.args.stack.now) o (Then m (activation_at c.args.regs.now c.args.stack.now) c.args.level c.args.cell o gi) h led refl) (c.in-Some-index.ensures ∙ ap number ecell) in
    let v = value_of (slot_at c.args.stack.now c.in-Some.at) in
    let q = cell_set m j k v in
    let after : HoldsAfter false c.args.frames.now c.hold_in.new.cells q = c.if-hold_in.ensures.holds c.args.frames.now m (subst (λ v. Holds c.args.frames.now v m) e2 h) c.in-Some-level_span.ensures.span led_slot in
    along l line p2 below before now _ _ _ _ _ eq
    (write_off l line p p2 same below before now c.args.regs.now _ c.args.stack.now o m c.hold_in.new.cells q _ (subst (λ f. HoldsAfter false f c.hold_in.new.cells q) (sym e) after) s)
