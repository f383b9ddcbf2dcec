use Rattle.std.proofs.Common.{rules, to_z, of_z, w64, ◌≡◌, ◌∷◌, ◌<◌, ℕ, List, length, set, length-set, ap, sym, subst, refl, arith, ◌∙◌}
use Rattle.sim_base.specs.declared.run_error.RunError.TheVariants.{AccessThroughNone}
use Rattle.sim_code.specs.Events.{having, when}
use Rattle.sim_code.specs.Instances.{CellPlace}
use Rattle.sim_code.specs.Machine.{Address, Machine, Value, has_cell, index, on}
use Rattle.sim_code.specs.Outcome.{Run}
use Rattle.frame_arena.specs.Frames.{Holds, Leads, SlotLeads}
use Rattle.frame_arena.specs.Slots.{value_of}
use Rattle.frame_arena.specs.Stacks.{slot_at, values_of}
use Rattle.object_machine.specs.Standing.{Leaves, Obeys, activation_at, below_of}
use Rattle.object_machine.proofs.ArrayRows.{lead_arrays_put, lead_put, put_at}
use Rattle.object_machine.proofs.ClassRows.{object_leads, object_of, object_popped, popping_object, with_reference}
use Rattle.object_machine.proofs.Going.{along, depth_goes_on, faults, no_rule_in}
use Rattle.object_machine.proofs.Scalars.{off}
use Rattle.object_machine.proofs.objects.attribute.Goals as goal

pub returns-in_default-clause-row : goal.returns-in_default-clause-row
unfolding Obeys
returns-in_default-clause-row c l line p below now e before o m s =
    let r = c.args.regs.now in
    let stack = c.args.stack.now in
    let K : List Value → Run Machine = λ st. on o m (activation_at r stack) st (below_of below) in
    let put : ℕ → List Value → ℕ → Run Machine = λ j st n. K (Address (CellPlace j n c.args.class) ∷ st) in
    let test : ℕ → List Value → ℕ → Run Machine = λ j st n. when (has_cell m j n) o (put j st n) in
    let go : ℕ → List Value → Run Machine = λ j st. index c.args.cell o (test j st) in
    no_rule_in l line p p below before now _ _ _ _ o m s (popping_object line (values_of r.depth stack) o go ∙ c.in_default.ensures.row o (object_of line o go))

pub returns-in_default-frame_cell-clause-row : goal.returns-in_default-frame_cell-clause-row
unfolding Obeys having
returns-in_default-frame_cell-clause-row c l line p below now e before o m s =
    let r = c.args.regs.now in
    let stack = c.args.stack.now in
    let K : List Value → Run Machine = λ st. on o m (activation_at r stack) st (below_of below) in
    let put : ℕ → List Value → ℕ → Run Machine = λ j st n. K (Address (CellPlace j n c.args.class) ∷ st) in
    let test : ℕ → List Value → ℕ → Run Machine = λ j st n. when (has_cell m j n) o (put j st n) in
    let go : ℕ → List Value → Run Machine = λ j st. index c.args.cell o (test j st) in
    let at = c.in-Some.at in
    let v = value_of (slot_at stack at) in
    let rest = values_of at stack in
    let begun = popping_object line (values_of r.depth stack) o go ∙ c.in-Some.ensures.row o (object_of line o go) ∙ object_popped line o go c.reference_in.result v rest c.reference_in.ensures.is in
    let en : to_z w64 (of_z w64 c.args.cell) ≡ c.args.cell = search rules in
    let object = c.in-Object.object in
    let found = begun ∙ ap (λ q. with_reference q line o (λ j. go j rest)) c.in-Object.is in
    let h : Holds c.args.frames.now p.cells.items m = subst (λ v. Holds v p.cells.items m) e s.stores.frames in
    let leads : Leads c.args.frames.now m object = object_leads c.args.frames.now m c.reference_in.result object c.in-Object.is (c.reference_in.ensures.leads c.args.frames.now m (subst (λ v. SlotLeads v m (slot_at stack at)) e (s.top.slots at))) in
    no_rule_in l line p p below before now _ _ _ _ o m s
    (found ∙ ap (λ z. index z o (test object.stamp rest)) (sym en) ∙ c.in_default-frame_cell.ensures.row p.cells.items m o (put object.stamp rest) h leads)

pub returns-then-object-clause-row : goal.returns-then-object-clause-row
unfolding Obeys Leaves
returns-then-object-clause-row c l line p below now e before o m s = tt

pub returns-else-object-clause-row : goal.returns-else-object-clause-row
unfolding Obeys having
returns-else-object-clause-row c l line p below now e before o m s =
    let r = c.args.regs.now in
    let stack = c.args.stack.now in
    let K : List Value → Run Machine = λ st. on o m (activation_at r stack) st (below_of below) in
    let put : ℕ → List Value → ℕ → Run Machine = λ j st n. K (Address (CellPlace j n c.args.class) ∷ st) in
    let test : ℕ → List Value → ℕ → Run Machine = λ j st n. when (has_cell m j n) o (put j st n) in
    let go : ℕ → List Value → Run Machine = λ j st. index c.args.cell o (test j st) in
    let at = c.in-Some.at in
    let v = value_of (slot_at stack at) in
    let rest = values_of at stack in
    let begun = popping_object line (values_of r.depth stack) o go ∙ c.in-Some.ensures.row o (object_of line o go) ∙ object_popped line o go c.reference_in.result v rest c.reference_in.ensures.is in
    let en : to_z w64 (of_z w64 c.args.cell) ≡ c.args.cell = search rules in
    let object = c.in-Object.object in
    let found = begun ∙ ap (λ q. with_reference q line o (λ j. go j rest)) c.in-Object.is in
    let slot = c.cell.result in
    let d = c.in-Some.ensures.shallower in
    let inside : at < length stack = let f = c.requires.fits in omega (arith, d, f) in
    let leads : Leads p.frames.items m object = object_leads p.frames.items m c.reference_in.result object c.in-Object.is (c.reference_in.ensures.leads p.frames.items m (s.top.slots at)) in
    let h : Holds c.args.frames.now p.cells.items m = subst (λ v. Holds v p.cells.items m) e s.stores.frames in
    let led : Leads c.args.frames.now m object = subst (λ v. Leads v m object) e leads in
    along l line p below before now _ _ _ _ _
    (found ∙ ap (λ z. index z o (test object.stamp rest)) (sym en) ∙ c.in-Some-frame_cell.ensures.row p.cells.items m o (put object.stamp rest) h led
    ∙ ap (λ w. K (w ∷ rest)) (sym c.cell.ensures.value) ∙ ap K (put_at r.depth at stack slot d c.requires.fits))
    (depth_goes_on l line p below before now r _ stack (set stack at slot) o m r.depth s (length-set stack at slot) (refl, refl, refl) refl refl
    (lead_put p.frames.items m stack at slot inside s.top.slots (c.cell.ensures.leads p.frames.items m leads))
    (lead_arrays_put p.arrays.regions o.arrays stack at slot inside s.top.arrays_lead (λ names. absurd (off (sym c.cell.ensures.no_array ∙ names)))))

pub returns-in-Main-clause-row : goal.returns-in-Main-clause-row
unfolding Obeys
returns-in-Main-clause-row c l line p below now e before o m s =
    let r = c.args.regs.now in
    let stack = c.args.stack.now in
    let K : List Value → Run Machine = λ st. on o m (activation_at r stack) st (below_of below) in
    let put : ℕ → List Value → ℕ → Run Machine = λ j st n. K (Address (CellPlace j n c.args.class) ∷ st) in
    let test : ℕ → List Value → ℕ → Run Machine = λ j st n. when (has_cell m j n) o (put j st n) in
    let go : ℕ → List Value → Run Machine = λ j st. index c.args.cell o (test j st) in
    let at = c.in-Some.at in
    let v = value_of (slot_at stack at) in
    let rest = values_of at stack in
    let begun = popping_object line (values_of r.depth stack) o go ∙ c.in-Some.ensures.row o (object_of line o go) ∙ object_popped line o go c.reference_in.result v rest c.reference_in.ensures.is in
    no_rule_in l line p p below before now _ _ _ _ o m s (begun ∙ ap (λ q. with_reference q line o (λ j. go j rest)) c.in-Main.is)

pub returns-in-IsNone-clause-row : goal.returns-in-IsNone-clause-row
unfolding Obeys
returns-in-IsNone-clause-row c l line p below now e before o m s =
    let r = c.args.regs.now in
    let stack = c.args.stack.now in
    let K : List Value → Run Machine = λ st. on o m (activation_at r stack) st (below_of below) in
    let put : ℕ → List Value → ℕ → Run Machine = λ j st n. K (Address (CellPlace j n c.args.class) ∷ st) in
    let test : ℕ → List Value → ℕ → Run Machine = λ j st n. when (has_cell m j n) o (put j st n) in
    let go : ℕ → List Value → Run Machine = λ j st. index c.args.cell o (test j st) in
    let at = c.in-Some.at in
    let v = value_of (slot_at stack at) in
    let rest = values_of at stack in
    let begun = popping_object line (values_of r.depth stack) o go ∙ c.in-Some.ensures.row o (object_of line o go) ∙ object_popped line o go c.reference_in.result v rest c.reference_in.ensures.is in
    along l line p below before now _ _ _ _ _ (begun ∙ ap (λ q. with_reference q line o (λ j. go j rest)) c.in-IsNone.is) (faults l line p below before now AccessThroughNone _ r _ stack o m s)

pub returns-in-Other-clause-row : goal.returns-in-Other-clause-row
unfolding Obeys
returns-in-Other-clause-row c l line p below now e before o m s =
    let r = c.args.regs.now in
    let stack = c.args.stack.now in
    let K : List Value → Run Machine = λ st. on o m (activation_at r stack) st (below_of below) in
    let put : ℕ → List Value → ℕ → Run Machine = λ j st n. K (Address (CellPlace j n c.args.class) ∷ st) in
    let test : ℕ → List Value → ℕ → Run Machine = λ j st n. when (has_cell m j n) o (put j st n) in
    let go : ℕ → List Value → Run Machine = λ j st. index c.args.cell o (test j st) in
    let at = c.in-Some.at in
    let v = value_of (slot_at stack at) in
    let rest = values_of at stack in
    let begun = popping_object line (values_of r.depth stack) o go ∙ c.in-Some.ensures.row o (object_of line o go) ∙ object_popped line o go c.reference_in.result v rest c.reference_in.ensures.is in
    no_rule_in l line p p below before now _ _ _ _ o m s (begun ∙ ap (λ q. with_reference q line o (λ j. go j rest)) c.in-Other.is)
