use Rattle.std.proofs.Common.{rules, to_z, of_z, w64, ◌≡◌, ℕ, ◌∙◌, ap, sym, subst, refl}
use Rattle.sim_code.specs.Events.{having}
use Rattle.sim_code.specs.Machine.{Machine, cell as cell_value_of, number, level}
use Rattle.sim_code.specs.Outcome.{Run}
use Rattle.sim_code.specs.Rows.{pushed}
use Rattle.object_machine.specs.Standing.{Obeys, activation_at, below_of}
use Rattle.object_machine.proofs.Going.{along, none}
use Rattle.frame_arena.specs.Frames.{Holds, Leads, SlotLeads}
use Rattle.object_machine.proofs.Places.{Then, no_frame, no_number, at_cell, led_at, led_array_at}
use Rattle.frame_arena.specs.Stacks.{slot_at}
use Rattle.frame_arena.specs.Arrays.{AllLeadArrays}
use Rattle.object_machine.proofs.cells.load.Goals as goal

pub returns-in_default-clause-row : goal.returns-in_default-clause-row
unfolding Obeys
returns-in_default-clause-row c l line p below now e e2 before o m s =
    let elevel : to_z w64 (of_z w64 c.args.level) ≡ c.args.level = search rules in
    let h : Holds c.args.frames.now p.cells.items m = subst (λ v. Holds v p.cells.items m) e s.stores.frames in
    let led : Leads c.args.frames.now m c.args.regs.now.home = subst (λ v. Leads v m c.args.regs.now.home) e s.top.home in
    let go : ℕ → ℕ → Run Machine = λ j k. having (cell_value_of m j k) o (λ v. pushed o m (activation_at c.args.regs.now c.args.stack.now) (below_of below) v) in
    along l line p below before now _ _ _ _ _ (no_frame m (activation_at c.args.regs.now c.args.stack.now) c.args.level c.args.cell o go (ap (λ z. level m (activation_at c.args.regs.now c.args.stack.now) z o (Then m (activation_at c.args.regs.now c.args.stack.now) c.args.level c.args.cell o go)) (sym elevel) ∙ c.in_default.ensures.row p.cells.items m (activation_at c.args.regs.now c.args.stack.now) o (Then m (activation_at c.args.regs.now c.args.stack.now) c.args.level c.args.cell o go) h led refl)) (none l line p below before now _ c.args.regs.now _ c.args.stack.now o m s)

pub returns-in_default-index-clause-row : goal.returns-in_default-index-clause-row
unfolding Obeys
returns-in_default-index-clause-row c l line p below now e e2 before o m s =
    let elevel : to_z w64 (of_z w64 c.args.level) ≡ c.args.level = search rules in
    let h : Holds c.args.frames.now p.cells.items m = subst (λ v. Holds v p.cells.items m) e s.stores.frames in
    let led : Leads c.args.frames.now m c.args.regs.now.home = subst (λ v. Leads v m c.args.regs.now.home) e s.top.home in
    let ecell : to_z w64 (of_z w64 c.args.cell) ≡ c.args.cell = search rules in
    let go : ℕ → ℕ → Run Machine = λ j k. having (cell_value_of m j k) o (λ v. pushed o m (activation_at c.args.regs.now c.args.stack.now) (below_of below) v) in
    along l line p below before now _ _ _ _ _ (no_number m (activation_at c.args.regs.now c.args.stack.now) c.args.level c.args.cell o go c.in-Some.span.number (ap (λ z. level m (activation_at c.args.regs.now c.args.stack.now) z o (Then m (activation_at c.args.regs.now c.args.stack.now) c.args.level c.args.cell o go)) (sym elevel) ∙ c.in-Some.ensures.row p.cells.items m (activation_at c.args.regs.now c.args.stack.now) o (Then m (activation_at c.args.regs.now c.args.stack.now) c.args.level c.args.cell o go) h led refl) (c.in_default-index.ensures ∙ ap number ecell)) (none l line p below before now _ c.args.regs.now _ c.args.stack.now o m s)

pub returns-in_default-cell_in-clause-row : goal.returns-in_default-cell_in-clause-row
unfolding Obeys having
returns-in_default-cell_in-clause-row c l line p below now e e2 before o m s =
    let elevel : to_z w64 (of_z w64 c.args.level) ≡ c.args.level = search rules in
    let h : Holds c.args.frames.now p.cells.items m = subst (λ v. Holds v p.cells.items m) e s.stores.frames in
    let led : Leads c.args.frames.now m c.args.regs.now.home = subst (λ v. Leads v m c.args.regs.now.home) e s.top.home in
    let ecell : to_z w64 (of_z w64 c.args.cell) ≡ c.args.cell = search rules in
    let go : ℕ → ℕ → Run Machine = λ j k. having (cell_value_of m j k) o (λ v. pushed o m (activation_at c.args.regs.now c.args.stack.now) (below_of below) v) in
    let is = c.in_default-cell_in.ensures.value c.args.frames.now m (subst (λ v. Holds c.args.frames.now v m) e2 h) c.in-Some.ensures.span in
    along l line p below before now _ _ _ _ _ (at_cell m (activation_at c.args.regs.now c.args.stack.now) c.args.level c.args.cell o go c.in-Some.span.number c.in-Some-index.number (ap (λ z. level m (activation_at c.args.regs.now c.args.stack.now) z o (Then m (activation_at c.args.regs.now c.args.stack.now) c.args.level c.args.cell o go)) (sym elevel) ∙ c.in-Some.ensures.row p.cells.items m (activation_at c.args.regs.now c.args.stack.now) o (Then m (activation_at c.args.regs.now c.args.stack.now) c.args.level c.args.cell o go) h led refl) (c.in-Some-index.ensures ∙ ap number ecell) ∙ ap (λ q. having q o (λ v. pushed o m (activation_at c.args.regs.now c.args.stack.now) (below_of below) v)) (sym is)) (none l line p below before now _ c.args.regs.now _ c.args.stack.now o m s)

pub returns-clause-row : goal.returns-clause-row
unfolding Obeys having
returns-clause-row c l line p below now e e2 before o m s =
    let elevel : to_z w64 (of_z w64 c.args.level) ≡ c.args.level = search rules in
    let h : Holds c.args.frames.now p.cells.items m = subst (λ v. Holds v p.cells.items m) e s.stores.frames in
    let led : Leads c.args.frames.now m c.args.regs.now.home = subst (λ v. Leads v m c.args.regs.now.home) e s.top.home in
    let ecell : to_z w64 (of_z w64 c.args.cell) ≡ c.args.cell = search rules in
    let go : ℕ → ℕ → Run Machine = λ j k. having (cell_value_of m j k) o (λ v. pushed o m (activation_at c.args.regs.now c.args.stack.now) (below_of below) v) in
    let is = c.in-Some-cell_in.ensures.value c.args.frames.now m (subst (λ v. Holds c.args.frames.now v m) e2 h) c.in-Some.ensures.span in
    let lies = c.in-Some-cell_in.ensures.lies in
    along l line p below before now _ _ _ _ _ (at_cell m (activation_at c.args.regs.now c.args.stack.now) c.args.level c.args.cell o go c.in-Some.span.number c.in-Some-index.number (ap (λ z. level m (activation_at c.args.regs.now c.args.stack.now) z o (Then m (activation_at c.args.regs.now c.args.stack.now) c.args.level c.args.cell o go)) (sym elevel) ∙ c.in-Some.ensures.row p.cells.items m (activation_at c.args.regs.now c.args.stack.now) o (Then m (activation_at c.args.regs.now c.args.stack.now) c.args.level c.args.cell o go) h led refl) (c.in-Some-index.ensures ∙ ap number ecell) ∙ ap (λ q. having q o (λ v. pushed o m (activation_at c.args.regs.now c.args.stack.now) (below_of below) v)) (sym is))
    (c.push.ensures.row l line p below before now o m s
    (led_at p.frames.items m c.args.cells.now c.in-Some-cell_in.slot (subst (λ v. (k : ℕ) → SlotLeads p.frames.items m (slot_at v k)) e2 s.stores.frames.links) lies)
    (led_array_at p.arrays.regions o.arrays c.args.cells.now c.in-Some-cell_in.slot (subst (λ v. AllLeadArrays p.arrays.regions o.arrays v) e2 s.stores.cells) lies))
