use Rattle.std.proofs.Common.{rules, to_z, of_z, w64, ◌≡◌, ℕ, ◌∙◌, ap, sym, subst, refl}
use Rattle.sim_values.specs.declared.value.FrameRef.{FrameRef}
use Rattle.sim_code.specs.Events.{when}
use Rattle.sim_code.specs.Machine.{Machine, Address, has_cell, index, level}
use Rattle.sim_code.specs.Outcome.{Run}
use Rattle.sim_code.specs.Rows.{pushed}
use Rattle.object_machine.specs.Standing.{Leaves, Obeys, activation_at, below_of}
use Rattle.object_machine.proofs.Going.{along, no_rule_in}
use Rattle.frame_arena.specs.Frames.{Holds, Leads, SlotLeads}
use Rattle.object_machine.proofs.Places.{Then, has_leads, in_frame, no_frame, not_in_frame}
use Rattle.object_machine.proofs.Scalars.{off}
use Rattle.sim_code.specs.Instances.{CellPlace}
use Rattle.object_machine.proofs.objects.cell_address.Goals as goal

pub returns-in_default-clause-row : goal.returns-in_default-clause-row
unfolding Obeys
returns-in_default-clause-row c l line p below now e before o m s =
    let elevel : to_z w64 (of_z w64 c.args.level) ≡ c.args.level = search rules in
    let h : Holds c.args.frames.now p.cells.items m = subst (λ v. Holds v p.cells.items m) e s.stores.frames in
    let led : Leads c.args.frames.now m c.args.regs.now.home = subst (λ v. Leads v m c.args.regs.now.home) e s.top.home in
    let put : ℕ → ℕ → Run Machine = λ j k. pushed o m (activation_at c.args.regs.now c.args.stack.now) (below_of below) (Address (CellPlace j k c.args.class)) in
    let go : ℕ → ℕ → Run Machine = λ j k. when (has_cell m j k) o (put j k) in
    no_rule_in l line p p below before now _ _ _ _ o m s (no_frame m (activation_at c.args.regs.now c.args.stack.now) c.args.level c.args.cell o go (ap (λ z. level m (activation_at c.args.regs.now c.args.stack.now) z o (Then m (activation_at c.args.regs.now c.args.stack.now) c.args.level c.args.cell o go)) (sym elevel) ∙ c.in_default.ensures.row p.cells.items m (activation_at c.args.regs.now c.args.stack.now) o (Then m (activation_at c.args.regs.now c.args.stack.now) c.args.level c.args.cell o go) h led refl))

pub returns-in_default-frame_cell-clause-row : goal.returns-in_default-frame_cell-clause-row
unfolding Obeys
returns-in_default-frame_cell-clause-row c l line p below now e before o m s =
    let elevel : to_z w64 (of_z w64 c.args.level) ≡ c.args.level = search rules in
    let h : Holds c.args.frames.now p.cells.items m = subst (λ v. Holds v p.cells.items m) e s.stores.frames in
    let led : Leads c.args.frames.now m c.args.regs.now.home = subst (λ v. Leads v m c.args.regs.now.home) e s.top.home in
    let ecell : to_z w64 (of_z w64 c.args.cell) ≡ c.args.cell = search rules in
    let put : ℕ → ℕ → Run Machine = λ j k. pushed o m (activation_at c.args.regs.now c.args.stack.now) (below_of below) (Address (CellPlace j k c.args.class)) in
    let go : ℕ → ℕ → Run Machine = λ j k. when (has_cell m j k) o (put j k) in
    let frame : FrameRef = c.in-Some.frame in
    let there : Leads c.args.frames.now m frame = has_leads c.args.frames.now p.cells.items m frame h c.in-Some.ensures.there in
    no_rule_in l line p p below before now _ _ _ _ o m s (not_in_frame m (activation_at c.args.regs.now c.args.stack.now) c.args.level c.args.cell o go frame.stamp (put frame.stamp)
    (ap (λ z. level m (activation_at c.args.regs.now c.args.stack.now) z o (Then m (activation_at c.args.regs.now c.args.stack.now) c.args.level c.args.cell o go)) (sym elevel) ∙ c.in-Some.ensures.row p.cells.items m (activation_at c.args.regs.now c.args.stack.now) o (Then m (activation_at c.args.regs.now c.args.stack.now) c.args.level c.args.cell o go) h led refl)
    (ap (λ z. index z o (go frame.stamp)) (sym ecell) ∙ c.in_default-frame_cell.ensures.row p.cells.items m o (put frame.stamp) h there))

pub returns-then-frame-clause-row : goal.returns-then-frame-clause-row
unfolding Obeys Leaves
returns-then-frame-clause-row c l line p below now e before o m s = tt

pub returns-clause-row : goal.returns-clause-row
unfolding Obeys
returns-clause-row c l line p below now e before o m s =
    let elevel : to_z w64 (of_z w64 c.args.level) ≡ c.args.level = search rules in
    let h : Holds c.args.frames.now p.cells.items m = subst (λ v. Holds v p.cells.items m) e s.stores.frames in
    let led : Leads c.args.frames.now m c.args.regs.now.home = subst (λ v. Leads v m c.args.regs.now.home) e s.top.home in
    let ecell : to_z w64 (of_z w64 c.args.cell) ≡ c.args.cell = search rules in
    let put : ℕ → ℕ → Run Machine = λ j k. pushed o m (activation_at c.args.regs.now c.args.stack.now) (below_of below) (Address (CellPlace j k c.args.class)) in
    let go : ℕ → ℕ → Run Machine = λ j k. when (has_cell m j k) o (put j k) in
    let frame : FrameRef = c.in-Some.frame in
    let there : Leads c.args.frames.now m frame = has_leads c.args.frames.now p.cells.items m frame h c.in-Some.ensures.there in
    let v = c.cell.ensures.value in
    along l line p below before now _ _ _ _ _
    (in_frame m (activation_at c.args.regs.now c.args.stack.now) c.args.level c.args.cell o go frame.stamp c.in-Some-frame_cell.number (put frame.stamp)
    (ap (λ z. level m (activation_at c.args.regs.now c.args.stack.now) z o (Then m (activation_at c.args.regs.now c.args.stack.now) c.args.level c.args.cell o go)) (sym elevel) ∙ c.in-Some.ensures.row p.cells.items m (activation_at c.args.regs.now c.args.stack.now) o (Then m (activation_at c.args.regs.now c.args.stack.now) c.args.level c.args.cell o go) h led refl)
    (ap (λ z. index z o (go frame.stamp)) (sym ecell) ∙ c.in-Some-frame_cell.ensures.row p.cells.items m o (put frame.stamp) h there)
    ∙ ap (λ v. pushed o m (activation_at c.args.regs.now c.args.stack.now) (below_of below) v) (sym v))
    (c.push.ensures.row l line p below before now o m s (subst (λ v. SlotLeads v m c.cell.result) (sym e) (c.cell.ensures.leads c.args.frames.now m there)) (λ names. absurd (off (sym c.cell.ensures.no_array ∙ names))))
