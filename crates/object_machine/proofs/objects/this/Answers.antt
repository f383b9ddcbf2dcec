use Rattle.std.proofs.Common.{rules, to_z, of_z, w64, ◌≡◌, ℕ, ◌∙◌, ap, sym, subst, refl}
use Rattle.sim_values.specs.Plain.{Object}
use Rattle.sim_code.specs.Events.{having}
use Rattle.sim_code.specs.Machine.{Machine, Of, level}
use Rattle.sim_code.specs.Outcome.{Run}
use Rattle.sim_code.specs.Rows.{pushed}
use Rattle.object_machine.specs.Standing.{Leaves, Obeys, activation_at, below_of}
use Rattle.object_machine.proofs.Going.{along, none}
use Rattle.frame_arena.specs.Frames.{Holds, Leads, SlotLeads}
use Rattle.object_machine.proofs.Places.{has_leads}
use Rattle.object_machine.proofs.Scalars.{off}
use Rattle.object_machine.proofs.objects.this.Goals as goal

pub returns-in_default-clause-row : goal.returns-in_default-clause-row
unfolding Obeys having
returns-in_default-clause-row c l line p below now e before o m s =
    let elevel : to_z w64 (of_z w64 c.args.level) ≡ c.args.level = search rules in
    let h : Holds c.args.frames.now p.cells.items m = subst (λ v. Holds v p.cells.items m) e s.stores.frames in
    let led : Leads c.args.frames.now m c.args.regs.now.home = subst (λ v. Leads v m c.args.regs.now.home) e s.top.home in
    let go : ℕ → Run Machine = λ j. pushed o m (activation_at c.args.regs.now c.args.stack.now) (below_of below) (Of (Object j)) in
    along l line p below before now _ _ _ _ _ (ap (λ z. level m (activation_at c.args.regs.now c.args.stack.now) z o go) (sym elevel) ∙ c.in_default.ensures.row p.cells.items m (activation_at c.args.regs.now c.args.stack.now) o go h led refl) (none l line p below before now _ c.args.regs.now _ c.args.stack.now o m s)

pub returns-then-frame-clause-row : goal.returns-then-frame-clause-row
unfolding Obeys Leaves
returns-then-frame-clause-row c l line p below now e before o m s = tt

pub returns-clause-row : goal.returns-clause-row
unfolding Obeys having
returns-clause-row c l line p below now e before o m s =
    let elevel : to_z w64 (of_z w64 c.args.level) ≡ c.args.level = search rules in
    let h : Holds c.args.frames.now p.cells.items m = subst (λ v. Holds v p.cells.items m) e s.stores.frames in
    let led : Leads c.args.frames.now m c.args.regs.now.home = subst (λ v. Leads v m c.args.regs.now.home) e s.top.home in
    let go : ℕ → Run Machine = λ j. pushed o m (activation_at c.args.regs.now c.args.stack.now) (below_of below) (Of (Object j)) in
    let v = c.object.ensures.value in
    let there : Leads c.args.frames.now m c.in-Some.frame = has_leads c.args.frames.now p.cells.items m c.in-Some.frame h c.in-Some.ensures.there in
    along l line p below before now _ _ _ _ _ ((ap (λ z. level m (activation_at c.args.regs.now c.args.stack.now) z o go) (sym elevel) ∙ c.in-Some.ensures.row p.cells.items m (activation_at c.args.regs.now c.args.stack.now) o go h led refl) ∙ ap (λ v. pushed o m (activation_at c.args.regs.now c.args.stack.now) (below_of below) v) (sym v))
    (c.push.ensures.row l line p below before now o m s (subst (λ v. SlotLeads v m c.object.result) (sym e) (c.object.ensures.leads c.args.frames.now m there)) (λ names. absurd (off (sym c.object.ensures.no_array ∙ names))))
