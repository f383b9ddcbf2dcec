use Rattle.std.proofs.Common.{rules, of_z, to_z, w64, ◌≡◌, ◌<◌, ◌∷◌, length, sym, subst, ap, ◌∙◌}
use Rattle.std.specs.Option.{option_map}
use Rattle.std.specs.Prelude.{Err, Some, slice_get}
use Rattle.notices.specs.Scheduling.{activated}
use Rattle.sim_code.specs.Classes.{in_process}
use Rattle.sim_code.specs.Events.{no_rule}
use Rattle.sim_code.specs.Machine.{link_in, plain, waiting}
use Rattle.sim_code.specs.Rows.{activation_of, decided}
use Rattle.sim_code.specs.Scheduling.{performing_activation}
use Rattle.frame_arena.specs.Frames.{AllLead, Holds}
use Rattle.frame_arena.specs.Stacks.{values_of}
use Rattle.object_machine.specs.Activating.{TakesActivation, activation_row, form_as, timing_as}
use Rattle.object_machine.specs.Simulating.{Simulating, simulation_of}
use Rattle.object_machine.specs.Standing.{Leaves, Obeys, activation_of as activation_of_frame, below_of}
use Rattle.object_machine.proofs.ActivationRows.{row_formed, row_formless}
use Rattle.object_machine.proofs.Going.{along, no_rule_in}
use Rattle.object_machine.proofs.Rescheduled.{decided_leaves, some_within}
use Rattle.object_machine.proofs.SetRows.{missing_leaves}
use Rattle.object_machine.proofs.activations.activate.Goals as goal

pub returns-in_default-clause-row : goal.returns-in_default-clause-row
unfolding Obeys
returns-in_default-clause-row c code l line now blocks classes before o m s =
    let p = c.args.storage.now in
    let t = c.args.top.now in
    let below = c.args.below.now.items in
    let a = activation_of_frame t in
    let under = below_of below in
    let ename : to_z w64 (of_z w64 c.args.operand) ≡ c.args.operand = search rules in
    let passed : option_map form_as c.form_of.result ≡ activation_of c.args.operand = subst (λ z. option_map form_as c.form_of.result ≡ activation_of z) ename c.form_of.ensures in
    no_rule_in l line p p below before now t.registers t.registers t.stack.items t.stack.items o m s
    (row_formless code line c.args.operand o m a under (sym passed ∙ ap (λ q. option_map form_as q) c.in_default.is))

pub returns-in-Err-clause-row : goal.returns-in-Err-clause-row
unfolding Obeys
returns-in-Err-clause-row c code l line now blocks classes before o m s =
    let p = c.args.storage.now in
    let t = c.args.top.now in
    let below = c.args.below.now.items in
    let a = activation_of_frame t in
    let under = below_of below in
    let ename : to_z w64 (of_z w64 c.args.operand) ≡ c.args.operand = search rules in
    let passed : option_map form_as c.form_of.result ≡ activation_of c.args.operand = subst (λ z. option_map form_as c.form_of.result ≡ activation_of z) ename c.form_of.ensures in
    let f = c.in-Some.form in
    let D = decided o m a under line in
    let form : activation_of c.args.operand ≡ Some (form_as f) = sym passed ∙ ap (λ q. option_map form_as q) c.in-Some.is in
    let frames = c.deref.ensures.value in
    let stack = c.deref-3.ensures.value in
    let takes : TakesActivation c.take_activation.result c.deref-2.result.now f code m o t.registers.depth c.deref-3.result.now = c.take_activation.ensures.row code p.cells.items o m blocks classes
    (subst (λ f. Holds f p.cells.items m) (sym frames) s.stores.frames)
    (subst (λ f. Simulating f m c.deref-2.result.now o.simulations) (sym frames) (subst (λ k. Simulating p.frames.items m k o.simulations) (sym c.deref-2.ensures.value) s.stores.simulations))
    (subst (λ f. AllLead f m c.deref-3.result.now) (sym frames) (subst (λ v. AllLead p.frames.items m v) (sym stack) s.top.slots)) in
    let run : activation_row code line c.args.operand o m a under ≡ performing_activation plain link_in (in_process code m) f.again (timing_as f.timing) (values_of t.registers.depth t.stack.items) o D = row_formed code line c.args.operand o m a under f form in
    missing_leaves l line p p below before now t.registers t.registers t.stack.items t.stack.items o m c.in-Err.missing c.flow_of.result _ s c.flow_of.ensures
    (λ e. run ∙ subst (λ v. performing_activation plain link_in (in_process code m) f.again (timing_as f.timing) (values_of t.registers.depth v) o D ≡ no_rule o) stack
    (subst (λ k. TakesActivation (Err k) c.deref-2.result.now f code m o t.registers.depth c.deref-3.result.now) e (subst (λ r. TakesActivation r c.deref-2.result.now f code m o t.registers.depth c.deref-3.result.now) c.in-Err.is takes) D))

pub returns-in_default-activate_at-clause-row : goal.returns-in_default-activate_at-clause-row
unfolding Obeys Leaves
returns-in_default-activate_at-clause-row c code l line now blocks classes before o m s = tt

pub returns-clause-row : goal.returns-clause-row
unfolding Obeys
returns-clause-row c code l line now blocks classes before o m s =
    let p = c.args.storage.now in
    let t = c.args.top.now in
    let below = c.args.below.now.items in
    let a = activation_of_frame t in
    let under = below_of below in
    let ename : to_z w64 (of_z w64 c.args.operand) ≡ c.args.operand = search rules in
    let passed : option_map form_as c.form_of.result ≡ activation_of c.args.operand = subst (λ z. option_map form_as c.form_of.result ≡ activation_of z) ename c.form_of.ensures in
    let f = c.in-Some.form in
    let D = decided o m a under line in
    let form : activation_of c.args.operand ≡ Some (form_as f) = sym passed ∙ ap (λ q. option_map form_as q) c.in-Some.is in
    let frames = c.deref.ensures.value in
    let stack = c.deref-3.ensures.value in
    let takes : TakesActivation c.take_activation.result c.deref-2.result.now f code m o t.registers.depth c.deref-3.result.now = c.take_activation.ensures.row code p.cells.items o m blocks classes
    (subst (λ f. Holds f p.cells.items m) (sym frames) s.stores.frames)
    (subst (λ f. Simulating f m c.deref-2.result.now o.simulations) (sym frames) (subst (λ k. Simulating p.frames.items m k o.simulations) (sym c.deref-2.ensures.value) s.stores.simulations))
    (subst (λ f. AllLead f m c.deref-3.result.now) (sym frames) (subst (λ v. AllLead p.frames.items m v) (sym stack) s.top.slots)) in
    let run : activation_row code line c.args.operand o m a under ≡ performing_activation plain link_in (in_process code m) f.again (timing_as f.timing) (values_of t.registers.depth t.stack.items) o D = row_formed code line c.args.operand o m a under f form in
    let q = c.in-Ok.taken in
    let within : q.place < length p.simulations.items = subst (λ v. q.place < length v) c.deref-2.ensures.value c.in-Ok.ensures.place in
    let found = some_within p.simulations.items q.place within in
    let y = found.0 in
    let answer = c.in-Some-activate_at.answer in
    let h = c.in-Some-activate_at.ensures.row y found.1 in
    let chain = waiting a (values_of q.under t.stack.items) ∷ under in
    let d = c.decide in
    along l line d.new.storage d.new.below.items before now d.result d.new.top.registers d.new.top.stack.items _ _
    (run ∙ subst (λ v. performing_activation plain link_in (in_process code m) f.again (timing_as f.timing) (values_of t.registers.depth v) o D ≡ D o (q.place, simulation_of y) (activated q.activation y.sim.notices) (values_of q.under v)) stack
    (subst (λ r. TakesActivation r c.deref-2.result.now f code m o t.registers.depth c.deref-3.result.now) c.in-Ok.is takes y (subst (λ k. slice_get k q.place ≡ Some y) (sym c.deref-2.ensures.value) found.1) D))
    (decided_leaves l line p c.activate_at.new.storage t below before now o m s q.place y y found.1 (activated q.activation y.sim.notices) answer h d.result d.new.storage d.new.top d.new.below.items chain
    (λ o w x. d.ensures.row l line before now o w m x))
