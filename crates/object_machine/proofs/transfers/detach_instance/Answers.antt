use Rattle.std.proofs.Common.{◌∷◌, ℕ, sym, subst, ap, ◌∙◌}
use Rattle.std.specs.Prelude.{None, Some}
use Rattle.sim_chains.specs.Chains.{stands_on}
use Rattle.sim_base.specs.declared.run_error.RunError.TheVariants.{ObjectNotOperating}
use Rattle.sim_values.specs.Plain.{Object}
use Rattle.sim_code.specs.Machine.{owner, waiting}
use Rattle.sim_code.specs.Transfers.{Detaching, transferring}
use Rattle.frame_arena.specs.declared.frames.Component.TheVariants as component
use Rattle.frame_arena.specs.Frames.{Has}
use Rattle.frame_arena.specs.Stacks.{values_of}
use Rattle.object_machine.specs.declared.machine.Flow.TheVariants as flow
use Rattle.object_machine.specs.Standing.{Leaves, activation_of, below_of}
use Rattle.object_machine.specs.Transferring.{frame_of, operating}
use Rattle.object_machine.proofs.Going.{along, faults}
use Rattle.object_machine.proofs.Moving.{no_cut_waiting, stands_so, stands_waiting, stays_on, waits_as}
use Rattle.object_machine.proofs.Transferring.{detach_detached, detach_terminated, leaves_none, stays}
use Rattle.object_machine.proofs.transfers.detach_instance.Goals as goal

pub returns-in_default-clause-row : goal.returns-in_default-clause-row
unfolding Leaves
returns-in_default-clause-row c l line before now o m s leads = tt

pub returns-in-NoObject-clause-row : goal.returns-in-NoObject-clause-row
returns-in-NoObject-clause-row c l line before now o m s leads =
    let p = c.args.storage.now in
    let t = c.args.top.now in
    let below = c.args.below.now.items in
    let depth = c.args.depth in
    let place = c.in-Some.place in
    let j : ℕ = c.args.object.stamp in
    let has : Has c.deref-2.result.now place j = subst (λ f. Has f place j) (c.deref.ensures.value ∙ sym c.deref-2.ensures.value) c.in-Some.ensures.there in
    let stands = stands_so p.frames.items c.deref-2.result.now p.cells.items m place j c.component_at.result component.NoObject s.stores.frames has c.deref-2.ensures.value c.component_at.ensures c.in-NoObject.is in
    let t2 = c.wait.new.top in
    stays_on l line p t below before now o m s Detaching depth t2 c.wait.ensures j (stays line o (activation_of t2 ∷ below_of below) m j None stands)

pub returns-in-Waiting-clause-row : goal.returns-in-Waiting-clause-row
returns-in-Waiting-clause-row c l line before now o m s leads =
    let p = c.args.storage.now in
    let t = c.args.top.now in
    let below = c.args.below.now.items in
    let depth = c.args.depth in
    let place = c.in-Some.place in
    let j : ℕ = c.args.object.stamp in
    let has : Has c.deref-2.result.now place j = subst (λ f. Has f place j) (c.deref.ensures.value ∙ sym c.deref-2.ensures.value) c.in-Some.ensures.there in
    let stands = stands_so p.frames.items c.deref-2.result.now p.cells.items m place j c.component_at.result component.Waiting s.stores.frames has c.deref-2.ensures.value c.component_at.ensures c.in-Waiting.is in
    let t2 = c.wait-in-Waiting.new.top in
    stays_on l line p t below before now o m s Detaching depth t2 c.wait-in-Waiting.ensures j (stays line o (activation_of t2 ∷ below_of below) m j (Some stands.0) stands.1)

pub returns-then-not-stands_on-clause-row : goal.returns-then-not-stands_on-clause-row
returns-then-not-stands_on-clause-row c l line before now o m s leads =
    let p = c.args.storage.now in
    let t = c.args.top.now in
    let below = c.args.below.now.items in
    let depth = c.args.depth in
    let place = c.in-Some.place in
    let j : ℕ = c.args.object.stamp in
    let has : Has c.deref-2.result.now place j = subst (λ f. Has f place j) (c.deref.ensures.value ∙ sym c.deref-2.ensures.value) c.in-Some.ensures.there in
    let stands = stands_so p.frames.items c.deref-2.result.now p.cells.items m place j c.component_at.result component.Attached s.stores.frames has c.deref-2.ensures.value c.component_at.ensures c.in-Attached.is in
    along l line p below before now (flow.Fault ObjectNotOperating) t.registers t.stack.items _ _
    (leaves_none line o (waiting (activation_of t) (values_of depth t.stack.items) ∷ below_of below) m j stands (no_cut_waiting t below depth j (ap (λ w. stands_on frame_of j (operating t w)) (sym c.deref-in-Attached.ensures.value) ∙ sym c.stands_on.ensures ∙ c.if-not-stands_on.true)))
    (faults l line p below before now ObjectNotOperating t.registers t.registers t.stack.items t.stack.items o m s)

pub returns-else-not-stands_on-clause-row : goal.returns-else-not-stands_on-clause-row
returns-else-not-stands_on-clause-row c l line before now o m s leads =
    let p = c.args.storage.now in
    let t = c.args.top.now in
    let below = c.args.below.now.items in
    let depth = c.args.depth in
    let place = c.in-Some.place in
    let j : ℕ = c.args.object.stamp in
    let has : Has c.deref-2.result.now place j = subst (λ f. Has f place j) (c.deref.ensures.value ∙ sym c.deref-2.ensures.value) c.in-Some.ensures.there in
    let stands = stands_so p.frames.items c.deref-2.result.now p.cells.items m place j c.component_at.result component.Attached s.stores.frames has c.deref-2.ensures.value c.component_at.ensures c.in-Attached.is in
    let t2 = c.wait-in-Attached.new.top in
    let e = c.wait-in-Attached.ensures in
    let d = c.leave_object in
    subst (λ q. Leaves d.result l line d.new.storage d.new.top.registers d.new.top.stack.items d.new.below.items before now q)
    (sym (ap (λ a. transferring owner Detaching line o (a ∷ below_of below) m (Object j)) (waits_as t t2 depth e)))
    (d.ensures.row l line before now o m (stands_waiting l line p t below before now o m s depth t2 e) stands)

pub returns-in-Resumed-clause-row : goal.returns-in-Resumed-clause-row
returns-in-Resumed-clause-row c l line before now o m s leads =
    let p = c.args.storage.now in
    let place = c.in-Some.place in
    let j : ℕ = c.args.object.stamp in
    let has : Has c.deref-2.result.now place j = subst (λ f. Has f place j) (c.deref.ensures.value ∙ sym c.deref-2.ensures.value) c.in-Some.ensures.there in
    let stands = stands_so p.frames.items c.deref-2.result.now p.cells.items m place j c.component_at.result component.Resumed s.stores.frames has c.deref-2.ensures.value c.component_at.ensures c.in-Resumed.is in
    c.detach_resumed.ensures.row l line before now o m s stands

pub returns-in-Detached-clause-row : goal.returns-in-Detached-clause-row
returns-in-Detached-clause-row c l line before now o m s leads =
    let p = c.args.storage.now in
    let t = c.args.top.now in
    let below = c.args.below.now.items in
    let depth = c.args.depth in
    let place = c.in-Some.place in
    let j : ℕ = c.args.object.stamp in
    let has : Has c.deref-2.result.now place j = subst (λ f. Has f place j) (c.deref.ensures.value ∙ sym c.deref-2.ensures.value) c.in-Some.ensures.there in
    let stands = stands_so p.frames.items c.deref-2.result.now p.cells.items m place j c.component_at.result component.Detached s.stores.frames has c.deref-2.ensures.value c.component_at.ensures c.in-Detached.is in
    along l line p below before now (flow.Fault ObjectNotOperating) t.registers t.stack.items _ _ (detach_detached line o (waiting (activation_of t) (values_of depth t.stack.items) ∷ below_of below) m j stands.0 stands.1)
    (faults l line p below before now ObjectNotOperating t.registers t.registers t.stack.items t.stack.items o m s)

pub returns-in-Terminated-clause-row : goal.returns-in-Terminated-clause-row
returns-in-Terminated-clause-row c l line before now o m s leads =
    let p = c.args.storage.now in
    let t = c.args.top.now in
    let below = c.args.below.now.items in
    let depth = c.args.depth in
    let place = c.in-Some.place in
    let j : ℕ = c.args.object.stamp in
    let has : Has c.deref-2.result.now place j = subst (λ f. Has f place j) (c.deref.ensures.value ∙ sym c.deref-2.ensures.value) c.in-Some.ensures.there in
    let stands = stands_so p.frames.items c.deref-2.result.now p.cells.items m place j c.component_at.result component.Terminated s.stores.frames has c.deref-2.ensures.value c.component_at.ensures c.in-Terminated.is in
    along l line p below before now (flow.Fault ObjectNotOperating) t.registers t.stack.items _ _ (detach_terminated line o (waiting (activation_of t) (values_of depth t.stack.items) ∷ below_of below) m j stands)
    (faults l line p below before now ObjectNotOperating t.registers t.registers t.stack.items t.stack.items o m s)
