use Rattle.std.proofs.Common.{◌∷◌, sym, subst, refl, ap, ◌∙◌}
use Rattle.std.specs.Prelude.{None, slice_get}
use Rattle.sim_chains.specs.Chains.{stands_on}
use Rattle.sim_base.specs.declared.run_error.RunError.TheVariants.{SystemNotOperating}
use Rattle.sim_code.specs.Machine.{waiting}
use Rattle.frame_arena.specs.declared.frames.Component.TheVariants as component
use Rattle.frame_arena.specs.Frames.{Has, StandsAs}
use Rattle.frame_arena.specs.Stacks.{values_of}
use Rattle.object_machine.specs.declared.machine.Flow.TheVariants as flow
use Rattle.object_machine.specs.Standing.{Leaves, activation_of, below_of}
use Rattle.object_machine.specs.Transferring.{controlling, frame_of, operating}
use Rattle.object_machine.proofs.Going.{along, faults}
use Rattle.object_machine.proofs.Moving.{main_stays_on, no_cut_waiting, stands_so, stands_waiting, waits_as}
use Rattle.object_machine.proofs.Transferring.{main_none, main_stays}
use Rattle.object_machine.proofs.transfers.resume_main.Goals as goal

pub returns-in_default-clause-row : goal.returns-in_default-clause-row
returns-in_default-clause-row c l line before now o m s =
    let p = c.args.storage.now in
    let t = c.args.top.now in
    let below = c.args.below.now.items in
    let depth = c.args.depth in
    let head = c.args.head in
    let stands : StandsAs c.component_at.result (slice_get m.standings head.stamp) = stands_so p.frames.items c.deref.result.now p.cells.items m head.frame head.stamp c.component_at.result c.component_at.result s.stores.frames (subst (λ f. Has f head.frame head.stamp) (sym c.deref.ensures.value) c.requires.there) c.deref.ensures.value c.component_at.ensures refl in
    let t2 = c.wait.new.top in
    main_stays_on l line p t below before now o m s depth t2 c.wait.ensures head.stamp (main_stays line o (activation_of t2 ∷ below_of below) m head.stamp c.component_at.result c.in_default.not-Waiting stands)

pub returns-then-not-stands_on-clause-row : goal.returns-then-not-stands_on-clause-row
returns-then-not-stands_on-clause-row c l line before now o m s =
    let p = c.args.storage.now in
    let t = c.args.top.now in
    let below = c.args.below.now.items in
    let depth = c.args.depth in
    let head = c.args.head in
    let stands = stands_so p.frames.items c.deref.result.now p.cells.items m head.frame head.stamp c.component_at.result component.Waiting s.stores.frames (subst (λ f. Has f head.frame head.stamp) (sym c.deref.ensures.value) c.requires.there) c.deref.ensures.value c.component_at.ensures c.in-Waiting.is in
    along l line p below before now (flow.Fault SystemNotOperating) t.registers t.stack.items _ _
    (main_none line o (waiting (activation_of t) (values_of depth t.stack.items) ∷ below_of below) m head.stamp stands.0 stands.1 (no_cut_waiting t below depth head.stamp (ap (λ w. stands_on frame_of head.stamp (operating t w)) (sym c.deref-2.ensures.value) ∙ sym c.stands_on.ensures ∙ c.if-not-stands_on.true)))
    (faults l line p below before now SystemNotOperating t.registers t.registers t.stack.items t.stack.items o m s)

pub returns-clause-row : goal.returns-clause-row
returns-clause-row c l line before now o m s =
    let p = c.args.storage.now in
    let t = c.args.top.now in
    let below = c.args.below.now.items in
    let depth = c.args.depth in
    let head = c.args.head in
    let t2 = c.wait-2.new.top in
    let e = c.wait-2.ensures in
    let d = c.give_to_main in
    subst (λ q. Leaves d.result l line d.new.storage d.new.top.registers d.new.top.stack.items d.new.below.items before now q)
    (sym (ap (λ a. controlling line o (a ∷ below_of below) m head.stamp None) (waits_as t t2 depth e)))
    (d.ensures.row l line before now o m (stands_waiting l line p t below before now o m s depth t2 e))
