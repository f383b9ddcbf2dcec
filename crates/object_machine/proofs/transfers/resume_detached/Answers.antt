use Rattle.std.proofs.Common.{◌≡◌, ◌∷◌, ℕ, sym, subst, ap, ◌∙◌}
use Rattle.sim_chains.specs.Chains.{stands_on}
use Rattle.sim_base.specs.declared.run_error.RunError.TheVariants.{SystemNotOperating}
use Rattle.sim_values.specs.Plain.{Object}
use Rattle.sim_code.specs.Instances.{system_head}
use Rattle.sim_code.specs.Machine.{owner, waiting}
use Rattle.sim_code.specs.Transfers.{Resuming, transferring}
use Rattle.frame_arena.specs.declared.frames.Component.TheVariants as component
use Rattle.frame_arena.specs.Frames.{Has, Holds}
use Rattle.frame_arena.specs.Stacks.{values_of}
use Rattle.object_machine.specs.declared.machine.Flow.TheVariants as flow
use Rattle.object_machine.specs.Standing.{Leaves, activation_of, below_of}
use Rattle.object_machine.specs.Transferring.{frame_of, operating}
use Rattle.object_machine.proofs.Going.{along, faults}
use Rattle.object_machine.proofs.Moving.{no_cut_waiting, stands_waiting, waits_as}
use Rattle.object_machine.proofs.Transferring.{resumes_none}
use Rattle.object_machine.proofs.transfers.resume_detached.Goals as goal

pub returns-in_default-clause-row : goal.returns-in_default-clause-row
unfolding Leaves
returns-in_default-clause-row c l line before now o m s = tt

pub returns-then-not-stands_on-clause-row : goal.returns-then-not-stands_on-clause-row
returns-then-not-stands_on-clause-row c l line before now o m s =
    let p = c.args.storage.now in
    let t = c.args.top.now in
    let below = c.args.below.now.items in
    let depth = c.args.depth in
    let place = c.args.place in
    let j : ℕ = c.args.object in
    let head = c.in-Some.head in
    let is : head.stamp ≡ system_head m j = c.in-Some.ensures.head j p.cells.items m (subst (λ f. Has f place j) (sym c.deref.ensures.value) c.requires.detached.0) (subst (λ f. Holds f p.cells.items m) (sym c.deref.ensures.value) s.stores.frames) in
    along l line p below before now (flow.Fault SystemNotOperating) t.registers t.stack.items _ _
    (resumes_none line o (waiting (activation_of t) (values_of depth t.stack.items) ∷ below_of below) m j _ (s.stores.parks.chains place j component.Detached c.requires.detached) head.stamp is (no_cut_waiting t below depth head.stamp (ap (λ w. stands_on frame_of head.stamp (operating t w)) (sym c.deref-2.ensures.value) ∙ sym c.stands_on.ensures ∙ c.if-not-stands_on.true)))
    (faults l line p below before now SystemNotOperating t.registers t.registers t.stack.items t.stack.items o m s)

pub returns-clause-row : goal.returns-clause-row
returns-clause-row c l line before now o m s =
    let p = c.args.storage.now in
    let t = c.args.top.now in
    let below = c.args.below.now.items in
    let depth = c.args.depth in
    let place = c.args.place in
    let j : ℕ = c.args.object in
    let head = c.in-Some.head in
    let is : head.stamp ≡ system_head m j = c.in-Some.ensures.head j p.cells.items m (subst (λ f. Has f place j) (sym c.deref.ensures.value) c.requires.detached.0) (subst (λ f. Holds f p.cells.items m) (sym c.deref.ensures.value) s.stores.frames) in
    let t2 = c.wait.new.top in
    let e = c.wait.ensures in
    let d = c.take_turn in
    subst (λ q. Leaves d.result l line d.new.storage d.new.top.registers d.new.top.stack.items d.new.below.items before now q)
    (sym (ap (λ a. transferring owner Resuming line o (a ∷ below_of below) m (Object j)) (waits_as t t2 depth e)))
    (d.ensures.row l line before now o m (stands_waiting l line p t below before now o m s depth t2 e) is)
