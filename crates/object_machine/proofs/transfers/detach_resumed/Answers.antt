use Rattle.std.proofs.Common.{◌≡◌, ◌∷◌, ℕ, sym, subst, ap, ◌∙◌}
use Rattle.sim_chains.specs.Chains.{stands_on}
use Rattle.sim_base.specs.declared.run_error.RunError.TheVariants.{ObjectNotOperating}
use Rattle.sim_code.specs.Instances.{system_head}
use Rattle.sim_code.specs.Machine.{waiting}
use Rattle.frame_arena.specs.Frames.{Has, Holds}
use Rattle.frame_arena.specs.Stacks.{values_of}
use Rattle.object_machine.specs.declared.machine.Flow.TheVariants as flow
use Rattle.object_machine.specs.Standing.{Leaves, activation_of, below_of}
use Rattle.object_machine.specs.Transferring.{frame_of, operating}
use Rattle.object_machine.proofs.Going.{along, faults}
use Rattle.object_machine.proofs.Moving.{no_cut_waiting, some_cut_waiting}
use Rattle.object_machine.proofs.Transferring.{gives, gives_none}
use Rattle.object_machine.proofs.transfers.detach_resumed.Goals as goal

pub returns-then-not-stands_on-clause-row : goal.returns-then-not-stands_on-clause-row
returns-then-not-stands_on-clause-row c l line before now o m s resumed =
    let p = c.args.storage.now in
    let t = c.args.top.now in
    let below = c.args.below.now.items in
    let depth = c.args.depth in
    let j : ℕ = c.args.object in
    along l line p below before now (flow.Fault ObjectNotOperating) t.registers t.stack.items _ _
    (gives_none line o (waiting (activation_of t) (values_of depth t.stack.items) ∷ below_of below) m j resumed (no_cut_waiting t below depth j (ap (λ w. stands_on frame_of j (operating t w)) (sym c.deref.ensures.value) ∙ sym c.stands_on.ensures ∙ c.if-not-stands_on.true)))
    (faults l line p below before now ObjectNotOperating t.registers t.registers t.stack.items t.stack.items o m s)

pub returns-in_default-clause-row : goal.returns-in_default-clause-row
unfolding Leaves
returns-in_default-clause-row c l line before now o m s resumed = tt

pub returns-clause-row : goal.returns-clause-row
returns-clause-row c l line before now o m s resumed =
    let p = c.args.storage.now in
    let t = c.args.top.now in
    let below = c.args.below.now.items in
    let depth = c.args.depth in
    let place = c.args.place in
    let j : ℕ = c.args.object in
    let head = c.in-Some.head in
    let is : head.stamp ≡ system_head m j = c.in-Some.ensures.head j p.cells.items m (subst (λ f. Has f place j) (sym c.deref-2.ensures.value) c.requires.there) (subst (λ f. Holds f p.cells.items m) (sym c.deref-2.ensures.value) s.stores.frames) in
    let k = some_cut_waiting t below depth j (ap (λ w. stands_on frame_of j (operating t w)) (sym c.deref.ensures.value) ∙ sym c.stands_on.ensures ∙ c.if-not-stands_on.false) in
    let d = c.resume_main in
    along l line d.new.storage d.new.below.items before now d.result d.new.top.registers d.new.top.stack.items _ _
    (gives line o (waiting (activation_of t) (values_of depth t.stack.items) ∷ below_of below) m j k.0 resumed k.1 head.stamp is)
    (d.ensures.row l line before now o m s)
