use Rattle.std.proofs.Common.{◌≡◌, ◌<◌, ◌∷◌, length, sym, subst, ◌∙◌, arith}
use Rattle.std.specs.Prelude.{Err, Option, Some, slice_get}
use Rattle.notices.specs.declared.activation.ProcessRef.{ProcessRef}
use Rattle.notices.specs.Scheduling.{cancelled}
use Rattle.sim_values.specs.declared.standard.Standard.TheVariants as name
use Rattle.sim_values.specs.Plain.{Plain}
use Rattle.sim_code.specs.Classes.{in_process}
use Rattle.sim_code.specs.Events.{having, no_rule, popping}
use Rattle.sim_code.specs.Machine.{Machine, plain, waiting}
use Rattle.sim_code.specs.Outcome.{Run}
use Rattle.sim_code.specs.Rows.{decided}
use Rattle.sim_code.specs.Simulations.{seen}
use Rattle.frame_arena.specs.Frames.{Holds, SlotLeads}
use Rattle.frame_arena.specs.Slots.{empty_slot, value_of}
use Rattle.frame_arena.specs.Stacks.{slot_at, values_of, with_top}
use Rattle.object_machine.specs.Rescheduling.{simulation_row}
use Rattle.object_machine.specs.Simulating.{IsSimulated, simulation_of}
use Rattle.object_machine.specs.Standing.{Leaves, Obeys, activation_of, below_of}
use Rattle.object_machine.specs.Telling.{Sees, bound}
use Rattle.object_machine.proofs.Going.{along, no_rule_in}
use Rattle.object_machine.proofs.Having.{having_none, having_some}
use Rattle.object_machine.proofs.Jumps.{found_at}
use Rattle.object_machine.proofs.Moving.{slot_within}
use Rattle.object_machine.proofs.Rescheduled.{decided_leaves}
use Rattle.object_machine.proofs.Schedules.{block_missing, block_taken}
use Rattle.object_machine.proofs.SetRows.{missing_leaves}
use Rattle.object_machine.proofs.SimulationRows.{Cancel_by, Cancel_so, block_below, block_below_missing, cancel_row, having_both}
use Rattle.object_machine.proofs.scheduling.cancel.Goals as goal

pub returns-in_default-clause-row : goal.returns-in_default-clause-row
unfolding Obeys
returns-in_default-clause-row c code l line now blocks classes before o m s =
    let p = c.args.storage.now in
    let t = c.args.top.now in
    let below = c.args.below.now.items in
    let H = Cancel_by code line o m (activation_of t) (below_of below) in
    no_rule_in l line p p below before now t.registers t.registers t.stack.items t.stack.items o m s
    (cancel_row code line o m (activation_of t) (below_of below) ∙ subst (λ v. popping (values_of t.registers.depth v) o H ≡ no_rule o) c.deref.ensures.value (c.in_default.ensures.row o H))

pub returns-in_default-take_block-clause-row : goal.returns-in_default-take_block-clause-row
unfolding Obeys
returns-in_default-take_block-clause-row c code l line now blocks classes before o m s =
    let p = c.args.storage.now in
    let t = c.args.top.now in
    let below = c.args.below.now.items in
    let a = activation_of t in
    let under = below_of below in
    let at = c.in-Some.at in
    let H = Cancel_by code line o m a under in
    no_rule_in l line p p below before now t.registers t.registers t.stack.items t.stack.items o m s
    (cancel_row code line o m a under
    ∙ subst (λ v. popping (values_of t.registers.depth v) o H ≡ with_top (Some at) v o H) c.deref.ensures.value (c.in-Some.ensures.row o H)
    ∙ block_below_missing o (plain (value_of (slot_at t.stack.items at))) (values_of at t.stack.items) (Cancel_so code line o m a under)
    (block_missing p o m s.stores.simulations c.deref-2.result.now c.deref-3.result.now t.stack.items at c.deref-2.ensures.value c.deref-3.ensures.value (c.in_default-take_block.ensures.row o)))

pub returns-in-Err-clause-row : goal.returns-in-Err-clause-row
unfolding Obeys
returns-in-Err-clause-row c code l line now blocks classes before o m s =
    let p = c.args.storage.now in
    let t = c.args.top.now in
    let below = c.args.below.now.items in
    let a = activation_of t in
    let under = below_of below in
    let at = c.in-Some.at in
    let q = c.in-Some-take_block.block in
    let y = c.index.result.now in
    let x = simulation_of y in
    let within : q.place < length p.simulations.items = subst (λ v. q.place < length v) c.deref-2.ensures.value c.in-Some-take_block.ensures.within in
    let there : slice_get p.simulations.items q.place ≡ Some y = found_at p.simulations.items q.place y within c.index.ensures in
    let one = s.stores.simulations.each q.place y there in
    let slot : c.index-2.result.now ≡ slot_at t.stack.items at = c.index-2.ensures ∙ slot_within t.stack.items at c.index-2.result.now empty_slot (let e = c.in-Some.ensures.shallower in let f = c.requires.fits in omega (arith, e, f)) in
    let v = plain (value_of (slot_at t.stack.items at)) in
    let sight : Plain → Option (Option ProcessRef) = λ p. seen (in_process code m y.block.stamp) x p in
    let frames = c.deref-4.ensures.value in
    let sees : Sees c.seen.result (bound v sight) = subst (λ z. Sees c.seen.result (bound (plain (value_of z)) sight)) slot
    (c.seen.ensures.row code p.cells.items m blocks classes (subst (λ f. Holds f p.cells.items m) (sym frames) s.stores.frames) (subst (λ f. IsSimulated f m y) (sym frames) one)
    (subst (λ f. SlotLeads f m c.index-2.result.now) (sym frames) (subst (λ z. SlotLeads p.frames.items m z) (sym slot) (s.top.slots at)))) in
    let D : Option ProcessRef → Run Machine = λ z. decided o m a under line o (q.place, x) (cancelled z x.notices) (values_of q.under t.stack.items) in
    let run : simulation_row code line name.Cancel o m a under ≡ having (bound v sight) o D =
    cancel_row code line o m a under
    ∙ subst (λ v. popping (values_of t.registers.depth v) o (Cancel_by code line o m a under) ≡ with_top (Some at) v o (Cancel_by code line o m a under)) c.deref.ensures.value (c.in-Some.ensures.row o (Cancel_by code line o m a under))
    ∙ block_below o v (values_of at t.stack.items) (Cancel_so code line o m a under) y.block.stamp (q.place, x) (values_of q.under t.stack.items)
    (block_taken p o m s.stores.simulations c.deref-2.result.now c.deref-3.result.now t.stack.items at q c.deref-2.ensures.value c.deref-3.ensures.value (c.in-Some-take_block.ensures.row o) y there)
    ∙ having_both v sight o D in
    missing_leaves l line p p below before now t.registers t.registers t.stack.items t.stack.items o m c.in-Err.missing c.flow_of.result _ s c.flow_of.ensures
    (λ e. run ∙ having_none (bound v sight) o D (sym (subst (λ k. Sees (Err k) (bound v sight)) e (subst (λ r. Sees r (bound v sight)) c.in-Err.is sees))))

pub returns-in_default-cancel_at-clause-row : goal.returns-in_default-cancel_at-clause-row
unfolding Obeys Leaves
returns-in_default-cancel_at-clause-row c code l line now blocks classes before o m s = tt

pub returns-clause-row : goal.returns-clause-row
unfolding Obeys
returns-clause-row c code l line now blocks classes before o m s =
    let p = c.args.storage.now in
    let t = c.args.top.now in
    let below = c.args.below.now.items in
    let a = activation_of t in
    let under = below_of below in
    let at = c.in-Some.at in
    let q = c.in-Some-take_block.block in
    let y = c.index.result.now in
    let x = simulation_of y in
    let within : q.place < length p.simulations.items = subst (λ v. q.place < length v) c.deref-2.ensures.value c.in-Some-take_block.ensures.within in
    let there : slice_get p.simulations.items q.place ≡ Some y = found_at p.simulations.items q.place y within c.index.ensures in
    let one = s.stores.simulations.each q.place y there in
    let slot : c.index-2.result.now ≡ slot_at t.stack.items at = c.index-2.ensures ∙ slot_within t.stack.items at c.index-2.result.now empty_slot (let e = c.in-Some.ensures.shallower in let f = c.requires.fits in omega (arith, e, f)) in
    let v = plain (value_of (slot_at t.stack.items at)) in
    let sight : Plain → Option (Option ProcessRef) = λ p. seen (in_process code m y.block.stamp) x p in
    let frames = c.deref-4.ensures.value in
    let sees : Sees c.seen.result (bound v sight) = subst (λ z. Sees c.seen.result (bound (plain (value_of z)) sight)) slot
    (c.seen.ensures.row code p.cells.items m blocks classes (subst (λ f. Holds f p.cells.items m) (sym frames) s.stores.frames) (subst (λ f. IsSimulated f m y) (sym frames) one)
    (subst (λ f. SlotLeads f m c.index-2.result.now) (sym frames) (subst (λ z. SlotLeads p.frames.items m z) (sym slot) (s.top.slots at)))) in
    let D : Option ProcessRef → Run Machine = λ z. decided o m a under line o (q.place, x) (cancelled z x.notices) (values_of q.under t.stack.items) in
    let run : simulation_row code line name.Cancel o m a under ≡ having (bound v sight) o D =
    cancel_row code line o m a under
    ∙ subst (λ v. popping (values_of t.registers.depth v) o (Cancel_by code line o m a under) ≡ with_top (Some at) v o (Cancel_by code line o m a under)) c.deref.ensures.value (c.in-Some.ensures.row o (Cancel_by code line o m a under))
    ∙ block_below o v (values_of at t.stack.items) (Cancel_so code line o m a under) y.block.stamp (q.place, x) (values_of q.under t.stack.items)
    (block_taken p o m s.stores.simulations c.deref-2.result.now c.deref-3.result.now t.stack.items at q c.deref-2.ensures.value c.deref-3.ensures.value (c.in-Some-take_block.ensures.row o) y there)
    ∙ having_both v sight o D in
    let z = c.in-Ok.process in
    let answer = c.in-Some-cancel_at.answer in
    let h = c.in-Some-cancel_at.ensures.row y there in
    let chain = waiting a (values_of q.under t.stack.items) ∷ under in
    let d = c.decide in
    along l line d.new.storage d.new.below.items before now d.result d.new.top.registers d.new.top.stack.items _ _
    (run ∙ having_some (bound v sight) z o D (sym (subst (λ r. Sees r (bound v sight)) c.in-Ok.is sees)))
    (decided_leaves l line p c.cancel_at.new.storage t below before now o m s q.place y y there (cancelled z y.sim.notices) answer h d.result d.new.storage d.new.top d.new.below.items chain
    (λ o w x. d.ensures.row l line before now o w m x))
