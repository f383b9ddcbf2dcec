use Rattle.std.proofs.Common.{rules, of_z, to_z, w64, ◌≡◌, ◌<◌, ◌∷◌, length, sym, subst, ap, ◌∙◌, arith}
use Rattle.std.specs.Prelude.{Some}
use Rattle.notices.specs.Scheduling.{held}
use Rattle.sim_code.specs.Events.{no_rule, popping}
use Rattle.sim_code.specs.Machine.{waiting}
use Rattle.frame_arena.specs.Slots.{empty_slot, integer_of, value_of}
use Rattle.frame_arena.specs.Stacks.{slot_at, values_of, with_top}
use Rattle.object_machine.specs.Rescheduling.{Rescheduled}
use Rattle.object_machine.specs.Standing.{Leaves, Obeys, activation_of, below_of}
use Rattle.object_machine.proofs.Going.{along, no_rule_in}
use Rattle.object_machine.proofs.Having.{having_none, having_some}
use Rattle.object_machine.proofs.Moving.{slot_within}
use Rattle.object_machine.proofs.Rescheduled.{decided_leaves, some_within}
use Rattle.object_machine.proofs.Schedules.{block_missing, block_taken}
use Rattle.object_machine.proofs.SimulationRows.{Hold_by, Hold_so, hold_row}
use Rattle.object_machine.proofs.scheduling.hold.Goals as goal

pub returns-in_default-clause-row : goal.returns-in_default-clause-row
unfolding Obeys
returns-in_default-clause-row c code l line now before o m s =
    let p = c.args.storage.now in
    let t = c.args.top.now in
    let below = c.args.below.now.items in
    let H = Hold_by code line o m (activation_of t) (below_of below) in
    no_rule_in l line p p below before now t.registers t.registers t.stack.items t.stack.items o m s
    (hold_row code line o m (activation_of t) (below_of below) ∙ subst (λ v. popping (values_of t.registers.depth v) o H ≡ no_rule o) c.deref.ensures.value (c.in_default.ensures.row o H))

pub returns-in_default-integer_in-clause-row : goal.returns-in_default-integer_in-clause-row
unfolding Obeys
returns-in_default-integer_in-clause-row c code l line now before o m s =
    let p = c.args.storage.now in
    let t = c.args.top.now in
    let below = c.args.below.now.items in
    let at = c.in-Some.at in
    let H = Hold_by code line o m (activation_of t) (below_of below) in
    let slot : c.index.result.now ≡ slot_at t.stack.items at = c.index.ensures ∙ slot_within t.stack.items at c.index.result.now empty_slot (let e = c.in-Some.ensures.shallower in let f = c.requires.fits in omega (arith, e, f)) in
    no_rule_in l line p p below before now t.registers t.registers t.stack.items t.stack.items o m s
    (hold_row code line o m (activation_of t) (below_of below)
    ∙ subst (λ v. popping (values_of t.registers.depth v) o H ≡ with_top (Some at) v o H) c.deref.ensures.value (c.in-Some.ensures.row o H)
    ∙ having_none _ o _ (sym c.in_default-integer_in.is ∙ c.integer_in.ensures ∙ ap (λ x. integer_of (value_of x)) slot))

pub returns-in_default-take_block-clause-row : goal.returns-in_default-take_block-clause-row
unfolding Obeys
returns-in_default-take_block-clause-row c code l line now before o m s =
    let p = c.args.storage.now in
    let t = c.args.top.now in
    let below = c.args.below.now.items in
    let at = c.in-Some.at in
    let H = Hold_by code line o m (activation_of t) (below_of below) in
    let K = Hold_so code line o m (activation_of t) (below_of below) c.in-Some-integer_in.time in
    let slot : c.index.result.now ≡ slot_at t.stack.items at = c.index.ensures ∙ slot_within t.stack.items at c.index.result.now empty_slot (let e = c.in-Some.ensures.shallower in let f = c.requires.fits in omega (arith, e, f)) in
    no_rule_in l line p p below before now t.registers t.registers t.stack.items t.stack.items o m s
    (hold_row code line o m (activation_of t) (below_of below)
    ∙ subst (λ v. popping (values_of t.registers.depth v) o H ≡ with_top (Some at) v o H) c.deref.ensures.value (c.in-Some.ensures.row o H)
    ∙ having_some _ c.in-Some-integer_in.time o _ (sym c.in-Some-integer_in.is ∙ c.integer_in.ensures ∙ ap (λ x. integer_of (value_of x)) slot)
    ∙ block_missing p o m s.stores.simulations c.deref-2.result.now c.deref-3.result.now t.stack.items at c.deref-2.ensures.value c.deref-3.ensures.value (c.in_default-take_block.ensures.row o) K)

pub returns-in_default-hold_at-clause-row : goal.returns-in_default-hold_at-clause-row
unfolding Obeys Leaves
returns-in_default-hold_at-clause-row c code l line now before o m s = tt

pub returns-clause-row : goal.returns-clause-row
unfolding Obeys
returns-clause-row c code l line now before o m s =
    let p = c.args.storage.now in
    let t = c.args.top.now in
    let below = c.args.below.now.items in
    let a = activation_of t in
    let under = below_of below in
    let at = c.in-Some.at in
    let q = c.in-Some-take_block.block in
    let time = c.in-Some-integer_in.time in
    let H = Hold_by code line o m a under in
    let K = Hold_so code line o m a under time in
    let within : q.place < length p.simulations.items = subst (λ v. q.place < length v) c.deref-2.ensures.value c.in-Some-take_block.ensures.within in
    let found = some_within p.simulations.items q.place within in
    let y = found.0 in
    let slot : c.index.result.now ≡ slot_at t.stack.items at = c.index.ensures ∙ slot_within t.stack.items at c.index.result.now empty_slot (let e = c.in-Some.ensures.shallower in let f = c.requires.fits in omega (arith, e, f)) in
    let answer = c.in-Some-hold_at.answer in
    let passed : to_z w64 (of_z w64 time) ≡ time = search rules in
    let h = subst (λ z. Rescheduled p c.hold_at.new.storage q.place y y (held z y.sim.notices) answer) passed (c.in-Some-hold_at.ensures.row y found.1) in
    let chain = waiting a (values_of q.under t.stack.items) ∷ under in
    let d = c.decide in
    along l line d.new.storage d.new.below.items before now d.result d.new.top.registers d.new.top.stack.items _ _
    (hold_row code line o m a under
    ∙ subst (λ v. popping (values_of t.registers.depth v) o H ≡ with_top (Some at) v o H) c.deref.ensures.value (c.in-Some.ensures.row o H)
    ∙ having_some _ time o _ (sym c.in-Some-integer_in.is ∙ c.integer_in.ensures ∙ ap (λ x. integer_of (value_of x)) slot)
    ∙ block_taken p o m s.stores.simulations c.deref-2.result.now c.deref-3.result.now t.stack.items at q c.deref-2.ensures.value c.deref-3.ensures.value (c.in-Some-take_block.ensures.row o) y found.1 K)
    (decided_leaves l line p c.hold_at.new.storage t below before now o m s q.place y y found.1 (held time y.sim.notices) answer h d.result d.new.storage d.new.top d.new.below.items chain
    (λ o w x. d.ensures.row l line before now o w m x))
