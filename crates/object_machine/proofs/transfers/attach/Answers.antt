use Rattle.std.proofs.Common.{◌≡◌, ◌∷◌, sym, subst, ◌∙◌, arith}
use Rattle.sim_base.specs.declared.run_error.RunError.TheVariants.{ComponentIsAttached, NoneIsNoComponent}
use Rattle.sim_values.specs.Plain.{MainOf, Nothing, Object}
use Rattle.sim_code.specs.Machine.{waiting}
use Rattle.sim_code.specs.Transfers.{Calling}
use Rattle.frame_arena.specs.Frames.{Leads, SlotLeads}
use Rattle.frame_arena.specs.Slots.{empty_slot}
use Rattle.frame_arena.specs.Stacks.{slot_at, values_of}
use Rattle.object_machine.specs.declared.machine.Flow.TheVariants as flow
use Rattle.object_machine.specs.Standing.{Obeys, activation_of, below_of}
use Rattle.object_machine.proofs.Going.{along, faults}
use Rattle.object_machine.proofs.Moving.{no_rule_left, row_none, row_of, row_other, slot_within}
use Rattle.object_machine.proofs.Transferring.{call_none, main_refused}
use Rattle.object_machine.proofs.transfers.attach.Goals as goal

pub returns-in_default-clause-row : goal.returns-in_default-clause-row
unfolding Obeys
returns-in_default-clause-row c l line now before o m s =
    let p = c.args.storage.now in
    let t = c.args.top.now in
    let below = c.args.below.now.items in
    no_rule_left l line p t below before now o m s p t below _ (row_none l line p t below before now o m s Calling 0 c.deref.result.now c.deref.ensures.value (c.in_default.ensures.row o))

pub returns-in-Object-clause-row : goal.returns-in-Object-clause-row
unfolding Obeys
returns-in-Object-clause-row c l line now before o m s =
    let p = c.args.storage.now in
    let t = c.args.top.now in
    let below = c.args.below.now.items in
    let at = c.in-Some.at in
    let slot : c.index.result.now ≡ slot_at t.stack.items at = c.index.ensures ∙ slot_within t.stack.items at c.index.result.now empty_slot (let e = c.in-Some.ensures.shallower in let f = c.requires.fits in omega (arith, e, f)) in
    let f = c.in-Object.object in
    let d = c.call_instance in
    let leads : Leads p.frames.items m f = c.in-Object.ensures.leads p.frames.items m (subst (λ x. SlotLeads p.frames.items m x) (sym slot) (s.top.slots at)) in
    along l line d.new.storage d.new.below.items before now d.result d.new.top.registers d.new.top.stack.items _ _
    (row_of l line p t below before now o m s Calling at c.deref.result.now c.deref.ensures.value (c.in-Some.ensures.row o) c.index.result.now slot (Object f.stamp) c.in-Object.ensures.is)
    (d.ensures.row l line before now o m s leads)

pub returns-in-Main-clause-row : goal.returns-in-Main-clause-row
unfolding Obeys
returns-in-Main-clause-row c l line now before o m s =
    let p = c.args.storage.now in
    let t = c.args.top.now in
    let below = c.args.below.now.items in
    let at = c.in-Some.at in
    let slot : c.index.result.now ≡ slot_at t.stack.items at = c.index.ensures ∙ slot_within t.stack.items at c.index.result.now empty_slot (let e = c.in-Some.ensures.shallower in let f = c.requires.fits in omega (arith, e, f)) in
    along l line p below before now (flow.Fault ComponentIsAttached) t.registers t.stack.items _ _
    (row_of l line p t below before now o m s Calling at c.deref.result.now c.deref.ensures.value (c.in-Some.ensures.row o) c.index.result.now slot (MainOf _) c.in-Main.ensures.is ∙ main_refused line o (waiting (activation_of t) (values_of at t.stack.items) ∷ below_of below) m Calling _)
    (faults l line p below before now ComponentIsAttached t.registers t.registers t.stack.items t.stack.items o m s)

pub returns-in-IsNone-clause-row : goal.returns-in-IsNone-clause-row
unfolding Obeys
returns-in-IsNone-clause-row c l line now before o m s =
    let p = c.args.storage.now in
    let t = c.args.top.now in
    let below = c.args.below.now.items in
    let at = c.in-Some.at in
    let slot : c.index.result.now ≡ slot_at t.stack.items at = c.index.ensures ∙ slot_within t.stack.items at c.index.result.now empty_slot (let e = c.in-Some.ensures.shallower in let f = c.requires.fits in omega (arith, e, f)) in
    along l line p below before now (flow.Fault NoneIsNoComponent) t.registers t.stack.items _ _
    (row_of l line p t below before now o m s Calling at c.deref.result.now c.deref.ensures.value (c.in-Some.ensures.row o) c.index.result.now slot Nothing c.in-IsNone.ensures.is ∙ call_none line o (waiting (activation_of t) (values_of at t.stack.items) ∷ below_of below) m)
    (faults l line p below before now NoneIsNoComponent t.registers t.registers t.stack.items t.stack.items o m s)

pub returns-in-Other-clause-row : goal.returns-in-Other-clause-row
unfolding Obeys
returns-in-Other-clause-row c l line now before o m s =
    let p = c.args.storage.now in
    let t = c.args.top.now in
    let below = c.args.below.now.items in
    let at = c.in-Some.at in
    let slot : c.index.result.now ≡ slot_at t.stack.items at = c.index.ensures ∙ slot_within t.stack.items at c.index.result.now empty_slot (let e = c.in-Some.ensures.shallower in let f = c.requires.fits in omega (arith, e, f)) in
    no_rule_left l line p t below before now o m s p t below _ (row_other l line p t below before now o m s Calling at c.deref.result.now c.deref.ensures.value (c.in-Some.ensures.row o) c.index.result.now slot c.in-Other.ensures.is)
