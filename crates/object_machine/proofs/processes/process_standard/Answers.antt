use Rattle.std.proofs.Common.{◌∷◌, List, sym, subst, ◌∙◌}
use Rattle.sim_values.specs.Plain.{Plain}
use Rattle.sim_code.specs.Instances.{encloser_of}
use Rattle.sim_code.specs.Machine.{Machine, Of, Value, on}
use Rattle.sim_code.specs.Outcome.{Run}
use Rattle.frame_arena.specs.Frames.{Holds, SlotLeads}
use Rattle.frame_arena.specs.Slots.{value_of}
use Rattle.frame_arena.specs.Stacks.{slot_at, values_of}
use Rattle.object_machine.specs.Simulating.{Simulating}
use Rattle.object_machine.specs.Standing.{Obeys, activation_at, below_of}
use Rattle.object_machine.specs.Telling.{Tells, told_of}
use Rattle.object_machine.proofs.Going.{along, no_rule_in}
use Rattle.object_machine.proofs.Sights.{Tell, process_row}
use Rattle.object_machine.proofs.processes.process_standard.Goals as goal

pub returns-in_default-clause-row : goal.returns-in_default-clause-row
unfolding Obeys
returns-in_default-clause-row c l line below now before o m s =
    let p = c.args.storage.now in
    let r = c.args.regs.now in
    let stack = c.args.stack.now in
    let go : Plain → List Value → Run Machine = λ z rest. on o m (activation_at r stack) (Of z ∷ rest) (below_of below) in
    no_rule_in l line p p below before now r r stack stack o m s
    (process_row (encloser_of m) c.args.name line o go (values_of r.depth stack) ∙ c.in_default.ensures.row o (Tell (encloser_of m) c.args.name line o go))

pub returns-clause-row : goal.returns-clause-row
unfolding Obeys
returns-clause-row c l line below now before o m s =
    let p = c.args.storage.now in
    let r = c.args.regs.now in
    let stack = c.args.stack.now in
    let at = c.in-Some.at in
    let around = encloser_of m in
    let go : Plain → List Value → Run Machine = λ z rest. on o m (activation_at r stack) (Of z ∷ rest) (below_of below) in
    let frames = c.deref.ensures.value in
    let told = c.tell_named-told.result in
    let q = told_of around c.args.name o.simulations (value_of (slot_at stack at)) in
    let tells : Tells told c.deref.result.now m q = c.tell_named-told.ensures.row p.cells.items m o.simulations (subst (λ f. Holds f p.cells.items m) (sym frames) s.stores.frames)
    (subst (λ f. Simulating f m c.deref-2.result.now o.simulations) (sym frames) (subst (λ k. Simulating p.frames.items m k o.simulations) (sym c.deref-2.ensures.value) s.stores.simulations))
    (subst (λ f. SlotLeads f m (slot_at stack at)) (sym frames) (s.top.slots at)) in
    along l line p below before now _ _ _ _ _
    (process_row around c.args.name line o go (values_of r.depth stack) ∙ c.in-Some.ensures.row o (Tell around c.args.name line o go))
    (c.settle_told.ensures.row l line p below before now o m q s (subst (λ f. Tells told f m q) frames tells))
