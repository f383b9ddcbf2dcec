use Rattle.std.proofs.Common.{◌∷◌, List, sym, subst, refl, ap, ◌∙◌}
use Rattle.sim_values.specs.Plain.{Plain}
use Rattle.sim_code.specs.Machine.{Machine, Of, Value, on}
use Rattle.sim_code.specs.Outcome.{Run}
use Rattle.frame_arena.specs.Stacks.{values_of}
use Rattle.object_machine.specs.Standing.{Leaves, activation_at, below_of}
use Rattle.object_machine.specs.Telling.{Tells}
use Rattle.object_machine.proofs.Going.{along, depth_goes_on, faults, no_rule_in}
use Rattle.object_machine.proofs.Told.{told_fault, told_none, told_value}
use Rattle.object_machine.proofs.processes.settle_told.Goals as goal

pub returns-in_default-clause-row : goal.returns-in_default-clause-row
unfolding Leaves
returns-in_default-clause-row c l line p below before now o m q s tells = tt

pub returns-in-Some-clause-row : goal.returns-in-Some-clause-row
returns-in-Some-clause-row c l line p below before now o m q s tells =
    let r = c.args.regs.now in
    let stack = c.args.stack.now in
    let at = c.args.at in
    let t = subst (λ w. Tells w p.frames.items m q) c.in-Value.is tells in
    let K : List Value → Run Machine = λ st. on o m (activation_at r stack) st (below_of below) in
    let go : Plain → Run Machine = λ v. K (Of v ∷ values_of at stack) in
    along l line p below before now _ _ _ _ _
    (told_value line o go q t.0 t.1 ∙ ap (λ z. K (z ∷ values_of at stack)) (sym t.2) ∙ c.in-Some.ensures.row o K)
    (depth_goes_on l line p below before now r _ stack c.put.new.stack o m c.in-Some.depth s c.put.ensures.long (refl, refl, refl) refl refl
    (c.put.ensures.leads p.frames.items m s.top.slots t.3) (c.put.ensures.leads_arrays p.arrays.regions o.arrays s.top.arrays_lead t.4))

pub returns-in-Fault-clause-row : goal.returns-in-Fault-clause-row
returns-in-Fault-clause-row c l line p below before now o m q s tells =
    let r = c.args.regs.now in
    let stack = c.args.stack.now in
    along l line p below before now _ _ _ _ _
    (told_fault line o (λ v. on o m (activation_at r stack) (Of v ∷ values_of c.args.at stack) (below_of below)) q c.in-Fault.error (subst (λ w. Tells w p.frames.items m q) c.in-Fault.is tells))
    (faults l line p below before now c.in-Fault.error r r stack stack o m s)

pub returns-in-NoRule-clause-row : goal.returns-in-NoRule-clause-row
returns-in-NoRule-clause-row c l line p below before now o m q s tells =
    let r = c.args.regs.now in
    let stack = c.args.stack.now in
    no_rule_in l line p p below before now r r stack stack o m s
    (told_none line o (λ v. on o m (activation_at r stack) (Of v ∷ values_of c.args.at stack) (below_of below)) q (subst (λ w. Tells w p.frames.items m q) c.in-NoRule.is tells))

pub returns-in-Memory-clause-row : goal.returns-in-Memory-clause-row
unfolding Leaves
returns-in-Memory-clause-row c l line p below before now o m q s tells = tt
