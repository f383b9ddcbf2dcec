use Rattle.std.proofs.Common.{◌≡◌, ◌∷◌, ◌-◌, sym, ap, ◌∙◌}
use Rattle.std.specs.Prelude.{None, Some, slice_get}
use Rattle.sim_code.specs.Machine.{waiting}
use Rattle.frame_arena.specs.Stacks.{values_of}
use Rattle.object_machine.specs.Standing.{Leaves, activation_of, below_of}
use Rattle.object_machine.proofs.Decisions.{object_gone, object_there, to_main, to_none, to_object}
use Rattle.object_machine.proofs.Going.{along, no_rule_in}
use Rattle.object_machine.proofs.Jumps.{found_at, none_at}
use Rattle.object_machine.proofs.deciding.resume_process.Goals as goal

pub returns-in_default-clause-row : goal.returns-in_default-clause-row
unfolding Leaves
returns-in_default-clause-row c l line before now o m x s is = tt

pub returns-in_default-find-clause-row : goal.returns-in_default-find-clause-row
unfolding Leaves
returns-in_default-find-clause-row c l line before now o m x s is = tt

pub returns-then-process-eq0-clause-row : goal.returns-then-process-eq0-clause-row
returns-then-process-eq0-clause-row c l line before now o m x s is =
    let t = c.args.top.now in
    let below = c.args.below.now.items in
    let depth = c.args.depth in
    let p = c.args.storage.now in
    let y = c.in-Some.simulated.now in
    let there : slice_get p.simulations.items c.args.place ≡ Some y = ap (λ v. slice_get v c.args.place) (sym c.deref.ensures.value) ∙ found_at c.deref.result.now c.args.place y c.in-Some.ensures.lookup.3.0 c.in-Some.ensures.lookup.1 in
    let d = c.resume_main in
    along l line d.new.storage d.new.below.items before now d.result d.new.top.registers d.new.top.stack.items _ _
    (to_main line o (waiting (activation_of t) (values_of depth t.stack.items) ∷ below_of below) m x c.args.process y.block.stamp c.if-process-eq0.true (is y there).0)
    (d.ensures.row l line before now o m s)

pub returns-in_default-get-clause-row : goal.returns-in_default-get-clause-row
returns-in_default-get-clause-row c l line before now o m x s is =
    let t = c.args.top.now in
    let below = c.args.below.now.items in
    let depth = c.args.depth in
    let p = c.args.storage.now in
    let y = c.in-Some.simulated.now in
    let at = c.args.process.0 - 1 in
    let there : slice_get p.simulations.items c.args.place ≡ Some y = ap (λ v. slice_get v c.args.place) (sym c.deref.ensures.value) ∙ found_at c.deref.result.now c.args.place y c.in-Some.ensures.lookup.3.0 c.in-Some.ensures.lookup.1 in
    let gone : slice_get y.processes.items at ≡ None = ap (λ v. slice_get v at) (sym c.deref-2.ensures.value) ∙ none_at c.deref-2.result.now at c.in_default-get.ensures.lookup.3 in
    no_rule_in l line p p below before now t.registers t.registers t.stack.items t.stack.items o m s
    (to_none line o (waiting (activation_of t) (values_of depth t.stack.items) ∷ below_of below) m x c.args.process c.if-process-eq0.false (ap (λ v. slice_get v at) (is y there).1 ∙ object_gone y.processes.items at gone))

pub returns-clause-row : goal.returns-clause-row
returns-clause-row c l line before now o m x s is =
    let t = c.args.top.now in
    let below = c.args.below.now.items in
    let depth = c.args.depth in
    let p = c.args.storage.now in
    let y = c.in-Some.simulated.now in
    let at = c.args.process.0 - 1 in
    let there : slice_get p.simulations.items c.args.place ≡ Some y = ap (λ v. slice_get v c.args.place) (sym c.deref.ensures.value) ∙ found_at c.deref.result.now c.args.place y c.in-Some.ensures.lookup.3.0 c.in-Some.ensures.lookup.1 in
    let f = c.in-Some-get.object.now in
    let here : slice_get y.processes.items at ≡ Some f = ap (λ v. slice_get v at) (sym c.deref-2.ensures.value) ∙ found_at c.deref-2.result.now at f c.in-Some-get.ensures.lookup.3.0 c.in-Some-get.ensures.lookup.1 in
    let d = c.resume_instance in
    along l line d.new.storage d.new.below.items before now d.result d.new.top.registers d.new.top.stack.items _ _
    (to_object line o (waiting (activation_of t) (values_of depth t.stack.items) ∷ below_of below) m x c.args.process f.stamp c.if-process-eq0.false (ap (λ v. slice_get v at) (is y there).1 ∙ object_there y.processes.items at f here))
    (d.ensures.row l line before now o m s ((s.stores.simulations.each c.args.place y there).lead at f here))
