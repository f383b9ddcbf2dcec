use Rattle.std.proofs.Common.{◌≡◌, ◌<◌, ◌∷◌, length, sym, subst, ap, ◌∙◌}
use Rattle.std.specs.Prelude.{Ok}
use Rattle.notices.specs.Scheduling.{passivated}
use Rattle.sim_code.specs.Levels.{ending_process}
use Rattle.sim_code.specs.Machine.{owner, waiting}
use Rattle.sim_code.specs.Scheduling.{deciding}
use Rattle.sim_code.specs.Simulations.{with_end}
use Rattle.frame_arena.specs.Frames.{Holds, Leads}
use Rattle.frame_arena.specs.Stacks.{values_of}
use Rattle.object_machine.specs.Simulating.{simulation_of}
use Rattle.object_machine.specs.Standing.{Leaves, Obeys, activation_of, below_of}
use Rattle.object_machine.proofs.Going.{along, no_rule_in}
use Rattle.object_machine.proofs.Rescheduled.{decided_leaves, some_within}
use Rattle.object_machine.proofs.Schedules.{block_missing, block_taken}
use Rattle.object_machine.proofs.SimulationRows.{Passivate_so, passivate_row}
use Rattle.object_machine.proofs.scheduling.passivate.Goals as goal

pub returns-in_default-clause-row : goal.returns-in_default-clause-row
unfolding Obeys
returns-in_default-clause-row c code l line now blocks classes before o m s =
    let p = c.args.storage.now in
    let t = c.args.top.now in
    let below = c.args.below.now.items in
    no_rule_in l line p p below before now t.registers t.registers t.stack.items t.stack.items o m s
    (passivate_row code line o m (activation_of t) (below_of below)
    ∙ block_missing p o m s.stores.simulations c.deref.result.now c.deref-2.result.now t.stack.items t.registers.depth c.deref.ensures.value c.deref-2.ensures.value (c.in_default.ensures.row o) (Passivate_so code line o m (activation_of t) (below_of below)))

pub returns-in_default-passivate_at-clause-row : goal.returns-in_default-passivate_at-clause-row
unfolding Obeys Leaves
returns-in_default-passivate_at-clause-row c code l line now blocks classes before o m s = tt

pub returns-clause-row : goal.returns-clause-row
unfolding Obeys
returns-clause-row c code l line now blocks classes before o m s =
    let p = c.args.storage.now in
    let t = c.args.top.now in
    let below = c.args.below.now.items in
    let a = activation_of t in
    let under = below_of below in
    let q = c.in-Some.block in
    let within : q.place < length p.simulations.items = subst (λ v. q.place < length v) c.deref.ensures.value c.in-Some.ensures.within in
    let found = some_within p.simulations.items q.place within in
    let y = found.0 in
    let one = s.stores.simulations.each q.place y found.1 in
    let answer = c.in-Some-passivate_at.answer in
    let h = c.in-Some-passivate_at.ensures.row y found.1 one.rises in
    let ending : ending_process code m a ≡ c.ending_object-ending.result = c.ending_object-ending.ensures.row code p.cells.items m t.stack.items blocks classes
    (subst (λ f. Holds f p.cells.items m) (sym c.deref-3.ensures.value) s.stores.frames) (subst (λ f. Leads f m t.registers.home) (sym c.deref-3.ensures.value) s.top.home) in
    let chain = waiting a (values_of q.under t.stack.items) ∷ under in
    let d = c.decide in
    along l line d.new.storage d.new.below.items before now d.result d.new.top.registers d.new.top.stack.items _ _
    (passivate_row code line o m a under
    ∙ block_taken p o m s.stores.simulations c.deref.result.now c.deref-2.result.now t.stack.items t.registers.depth q c.deref.ensures.value c.deref-2.ensures.value (c.in-Some.ensures.row o) y found.1 (Passivate_so code line o m a under)
    ∙ ap (λ e. deciding owner line o chain m (q.place, with_end e (simulation_of y)) (Ok (passivated y.sim.notices))) ending
    ∙ ap (λ x. deciding owner line o chain m (q.place, x) (Ok (passivated y.sim.notices))) (sym h.end))
    (decided_leaves l line p c.passivate_at.new.storage t below before now o m s q.place y h.before found.1 (Ok (passivated y.sim.notices)) answer h.is d.result d.new.storage d.new.top d.new.below.items chain
    (λ o w x. d.ensures.row l line before now o w m x))
