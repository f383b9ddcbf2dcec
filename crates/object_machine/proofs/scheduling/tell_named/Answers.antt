use Rattle.std.proofs.Common.{◌≡◌, ◌<◌, ◌∷◌, length, refl, subst, ◌∙◌}
use Rattle.std.specs.Option.{option_map}
use Rattle.std.specs.Prelude.{Ok, Some, slice_get}
use Rattle.sim_values.specs.Plain.{Plain}
use Rattle.sim_code.specs.Machine.{Machine, Of, on}
use Rattle.sim_code.specs.Outcome.{Run}
use Rattle.sim_code.specs.Simulations.{simulation_tells}
use Rattle.frame_arena.specs.Stacks.{values_of}
use Rattle.object_machine.specs.Simulating.{simulation_of}
use Rattle.object_machine.specs.Standing.{Obeys, activation_at, below_of}
use Rattle.object_machine.proofs.Going.{along, no_rule_in}
use Rattle.object_machine.proofs.Jumps.{found_at}
use Rattle.object_machine.proofs.Schedules.{block_missing, block_taken}
use Rattle.object_machine.proofs.SimulationRows.{Tell_so}
use Rattle.object_machine.proofs.Told.{told_ok}
use Rattle.object_machine.proofs.scheduling.tell_named.Goals as goal

pub returns-in_default-clause-row : goal.returns-in_default-clause-row
unfolding Obeys
returns-in_default-clause-row c l line below now before o m s =
    let p = c.args.storage.now in
    let r = c.args.regs.now in
    let stack = c.args.stack.now in
    no_rule_in l line p p below before now r r stack stack o m s
    (block_missing p o m s.stores.simulations c.deref.result.now stack stack r.depth c.deref.ensures.value refl (c.in_default.ensures.row o) (Tell_so o m (activation_at r stack) (below_of below) c.args.name))

pub returns-clause-row : goal.returns-clause-row
unfolding Obeys
returns-clause-row c l line below now before o m s =
    let p = c.args.storage.now in
    let r = c.args.regs.now in
    let stack = c.args.stack.now in
    let a = activation_at r stack in
    let under = below_of below in
    let q = c.in-Some.block in
    let y = c.index.result.now in
    let within : q.place < length p.simulations.items = subst (λ v. q.place < length v) c.deref.ensures.value c.in-Some.ensures.within in
    let there : slice_get p.simulations.items q.place ≡ Some y = found_at p.simulations.items q.place y within c.index.ensures in
    let w = simulation_tells c.args.name (simulation_of y) in
    let go : Plain → Run Machine = λ v. on o m a (Of v ∷ values_of q.under stack) under in
    along l line p below before now _ _ _ _ _
    (block_taken p o m s.stores.simulations c.deref.result.now stack stack r.depth q c.deref.ensures.value refl (c.in-Some.ensures.row o) y there (Tell_so o m a under c.args.name) ∙ told_ok line o go w)
    (c.settle_told.ensures.row l line p below before now o m (option_map Ok w) s (c.tell_block-told.ensures.row p.frames.items m (s.stores.simulations.each q.place y there)))
