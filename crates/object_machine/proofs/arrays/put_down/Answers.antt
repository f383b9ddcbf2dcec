use Rattle.std.proofs.Common.{refl}
use Rattle.sim_code.specs.Machine.{Frames, Machine, on}
use Rattle.sim_code.specs.Outcome.{Run, World}
use Rattle.frame_arena.specs.Stacks.{values_of}
use Rattle.object_machine.specs.Standing.{Leaves, activation_at, below_of}
use Rattle.object_machine.proofs.Going.{along, depth_goes_on, no_rule_in}
use Rattle.object_machine.proofs.arrays.put_down.Goals as goal

pub returns-in-Done-clause-row : goal.returns-in-Done-clause-row
returns-in-Done-clause-row c l line stack below before now o m s la lv =
    let r = c.args.regs.now in
    let K : World → Frames → Run Machine = λ w m2. on w m2 (activation_at r stack) (values_of c.args.at stack) (below_of below) in
    let placed = c.in-Done.ensures.row l r stack below before now o m s la lv in
    along l line c.place.new.storage below before now _ _ _ _ _ (placed.is K)
    (depth_goes_on l line c.place.new.storage below before now r _ stack stack placed.world placed.memory c.args.at placed.stands refl (refl, refl, refl) refl refl placed.stands.top.slots placed.stands.top.arrays_lead)

pub returns-in-NoRule-clause-row : goal.returns-in-NoRule-clause-row
returns-in-NoRule-clause-row c l line stack below before now o m s la lv =
    let r = c.args.regs.now in
    let K : World → Frames → Run Machine = λ w m2. on w m2 (activation_at r stack) (values_of c.args.at stack) (below_of below) in
    no_rule_in l line c.args.storage.now c.place.new.storage below before now _ _ _ _ o m s (c.in-NoRule.ensures.row l r stack below before now o m s la lv K)

pub returns-in-Memory-clause-row : goal.returns-in-Memory-clause-row
unfolding Leaves
returns-in-Memory-clause-row c l line stack below before now o m s la lv = tt
