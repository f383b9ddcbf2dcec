use Rattle.std.proofs.Common.{refl, arith}
use Rattle.object_machine.specs.Standing.{Obeys}
use Rattle.object_machine.proofs.Going.{tick_off, tick_on, stands_tick, depth_goes_on}
use Rattle.object_machine.proofs.control.tick.Goals as goal

pub returns-then-storage-limits-clause-row : goal.returns-then-storage-limits-clause-row
unfolding Obeys
returns-then-storage-limits-clause-row c line stack below now before o m s = tick_off c.args.limits.now line c.args.storage.now below before now c.args.regs.now stack o m _ s (omega (arith, c.if-storage-limits.true))

pub returns-clause-row : goal.returns-clause-row
unfolding Obeys
returns-clause-row c line stack below now before o m s =
    tick_on c.args.limits.now line c.args.storage.now below before now _ _ _ stack below o _ s.stores.world (omega (arith, c.if-storage-limits.false))
    (depth_goes_on c.args.limits.now line _ below before now c.args.regs.now _ stack stack _ m c.args.regs.now.depth (stands_tick c.args.limits.now line c.args.storage.now below before now c.args.regs.now stack o m s) refl (refl, refl, refl) refl refl s.top.slots s.top.arrays_lead)
