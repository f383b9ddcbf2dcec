use Rattle.std.proofs.Common.{refl}
use Rattle.notices.specs.Scheduling.{cancelled}
use Rattle.object_machine.proofs.Rescheduled.{rescheduled_at}
use Rattle.object_machine.proofs.scheduling.cancel_at.Goals as goal

pub returns-clause-row : goal.returns-clause-row
returns-clause-row c = rescheduled_at (λ y. cancelled c.args.process y.sim.notices) c.args.storage.now _ c.args.place c.index_mut.result.now c.cancel_in.new.simulated c.cancel_in.result c.requires c.index_mut.ensures.value refl refl c.cancel_in.ensures.row
