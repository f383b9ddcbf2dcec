use Rattle.std.proofs.Common.{refl}
use Rattle.object_machine.proofs.Rescheduled.{passivated_at}
use Rattle.object_machine.proofs.scheduling.passivate_at.Goals as goal

pub returns-clause-row : goal.returns-clause-row
returns-clause-row c =
    passivated_at c.args.storage.now _ c.args.place c.args.ending c.index_mut-simulated.result.now c.end_first.new.simulated c.passivate_in.new.simulated c.passivate_in.result c.requires c.index_mut-simulated.ensures.value refl refl
    c.end_first.ensures.ends c.end_first.ensures.row c.passivate_in.ensures.row
