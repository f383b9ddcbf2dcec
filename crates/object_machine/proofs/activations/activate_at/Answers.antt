use Rattle.std.proofs.Common.{refl}
use Rattle.notices.specs.Scheduling.{activated}
use Rattle.object_machine.proofs.Rescheduled.{rescheduled_at}
use Rattle.object_machine.proofs.activations.activate_at.Goals as goal

pub returns-clause-row : goal.returns-clause-row
returns-clause-row c =
    rescheduled_at (λ y. activated c.args.taken.activation y.sim.notices) c.args.storage.now _ c.args.taken.place c.index_mut.result.now c.activate_in.new.simulated c.activate_in.result c.requires.place c.index_mut.ensures.value refl refl c.activate_in.ensures.row
