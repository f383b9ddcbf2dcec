use Rattle.std.proofs.Common.{rules, of_z, to_z, w64, ◌≡◌, IfSome, refl, subst}
use Rattle.notices.specs.Scheduling.{held}
use Rattle.object_machine.specs.Rescheduling.{Reschedules}
use Rattle.object_machine.proofs.Rescheduled.{rescheduled_at}
use Rattle.object_machine.proofs.scheduling.hold_at.Goals as goal

pub returns-clause-row : goal.returns-clause-row
returns-clause-row c =
    let y = c.index_mut.result.now in
    let passed : to_z w64 (of_z w64 c.args.time) ≡ c.args.time = search rules in
    rescheduled_at (λ y. held c.args.time y.sim.notices) c.args.storage.now _ c.args.place y c.hold_in.new.simulated c.hold_in.result c.requires c.index_mut.ensures.value refl refl
    (subst (λ t. IfSome c.hold_in.result (λ a. Reschedules y c.hold_in.new.simulated (held t y.sim.notices) a)) passed c.hold_in.ensures.row)
