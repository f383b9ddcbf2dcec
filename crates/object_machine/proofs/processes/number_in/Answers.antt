use Rattle.std.proofs.Common.{sym, subst}
use Rattle.sim_values.specs.Plain.{Object}
use Rattle.sim_code.specs.Simulations.{number_in}
use Rattle.object_machine.specs.Enrolling.{Rises, stamps}
use Rattle.object_machine.specs.Simulating.{simulation_of}
use Rattle.object_machine.specs.Telling.{IsNumber}
use Rattle.object_machine.proofs.Told.{refers_object}
use Rattle.object_machine.proofs.processes.number_in.Goals as goal

pub returns-in-Object-clause-row : goal.returns-in-Object-clause-row
returns-in-Object-clause-row c p refers rises =
    subst (λ p. IsNumber c.number_of.result (number_in (simulation_of c.args.simulated.now) p)) (sym (refers_object c.args.reference c.in-Object.object p c.in-Object.is refers))
    (subst (λ v. Rises (stamps v) → IsNumber c.number_of.result (number_in (record (simulation_of c.args.simulated.now) { processes = stamps v }) (Object c.in-Object.object.stamp))) c.deref.ensures.value c.number_of.ensures.row rises)
