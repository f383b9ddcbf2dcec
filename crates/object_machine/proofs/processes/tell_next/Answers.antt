use Rattle.std.proofs.Common.{sym, refl, ap, ◌∙◌}
use Rattle.sim_values.specs.Plain.{Nothing}
use Rattle.sim_code.specs.Simulations.{process_after}
use Rattle.object_machine.specs.Simulating.{simulation_of}
use Rattle.object_machine.proofs.Scalars.{off}
use Rattle.object_machine.proofs.processes.tell_next.Goals as goal

pub returns-in-None : goal.returns-in-None
returns-in-None c = record {
  row = λ frames m s. (Nothing, ap (λ n. process_after (simulation_of c.args.simulated.now) n) (sym c.nextev.ensures ∙ c.in-None.is), refl, λ names. absurd (off names), refl);
}
