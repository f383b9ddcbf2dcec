use Rattle.std.proofs.Common.{subst, ap, ◌∙◌}
use Rattle.std.specs.Prelude.{Option, Some}
use Rattle.notices.specs.declared.activation.ProcessRef.{ProcessRef}
use Rattle.sim_values.specs.Plain.{Plain}
use Rattle.sim_code.specs.Classes.{in_process}
use Rattle.sim_code.specs.Machine.{plain}
use Rattle.sim_code.specs.Scheduling.{beside}
use Rattle.sim_code.specs.Simulations.{seen}
use Rattle.frame_arena.specs.Slots.{value_of}
use Rattle.object_machine.specs.Simulating.{simulation_of}
use Rattle.object_machine.specs.Telling.{Sees, bound}
use Rattle.object_machine.proofs.ActivationRows.{placed_beside, placed_nowhere}
use Rattle.object_machine.proofs.activations.place_in.Goals as goal

pub returns-in-Err : goal.returns-in-Err
returns-in-Err c = record {
  row = λ code cells m b k holds s leads.
      let sight : Plain → Option (Option ProcessRef) = λ p. seen (in_process code m c.args.simulated.now.block.stamp) (simulation_of c.args.simulated.now) p in
      let v = value_of c.args.slot in
      let sees : Sees c.seen.result (bound (plain v) sight) = c.seen.ensures.row code cells m b k holds s leads in
      placed_nowhere sight v c.args.timing c.in-Beside.before c.in-Err.missing c.in-Beside.is (subst (λ r. Sees r (bound (plain v) sight)) c.in-Err.is sees);
}

pub returns-then-before : goal.returns-then-before
returns-then-before c = record {
  row = λ code cells m b k holds s leads.
      let sight : Plain → Option (Option ProcessRef) = λ p. seen (in_process code m c.args.simulated.now.block.stamp) (simulation_of c.args.simulated.now) p in
      let v = value_of c.args.slot in
      let sees : Sees c.seen.result (bound (plain v) sight) = c.seen.ensures.row code cells m b k holds s leads in
      placed_beside sight v c.args.timing c.in-Beside.before c.in-Beside.is ∙ ap (λ q. beside c.in-Beside.before q) (subst (λ r. Sees r (bound (plain v) sight)) c.in-Ok.is sees) ∙ ap (λ h. beside h (Some c.in-Ok.process)) c.if-before.true;
}

pub returns-else-before : goal.returns-else-before
returns-else-before c = record {
  row = λ code cells m b k holds s leads.
      let sight : Plain → Option (Option ProcessRef) = λ p. seen (in_process code m c.args.simulated.now.block.stamp) (simulation_of c.args.simulated.now) p in
      let v = value_of c.args.slot in
      let sees : Sees c.seen.result (bound (plain v) sight) = c.seen.ensures.row code cells m b k holds s leads in
      placed_beside sight v c.args.timing c.in-Beside.before c.in-Beside.is ∙ ap (λ q. beside c.in-Beside.before q) (subst (λ r. Sees r (bound (plain v) sight)) c.in-Ok.is sees) ∙ ap (λ h. beside h (Some c.in-Ok.process)) c.if-before.false;
}
