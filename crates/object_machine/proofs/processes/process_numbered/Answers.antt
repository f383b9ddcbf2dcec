use Rattle.std.proofs.Common.{◌≡◌, ◌-◌, sym, ap, ◌∙◌}
use Rattle.std.specs.Prelude.{Some, slice_get}
use Rattle.sim_code.specs.Simulations.{process_numbered}
use Rattle.object_machine.specs.Simulating.{simulation_of}
use Rattle.object_machine.proofs.Jumps.{found_at}
use Rattle.object_machine.proofs.Told.{names_object, object_of_number}
use Rattle.object_machine.proofs.processes.process_numbered.Goals as goal

pub returns : goal.returns
returns c = record {
  row =
      let y = c.args.simulated.now in
      let at = c.args.number.0 - 1 in
      let f = c.in-Some.object.now in
      let there : slice_get y.processes.items at ≡ Some f = ap (λ v. slice_get v at) (sym c.deref.ensures.value) ∙ found_at c.deref.result.now at f c.in-Some.ensures.lookup.3.0 c.in-Some.ensures.lookup.1 in
      names_object c.args.number.0 f (process_numbered (simulation_of y) c.args.number.0) c.if-number-eq0.false (object_of_number y c.args.number.0 f c.if-number-eq0.false there);
}
