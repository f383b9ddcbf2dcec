use Rattle.std.proofs.Common.{◌≡◌, ◌-◌, sym, ap, ◌∙◌}
use Rattle.std.specs.Option.{option_map}
use Rattle.std.specs.Prelude.{Some, slice_get, Ok}
use Rattle.sim_values.specs.Plain.{Object}
use Rattle.object_machine.proofs.Jumps.{found_at}
use Rattle.object_machine.proofs.Told.{object_of_number}
use Rattle.object_machine.proofs.processes.tell_process.Goals as goal

pub returns : goal.returns
returns c = record {
  row = λ frames m s.
      let y = c.args.simulated.now in
      let at = c.args.number.0 - 1 in
      let f = c.in-Some.object.now in
      let there : slice_get y.processes.items at ≡ Some f = ap (λ v. slice_get v at) (sym c.deref.ensures.value) ∙ found_at c.deref.result.now at f c.in-Some.ensures.lookup.3.0 c.in-Some.ensures.lookup.1 in
      (Object f.stamp, ap (λ q. option_map Ok q) (object_of_number y c.args.number.0 f c.if-number-eq0.false there), c.object.ensures.value, c.object.ensures.leads frames m (s.lead at f there), c.object.ensures.no_array);
}
