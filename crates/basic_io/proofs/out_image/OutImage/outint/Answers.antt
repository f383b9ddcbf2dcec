use Rattle.std.proofs.Common.{refl, ap, arith}
use Rattle.sim_values.specs.declared.value.TextVal.{TextVal}
use Rattle.sim_values.specs.Images.{OutputState}
use Rattle.basic_io.specs.Output.{output_state, writing}
use Rattle.basic_io.proofs.OutputFields.{field_made, outint_done, outint_fault, outint_refuses}
use Rattle.basic_io.proofs.out_image.OutImage.outint.Goals as goal

pub returns-then-places-from-clause-outcome : goal.returns-then-places-from-clause-outcome
returns-then-places-from-clause-outcome g c =
    let s : OutputState = output_state c.args.texts.now c.args.self.now in
    let made = field_made c.args.i c.args.width _ _ _ c.ranges.i c.ranges.width c.format.ensures.text c.as_bytes-digits.ensures.value c.field_places-places.ensures in
    outint_refuses s c.args.i c.args.width _ c.field_places-places.result _ made (writing c.args.texts.now c.args.self.now (g.O.Sink.written c.args.out.now)) (omega (arith, ap (λ (t : TextVal). t.length) c.self.view_is))

pub returns-in_err-make_room-clause-outcome : goal.returns-in_err-make_room-clause-outcome
returns-in_err-make_room-clause-outcome g c =
    let s : OutputState = output_state c.args.texts.now c.args.self.now in
    let made = field_made c.args.i c.args.width _ _ _ c.ranges.i c.ranges.width c.format.ensures.text c.as_bytes-digits.ensures.value c.field_places-places.ensures in
    outint_fault s c.args.i c.args.width _ c.field_places-places.result _ made _ _ c.in_err-make_room.field-0.0 _ (omega (arith, ap (λ (t : TextVal). t.length) c.self.view_is)) c.in_err-make_room.ensures.outcome c.from_residual.ensures.1

pub returns-clause-outcome : goal.returns-clause-outcome
returns-clause-outcome g c =
    let s : OutputState = output_state c.args.texts.now c.args.self.now in
    let made = field_made c.args.i c.args.width _ _ _ c.ranges.i c.ranges.width c.format.ensures.text c.as_bytes-digits.ensures.value c.field_places-places.ensures in
    outint_done s c.args.i c.args.width _ c.field_places-places.result _ made _ _ _ (omega (arith, ap (λ (t : TextVal). t.length) c.self.view_is)) c.in_ok-make_room.ensures.outcome c.put_field.ensures.frames c.put_field.ensures.image refl
