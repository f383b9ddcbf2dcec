use Rattle.std.proofs.Common.{◌∙◌, ap, refl, sym}
use Rattle.std.specs.Prelude.{Some}
use Rattle.sim_values.specs.Plain.{Text}
use Rattle.sim_code.specs.Events.{text_of}
use Rattle.sim_code.specs.Machine.{of_plain}
use Rattle.object_machine.proofs.ImageRows.{image_found}
use Rattle.object_machine.proofs.Scalars.{scalar_leads, scalar_leads_array}
use Rattle.object_machine.proofs.images.image_slot.Goals as goal

pub returns-in_default-clause-value : goal.returns-in_default-clause-value
returns-in_default-clause-value c o source e = ap (λ w. of_plain (text_of w)) (c.in_default.ensures ∙ sym (image_found c.args.images.now o.store source c.args.number e))

pub returns-clause-value : goal.returns-clause-value
returns-clause-value c o source e = ap Some c.text-slot.ensures.value ∙ ap (λ w. of_plain (text_of w)) (c.in-Some.ensures ∙ sym (image_found c.args.images.now o.store source c.args.number e))

pub returns-clause-leads : goal.returns-clause-leads
returns-clause-leads c frames m = scalar_leads frames m c.text-slot.result (Text c.in-Some.image) c.text-slot.ensures.value refl

pub returns-clause-leads_arrays : goal.returns-clause-leads_arrays
returns-clause-leads_arrays c regions arrays = scalar_leads_array regions arrays c.text-slot.result (Text c.in-Some.image) c.text-slot.ensures.value refl
