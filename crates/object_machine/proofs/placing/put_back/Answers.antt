use Rattle.std.proofs.Common.{refl}
use Rattle.sim_values.specs.Plain.{Text}
use Rattle.object_machine.proofs.ReadOperands.{back_from, back_in_cell, back_in_element, back_in_image, back_nowhere}
use Rattle.object_machine.proofs.Scalars.{scalar_leads, scalar_leads_array}
use Rattle.object_machine.proofs.placing.put_back.Goals as goal

pub returns-in-Cell-clause-row : goal.returns-in-Cell-clause-row
returns-in-Cell-clause-row c l r stack below before now o m s la =
    let slot = c.text-slot.result in
    let is = c.text-slot.ensures.value in
    let p = c.args.storage.now in
    back_from l c.place.new.storage r stack below before now o m c.args.address slot c.args.text c.place.result (back_in_cell o m c.args.text c.args.address slot is c.in-Cell.is)
    (c.place.ensures.row l r stack below before now o m s la (scalar_leads p.frames.items m slot (Text c.args.text) is refl, scalar_leads_array p.arrays.regions o.arrays slot (Text c.args.text) is refl))

pub returns-in-Element-clause-row : goal.returns-in-Element-clause-row
returns-in-Element-clause-row c l r stack below before now o m s la =
    let slot = c.text-slot.result in
    let is = c.text-slot.ensures.value in
    let p = c.args.storage.now in
    back_from l c.place-in-Element.new.storage r stack below before now o m c.args.address slot c.args.text c.place-in-Element.result (back_in_element o m c.args.text c.args.address slot is c.in-Element.is)
    (c.place-in-Element.ensures.row l r stack below before now o m s la (scalar_leads p.frames.items m slot (Text c.args.text) is refl, scalar_leads_array p.arrays.regions o.arrays slot (Text c.args.text) is refl))

pub returns-in-Image-clause-row : goal.returns-in-Image-clause-row
returns-in-Image-clause-row c l r stack below before now o m s la =
    let slot = c.text-slot.result in
    let is = c.text-slot.ensures.value in
    let p = c.args.storage.now in
    back_from l c.place-in-Image.new.storage r stack below before now o m c.args.address slot c.args.text c.place-in-Image.result (back_in_image o m c.args.text c.args.address slot is c.in-Image.is)
    (c.place-in-Image.ensures.row l r stack below before now o m s la (scalar_leads p.frames.items m slot (Text c.args.text) is refl, scalar_leads_array p.arrays.regions o.arrays slot (Text c.args.text) is refl))

pub returns-in_default : goal.returns-in_default
returns-in_default c = record {
  frames = refl;
  valid = λ h. h;
  row = λ l r stack below before now o m s la. record { world = o; memory = m; is = λ go. back_nowhere o m c.args.text go c.args.address.kind c.args.address c.in_default.not-Cell c.in_default.not-Element c.in_default.not-Image; stands = s };
}
