use Rattle.std.proofs.Common.{◌≡◌, ap, sym, subst, ◌∙◌}
use Rattle.sim_code.specs.Instances.{ElementPlace}
use Rattle.sim_code.specs.Machine.{place_in, value_at}
use Rattle.frame_arena.specs.Arrays.{ArrayLeads, names_array}
use Rattle.frame_arena.specs.Frames.{found_value}
use Rattle.frame_arena.specs.Slots.{value_by}
use Rattle.object_machine.specs.Arrayed.{value_there}
use Rattle.object_machine.proofs.reading.value_at.Goals as goal

pub returns-in-Element-clause-value : goal.returns-in-Element-clause-value
returns-in-Element-clause-value c o m source h arrays ports leads lead =
    let s = c.args.address in
    let es = c.stamp_of-stamp.ensures in
    subst (λ n. found_value c.element.result ≡ value_at o m (ElementPlace n s.more s.class)) es
    (c.element.ensures.value o m s.class arrays (subst (λ n. ArrayLeads c.args.arrays.now.regions o.arrays (record { array = s.name; stamp = n })) (sym es) (lead (ap names_array c.in-Element.is))))
    ∙ sym (ap (λ k. value_there o m (place_in (value_by k s))) c.in-Element.is)

pub returns-in-Image-clause-value : goal.returns-in-Image-clause-value
returns-in-Image-clause-value c o m source h arrays ports leads lead =
    let s = c.args.address in
    c.image_slot.ensures.value o source ports ∙ sym (ap (λ k. value_there o m (place_in (value_by k s))) c.in-Image.is)
