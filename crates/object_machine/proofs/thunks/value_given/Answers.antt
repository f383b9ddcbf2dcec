use Rattle.std.proofs.Common.{sym, subst, ◌∙◌}
use Rattle.std.specs.Prelude.{IfSome}
use Rattle.frame_arena.specs.Arrays.{AllLeadArrays, ElementsLead}
use Rattle.frame_arena.specs.Frames.{AllLead, Holds, SlotLeads}
use Rattle.frame_arena.specs.Slots.{value_of}
use Rattle.object_machine.proofs.ThunkRows.{both_lead, given_itself, given_there}
use Rattle.object_machine.proofs.thunks.value_given.Goals as goal

pub returns-then-is_address-clause-leads : goal.returns-then-is_address-clause-leads
returns-then-is_address-clause-leads c l before now o m s led =
    let p = c.args.storage.now in
    let cells : AllLead c.deref.result.now m c.deref-then-is_address.result.now = subst (λ f. AllLead f m c.deref-then-is_address.result.now) (sym c.deref.ensures.value) (subst (λ x. AllLead p.frames.items m x) (sym c.deref-then-is_address.ensures.value) s.frames.links) in
    let elements : ElementsLead c.deref.result.now m p.arrays.regions = subst (λ f. ElementsLead f m p.arrays.regions) (sym c.deref.ensures.value) s.elements in
    let cells2 : AllLeadArrays p.arrays.regions o.arrays c.deref-then-is_address.result.now = subst (λ x. AllLeadArrays p.arrays.regions o.arrays x) (sym c.deref-then-is_address.ensures.value) s.cells in
    both_lead p.frames.items m p.arrays.regions o.arrays c.value_at.result
    (subst (λ f. IfSome c.value_at.result (λ x. SlotLeads f m x)) c.deref.ensures.value (c.value_at.ensures.leads m cells elements)) (c.value_at.ensures.leads_arrays o.arrays s.arrays cells2)

pub returns-then-is_address-clause-row : goal.returns-then-is_address-clause-row
returns-then-is_address-clause-row c l before now o m s led =
    let p = c.args.storage.now in
    let h : Holds c.deref.result.now c.deref-then-is_address.result.now m = subst (λ f. Holds f c.deref-then-is_address.result.now m) (sym c.deref.ensures.value) (subst (λ x. Holds p.frames.items x m) (sym c.deref-then-is_address.ensures.value) s.frames) in
    c.value_at.ensures.value o m now.source h s.arrays s.world.image (subst (λ f. SlotLeads f m c.args.given) (sym c.deref.ensures.value) led.0) led.1
    ∙ given_there o m (value_of c.args.given) (sym c.is_address.ensures ∙ c.if-is_address.true)

pub returns-clause-row : goal.returns-clause-row
returns-clause-row c l before now o m s led = given_itself o m (value_of c.args.given) (sym c.is_address.ensures ∙ c.if-is_address.false)
