use Rattle.std.proofs.Common.{◌≡◌, map, replicate, sym, subst, refl, ap, ◌∙◌}
use Rattle.sim_values.specs.Plain.{initial}
use Rattle.sim_code.specs.Machine.{Of}
use Rattle.frame_arena.specs.Frames.{AllLead}
use Rattle.frame_arena.specs.Slots.{empty_slot, plain_of, value_of}
use Rattle.frame_arena.specs.Stacks.{slot_at}
use Rattle.frame_arena.proofs.ArrayCalls.{replicated_leads, replicated_map, replicated_plain}
use Rattle.frame_arena.proofs.Leading.{no_frame_leads}
use Rattle.frame_arena.proofs.arrays.making.first_elements.Goals as goal

pub returns-clause-values : goal.returns-clause-values
returns-clause-values c =
    let e : c.in_ok-elements.elements.items ≡ replicate c.args.count c.first_element-first.result = c.in_ok-elements.ensures.items_if_clones_equal (λ y e. e) in
    ap (map plain_of) e ∙ replicated_map c.args.count c.first_element-first.result (initial c.args.kind) c.first_element-first.ensures.plain

pub returns-clause-plain : goal.returns-clause-plain
returns-clause-plain c =
    let e : c.in_ok-elements.elements.items ≡ replicate c.args.count c.first_element-first.result = c.in_ok-elements.ensures.items_if_clones_equal (λ y e. e) in
    subst (λ l. (at : _) → value_of (slot_at l at) ≡ Of (plain_of (slot_at l at))) (sym e) (replicated_plain c.args.count c.first_element-first.result (initial c.args.kind) c.first_element-first.ensures.value)

pub returns-clause-leads : goal.returns-clause-leads
returns-clause-leads c frames m =
    let e : c.in_ok-elements.elements.items ≡ replicate c.args.count c.first_element-first.result = c.in_ok-elements.ensures.items_if_clones_equal (λ y e. e) in
    subst (λ l. AllLead frames m l) (sym e)
    (replicated_leads frames m c.args.count c.first_element-first.result (no_frame_leads frames m c.first_element-first.result c.first_element-first.ensures.scalar) (no_frame_leads frames m empty_slot refl))
